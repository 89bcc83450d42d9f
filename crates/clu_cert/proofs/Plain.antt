-- Numbers without a leading zero.
use Rattle.std.proofs.Common.{◌≡◌, ℕ, zero, suc, ◌+◌, ◌*◌, ◌/◌, ◌%◌, ◌<◌, ◌≤◌, ◌^◌, List, [], ◌∷◌, ◌++◌, ◌⊎◌, Option, Some, None, length, take, get_or, refl, sym, ◌∙◌, ap, subst, arith, ℤ, pos, negsuc, neg_ℤ, unsigned_abs}
use Rattle.std.specs.Fmt.{decimal, signed_decimal}
use Rattle.std.specs.Option.{MatchOption}
use Rattle.clu_text.specs.Numbers.{IsNumber, IsU32, IsU64, IsU128}
use Rattle.std.specs.Char.{digit_value}
use Rattle.std.specs.Int.{IsInRange}
use Rattle.std.specs.Str.Parse.{IsNumeral, AllDigits, digits_value}
use Rattle.std.proofs.lemmas.Fmt.{decimal_is_IsNumeral_wide, decimal_by_steps_wide, decimal_step_wide, decimal_digit}
use Rattle.std.proofs.lemmas.Int.Digits.{digits_value_more}
use Rattle.std.proofs.lemmas.List.{take_all, take_more}
use Rattle.std.proofs.lemmas.Str.{digit_value_digit}
use Rattle.std.proofs.lemmas.Str.Parse.{digit_at}
use Rattle.clu_cert.specs.Reads.{ReadsSpelling}
use Rattle.clu_text.proofs.Digits.{value_of_front}

abbrev pub Starts : ℕ → List ℕ → Type 0
Starts n ds = (0 < n → 48 < get_or ds 0 0) × (48 ≤ get_or ds 0 0) × (0 < length ds)

starts_more : (n : ℕ) (ds : List ℕ) (d : ℕ) → 10 ≤ n → Starts (n / 10) ds → Starts n (ds ++ d ∷ [])
starts_more n [] d big s = absurd (omega (arith, s.2))
starts_more n (x ∷ ds) d big s = (λ h. s.0 (omega arith), s.1, omega arith)

pub starts : (n : ℕ) → n < 10 ^ 64 → Starts n (decimal n)
starts n fits = decimal_by_steps_wide Starts (λ n small. (λ h. omega arith, omega arith, omega arith)) (λ n ds big s. starts_more n ds _ big s) n fits

next_digit : (n d : ℕ) → 0 < n → d < 10 → n * 10 + d < 10 ^ 64 → decimal (n * 10 + d) ≡ decimal n ++ (48 + d) ∷ []
next_digit n d some small fits =
    let front : (n * 10 + d) / 10 ≡ n = omega arith in
    let last : (n * 10 + d) % 10 ≡ d = omega arith in
    decimal_step_wide (n * 10 + d) (omega arith) fits ∙ (λ i. decimal (front i) ++ (48 + last i) ∷ [])

front_first : (ds : List ℕ) → AllDigits 10 ds → 0 < length ds → 48 < get_or ds 0 0
    → (decimal (digits_value 10 (take 1 ds)) ≡ take 1 ds) × (0 < digits_value 10 (take 1 ds))
front_first ds digits some high =
    let range : IsInRange 48 57 (get_or ds 0 0) = digit_at ds 0 digits some in
    let value : digit_value (get_or ds 0 0) + 48 ≡ get_or ds 0 0 = digit_value_digit _ range in
    let is : digits_value 10 (take 1 ds) ≡ digit_value (get_or ds 0 0) =
    (let m : digits_value 10 (take 1 ds) ≡ digits_value 10 [] * 10 + digit_value (get_or ds 0 0) = digits_value_more 10 ds 0 some in omega
    (arith, m)) in
    let one : take 1 ds ≡ get_or ds 0 0 ∷ [] = take_more ds 0 0 some in (
      ap decimal is ∙ decimal_digit (digit_value (get_or ds 0 0)) (omega (arith, range, value))
          ∙ (λ i. (let e : 48 + digit_value (get_or ds 0 0) ≡ get_or ds 0 0 = omega (arith, value) in e) i ∷ []) ∙ sym one,
      omega (arith, is, value, high),
    )

front : (ds : List ℕ) (i : ℕ) → AllDigits 10 ds → 48 < get_or ds 0 0 → i < length ds → digits_value 10 ds < 10 ^ 64
    → (decimal (digits_value 10 (take (i + 1) ds)) ≡ take (i + 1) ds) × (0 < digits_value 10 (take (i + 1) ds))
front ds zero digits high at fits = front_first ds digits at high
front ds (suc i) digits high at fits =
    let ih : (decimal (digits_value 10 (take (suc i) ds)) ≡ take (suc i) ds)
    × (0 < digits_value 10 (take (suc i) ds)) = subst (λ (k : ℕ). (decimal (digits_value 10 (take k ds)) ≡ take k ds)
    × (0 < digits_value 10 (take k ds))) (let e : i + 1 ≡ suc i = omega arith in e) (front ds i digits high (omega arith) fits) in
    let range : IsInRange 48 57 (get_or ds (suc i) 0) = digit_at ds (suc i) digits at in
    let value : digit_value (get_or ds (suc i) 0) + 48 ≡ get_or ds (suc i) 0 = digit_value_digit _ range in
    let is : digits_value 10 (take (suc i + 1) ds) ≡ digits_value 10 (take (suc i) ds) * 10 + digit_value (get_or ds (suc i) 0) = digits_value_more
    10 ds (suc i) at in
    let whole : digits_value 10 (take (suc i + 1) ds) ≤ digits_value 10 ds = value_of_front (suc i + 1) ds in
    let more : take (suc i + 1) ds ≡ take (suc i) ds ++ get_or ds (suc i) 0 ∷ [] = take_more ds (suc i) 0 at in
    let last : 48 + digit_value (get_or ds (suc i) 0) ≡ get_or ds (suc i) 0 = omega (arith, value) in (
      ap decimal is ∙ next_digit _ _ ih.1 (omega (arith, range, value)) (omega (arith, is, whole, fits)) ∙ (λ j. ih.0 j ++ last j ∷ []) ∙ sym more,
      omega (arith, is, ih.1),
    )

-- digits without a leading zero are what is written of their value
pub plain : (ds : List ℕ) → IsNumeral 10 ds → (get_or ds 0 0 ≡ 48 → length ds ≤ 1) → digits_value 10 ds < 10 ^ 64 → decimal (digits_value 10 ds) ≡ ds
plain [] is differs fits = absurd (omega (arith, is.0))
plain (x ∷ []) is differs fits =
    let range : IsInRange 48 57 x = digit_at (x ∷ []) 0 is.1 (omega arith) in
    let value : digit_value x + 48 ≡ x = digit_value_digit _ range in
    let last : 48 + digit_value x ≡ x = omega (arith, value) in
    let small : digits_value 10 (x ∷ []) ≡ digit_value x = omega arith in
    ap decimal small ∙ decimal_digit (digit_value x) (omega (arith, range, value)) ∙ ap (λ (d : ℕ). d ∷ []) last
plain (x ∷ y ∷ ds) is differs fits =
    let range : IsInRange 48 57 x = digit_at (x ∷ y ∷ ds) 0 is.1 (omega arith) in
    let differ : x ≡ 48 → ⊥ = λ e. omega (arith, differs e) in
    let all : take (suc (length ds) + 1) (x ∷ y ∷ ds) ≡ x ∷ y ∷ ds = take_all _ _ (omega arith) in
    let f = front (x ∷ y ∷ ds) (suc (length ds)) is.1 (grind (arith, range, differ)) (omega arith) fits in
    subst (λ (t : List ℕ). decimal (digits_value 10 t) ≡ t) all f.0

pub value_is : (n : ℕ) (field : List ℕ) → n < 10 ^ 64 → field ≡ decimal n → IsNumeral 10 field × (digits_value 10 field ≡ n)
value_is n field fits e = subst (λ (t : List ℕ). IsNumeral 10 t × (digits_value 10 t ≡ n)) (sym e) (decimal_is_IsNumeral_wide n fits)

abbrev IsWord : ℕ → Type 0
IsWord n = n < 2 ^ 128

short : (field : List ℕ) → (1 < length field → ⊥) → length field ≤ 1
short [] not_long = omega arith
short (x ∷ []) not_long = omega arith
short (x ∷ y ∷ ys) not_long = absurd (not_long (omega arith))

-- a field of digits without a leading zero is what is written of its value
reads_field : (most : ℕ) (field : List ℕ) (r : Option ℕ) → most < 10 ^ 64
    → MatchOption r ((n : ℕ) → IsNumber field n → n < most → ⊥) (λ n. IsNumber field n × (n < most))
    → (1 < length field → get_or field 0 0 ≡ 48 → ⊥) → ReadsSpelling decimal (λ n. n < most) field r
reads_field most field None room is differs = λ n fits e.
    let v = value_is n field (omega arith) e in is n (record { digits = v.0; value_is = v.1 }) fits
reads_field most field (Some x) room is differs =
    let p : decimal (digits_value 10 field) ≡ field = plain field is.0.digits (λ h. short field (λ long. differs long h)) (omega (
      arith,
      is.0.value_is,
      is.1,
    )) in
    (is.1, sym p ∙ ap decimal is.0.value_is, λ n fits e. sym (value_is n field (omega arith) e).1 ∙ is.0.value_is)

pub reads_u128 : (field : List ℕ) (r : Option ℕ) → MatchOption r ((n : ℕ) → IsU128 field n → ⊥) (λ n. IsU128 field n)
    → (1 < length field → get_or field 0 0 ≡ 48 → ⊥) → ReadsSpelling decimal IsWord field r
reads_u128 field None is differs = reads_field (2 ^ 128) field None (omega arith) (λ n a b. is n (record { number = a; fits = b })) differs
reads_u128 field (Some x) is differs = reads_field (2 ^ 128) field (Some x) (omega arith) (is.number, is.fits) differs

pub reads_u32 : (field : List ℕ) (r : Option ℕ) → MatchOption r ((n : ℕ) → IsU32 field n → ⊥) (λ n. IsU32 field n)
    → (1 < length field → get_or field 0 0 ≡ 48 → ⊥) → ReadsSpelling decimal (λ n. n < 2 ^ 32) field r
reads_u32 field None is differs = reads_field (2 ^ 32) field None (omega arith) (λ n a b. is n (record { number = a; fits = b })) differs
reads_u32 field (Some x) is differs = reads_field (2 ^ 32) field (Some x) (omega arith) (is.number, is.fits) differs

pub reads_u64 : (field : List ℕ) (r : Option ℕ) → MatchOption r ((n : ℕ) → IsU64 field n → ⊥) (λ n. IsU64 field n)
    → (1 < length field → get_or field 0 0 ≡ 48 → ⊥) → ReadsSpelling decimal (λ n. n < 2 ^ 64) field r
reads_u64 field None is differs = reads_field (2 ^ 64) field None (omega arith) (λ n a b. is n (record { number = a; fits = b })) differs
reads_u64 field (Some x) is differs = reads_field (2 ^ 64) field (Some x) (omega arith) (is.number, is.fits) differs

reads_zero : (most x : ℕ) (xs : List ℕ) → most < 10 ^ 64 → ReadsSpelling decimal (λ n. n < most) (48 ∷ x ∷ xs) None
reads_zero most x xs room = λ n fits e.
    let v = value_is n (48 ∷ x ∷ xs) (omega arith) e in
    let s : Starts n (48 ∷ x ∷ xs) = subst (Starts n) (sym e) (starts n (omega arith)) in
    let zero_is : n ≡ 0 = grind (arith, s.0) in
    let one : decimal n ≡ 48 ∷ [] = ap decimal zero_is ∙ decimal_digit 0 (omega arith) in
    omega (arith, ap length (e ∙ one))

abbrev IsWhole : ℤ → Type 0
IsWhole z = unsigned_abs z ≤ 2 ^ 126

head_of : (n : ℕ) (rest : List ℕ) → n < 10 ^ 64 → 45 ∷ rest ≡ decimal n → ⊥
head_of n rest fits e =
    let s : Starts n (45 ∷ rest) = subst (Starts n) (sym e) (starts n fits) in
    omega (arith, s.1)

tail_is : (x y : ℕ) (xs ys : List ℕ) → x ∷ xs ≡ y ∷ ys → xs ≡ ys
tail_is x y xs ys e = cc

pub minus_none : (rest : List ℕ) → ReadsSpelling decimal IsWord rest None → ReadsSpelling signed_decimal IsWhole (45 ∷ rest) None
minus_none rest none (pos n) fits e = head_of n rest (omega arith) e
minus_none rest none (negsuc n) fits e = none (suc n) (omega arith) (tail_is _ _ _ _ e)

pub minus_out : (rest : List ℕ) (m : ℕ) → ReadsSpelling decimal IsWord rest (Some m) → (m ≡ 0) ⊎ (2 ^ 126 < m) → ReadsSpelling signed_decimal IsWhole (45 ∷ rest) None
minus_out rest m is out (pos n) fits e = head_of n rest (omega arith) e
minus_out rest m is out (negsuc n) fits e =
    let same : suc n ≡ m = is.2 (suc n) (omega arith) (tail_is _ _ _ _ e) in omega (arith, out, same)

pub minus_some : (rest : List ℕ) (m : ℕ) → ReadsSpelling decimal IsWord rest (Some (suc m)) → suc m ≤ 2 ^ 126
    → ReadsSpelling signed_decimal IsWhole (45 ∷ rest) (Some (negsuc m))
minus_some rest m is fits = (omega arith, ap (λ (t : List ℕ). 45 ∷ t) is.1, only)
  where
    only : (z : ℤ) → IsWhole z → 45 ∷ rest ≡ signed_decimal z → z ≡ negsuc m
    only (pos n) fit e = absurd (head_of n rest (omega arith) e)
    only (negsuc n) fit e = let same : suc n ≡ suc m = is.2 (suc n) (omega arith) (tail_is _ _ _ _ e) in ap negsuc (omega (arith, same))

negative_head : (field : List ℕ) (n : ℕ) → (get_or field 0 0 ≡ 45 → ⊥) → field ≡ 45 ∷ decimal (suc n) → ⊥
negative_head field n differs e = differs (ap (λ (t : List ℕ). get_or t 0 0) e)

pub plus_none : (field : List ℕ) → (get_or field 0 0 ≡ 45 → ⊥) → ReadsSpelling decimal IsWord field None → ReadsSpelling signed_decimal IsWhole field None
plus_none field differs none (pos n) fits e = none n (omega arith) e
plus_none field differs none (negsuc n) fits e = negative_head field n differs e

pub plus_out : (field : List ℕ) (m : ℕ) → (get_or field 0 0 ≡ 45 → ⊥) → ReadsSpelling decimal IsWord field (Some m) → 2 ^ 126 < m
    → ReadsSpelling signed_decimal IsWhole field None
plus_out field m differs is out (pos n) fits e = let same : n ≡ m = is.2 n (omega arith) e in omega (arith, same)
plus_out field m differs is out (negsuc n) fits e = negative_head field n differs e

pub plus_some : (field : List ℕ) (m : ℕ) → (get_or field 0 0 ≡ 45 → ⊥) → ReadsSpelling decimal IsWord field (Some m) → m ≤ 2 ^ 126
    → ReadsSpelling signed_decimal IsWhole field (Some (pos m))
plus_some field m differs is fits = (omega arith, is.1, only)
  where
    only : (z : ℤ) → IsWhole z → field ≡ signed_decimal z → z ≡ pos m
    only (pos n) fit e = ap pos (is.2 n (omega arith) e)
    only (negsuc n) fit e = absurd (negative_head field n differs e)

pub two_digits : (most : ℕ) (field : List ℕ) → most < 10 ^ 64 → 1 < length field → get_or field 0 0 ≡ 48 → ReadsSpelling decimal (λ n. n < most) field None
two_digits most [] room long is = absurd (omega arith)
two_digits most (x ∷ []) room long is = absurd (omega arith)
two_digits most (x ∷ y ∷ ys) room long is = subst (λ (d : ℕ). ReadsSpelling decimal (λ n. n < most) (d ∷ y ∷ ys) None) (sym is) (reads_zero most y ys room)

pub below_zero : (rest : List ℕ) (m : ℕ) (z : ℤ) → ReadsSpelling decimal IsWord rest (Some m) → (m ≡ 0 → ⊥) → m ≤ 2 ^ 126 → z ≡ neg_ℤ (pos m)
    → ReadsSpelling signed_decimal IsWhole (45 ∷ rest) (Some z)
below_zero rest zero z is some fits e = absurd (some refl)
below_zero rest (suc m) z is some fits e = subst (λ (y : ℤ). ReadsSpelling signed_decimal IsWhole (45 ∷ rest) (Some y)) (sym e) (minus_some rest m is fits)

pub whole_at : (field rest : List ℕ) (r : Option ℤ) → field ≡ 45 ∷ rest → ReadsSpelling signed_decimal IsWhole (45 ∷ rest) r
    → ReadsSpelling signed_decimal IsWhole field r
whole_at field rest r e is = subst (λ (t : List ℕ). ReadsSpelling signed_decimal IsWhole t r) (sym e) is
