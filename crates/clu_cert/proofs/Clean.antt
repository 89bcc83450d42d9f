-- No field of a certificate's lines has a space or a line feed.
use Rattle.std.proofs.Common.{◌≡◌, ℕ, ℤ, pos, negsuc, suc, ◌+◌, ◌<◌, ◌≤◌, ◌^◌, Bool, true, false, not, ◌&&◌, List, [], ◌∷◌, ◌++◌, length, map, codes, get_or, refl, ◌∙◌, ap, arith, append_assoc, unsigned_abs}
use Rattle.std.specs.List.{All, AllByRecursion, flat_map, join_with_byte}
use Rattle.std.specs.Fmt.{decimal, signed_decimal}
use Rattle.std.specs.Int.{IsInRange}
use Rattle.std.proofs.lemmas.Bool.{false≢true, ne_eqb}
use Rattle.std.proofs.lemmas.Fmt.{decimal_is_IsNumeral_wide}
use Rattle.std.proofs.lemmas.Str.Parse.{digit_at}
use Rattle.std.proofs.lemmas.List.Elements.{All-nil, All-cons, All-append}
use Rattle.std.proofs.lemmas.List.Splits.{slice_split_at, slice_split_none}
use Rattle.clu_objective.specs.declared.objective.Objective.{Objective}
use Rattle.clu_objective.specs.declared.objective.Objective.TheVariants.{Edits, Agreement, Modularity}
use Rattle.clu_reduce.specs.declared.step.Kind.{Kind}
use Rattle.clu_reduce.specs.declared.step.Kind.TheVariants.{Twin, Pair, Heavy, Light}
use Rattle.clu_cert.specs.declared.certificate.Item.{Item}
use Rattle.clu_cert.specs.declared.certificate.Item.TheVariants.{Branch, Reduce, Leaf}
use Rattle.clu_reduce.specs.declared.step.Step.{Step}
use Rattle.clu_rows.specs.Rows.{TwoSet}
use Rattle.clu_cert.specs.declared.certificate.Proof.{Proof}
use Rattle.clu_cert.specs.declared.certificate.Certificate.{Certificate}
use Rattle.clu_cert.specs.Cut.{is_byte, spaced_fields}
use Rattle.clu_cert.specs.Fits.{IndexFits, StepFits, RowFits, ItemFits, ProofFits, Fits}
use Rattle.clu_cert.specs.Faults.{pieces}
use Rattle.clu_cert.specs.Text.{from_one, kind_word, objective_word, step_line, row_line, item_lines, proof_lines, lines_from_part, lines_from_step, cert_lines, text_of}

abbrev no_byte : ℕ → List ℕ → Bool
no_byte by [] = true
no_byte by (b ∷ bs) = not (is_byte by b) && no_byte by bs

-- a field without space and line feed
abbrev CleanField : List ℕ → Type 0
CleanField f = (no_byte 32 f ≡ true) × (no_byte 10 f ≡ true)

pub record CleanLine (l : List (List ℕ)) : Type 0 where
  pub some : 0 < length l
  pub fields : AllByRecursion CleanField l

and_parts : (x y : Bool) → (not x && y) ≡ true → (x ≡ false) × (y ≡ true)
and_parts true y e = absurd (false≢true e)
and_parts false y e = (refl, e)

all_no : (by : ℕ) (bs : List ℕ) → no_byte by bs ≡ true → All (λ b. is_byte by b ≡ false) bs
all_no by [] e = All-nil _
all_no by (b ∷ bs) e = let p = and_parts (is_byte by b) (no_byte by bs) e in All-cons (λ x. is_byte by x ≡ false) b bs p.0 (all_no by bs p.1)

-- digits
digits_clean : (by : ℕ) → by < 48 → (ds : List ℕ) → ((i : ℕ) → i < length ds → IsInRange 48 57 (get_or ds i 0)) → no_byte by ds ≡ true
digits_clean by low [] range = refl
digits_clean by low (d ∷ ds) range =
    let r : IsInRange 48 57 d = range 0 (omega arith) in
    let first : is_byte by d ≡ false = ne_eqb d by (λ e. omega (arith, r, low, e)) in
    rw first (digits_clean by low ds (λ i h. range (suc i) (omega arith)))

pub decimal_clean : (n : ℕ) → n < 10 ^ 64 → CleanField (decimal n)
decimal_clean n fits =
    let is = decimal_is_IsNumeral_wide n fits in (
      digits_clean 32 (omega arith) (decimal n) (λ i h. digit_at (decimal n) i is.0.1 h),
      digits_clean 10 (omega arith) (decimal n) (λ i h. digit_at (decimal n) i is.0.1 h),
    )

signed_clean : (z : ℤ) → unsigned_abs z ≤ 2 ^ 126 → CleanField (signed_decimal z)
signed_clean (pos n) fits = decimal_clean n (omega arith)
signed_clean (negsuc n) fits = let d = decimal_clean (suc n) (omega arith) in (d.0, d.1)

place_clean : (n : ℕ) → IndexFits n → CleanField (from_one n)
place_clean n fits = decimal_clean (n + 1) (omega arith)

places_clean : (ns : List ℕ) → AllByRecursion IndexFits ns → AllByRecursion CleanField (map from_one ns)
places_clean [] fits = tt
places_clean (n ∷ ns) fits = (place_clean n fits.0, places_clean ns fits.1)

kind_clean : (k : Kind) → CleanField (kind_word k)
kind_clean Twin = (refl, refl)
kind_clean Pair = (refl, refl)
kind_clean Heavy = (refl, refl)
kind_clean Light = (refl, refl)

objective_clean : (o : Objective) → CleanField (objective_word o)
objective_clean Edits = (refl, refl)
objective_clean Agreement = (refl, refl)
objective_clean Modularity = (refl, refl)

both : {X : Type 0} (P : X → Type 0) (xs ys : List X) → AllByRecursion P xs → AllByRecursion P ys → AllByRecursion P (xs ++ ys)
both P [] ys a b = b
both P (x ∷ xs) ys a b = (a.0, both P xs ys a.1 b)

word : (w : List ℕ) → no_byte 32 w ≡ true → no_byte 10 w ≡ true → CleanField w
word w a b = (a, b)

step_clean : (s : Step) → StepFits s → CleanLine (step_line s)
step_clean s fits = record { some = omega arith; fields = (kind_clean s.kind, (place_clean s.u fits.0, (place_clean s.v fits.1, tt))) }

steps_clean : (ss : List Step) → AllByRecursion StepFits ss → AllByRecursion CleanLine (map step_line ss)
steps_clean [] fits = tt
steps_clean (s ∷ ss) fits = (step_clean s fits.0, steps_clean ss fits.1)

row_clean : (r : TwoSet) → RowFits r → CleanLine (row_line r)
row_clean r fits = record {
  some = omega arith;
  fields = (
    (refl, refl),
    (
      decimal_clean r.y (omega (arith, fits.y)),
      both CleanField (map from_one r.s) (codes "/" ∷ map from_one r.t) (places_clean r.s fits.s) ((refl, refl), places_clean r.t fits.t),
    ),
  );
}

rows_clean : (rs : List TwoSet) → AllByRecursion RowFits rs → AllByRecursion CleanLine (map row_line rs)
rows_clean [] fits = tt
rows_clean (r ∷ rs) fits = (row_clean r fits.0, rows_clean rs fits.1)

item_clean : (x : Item) → ItemFits x → AllByRecursion CleanLine (item_lines x)
item_clean (Branch u v) fits = (record { some = omega arith; fields = ((refl, refl), (place_clean u fits.0, (place_clean v fits.1, tt))) }, tt)
item_clean (Reduce s) fits = (step_clean s fits, tt)
item_clean (Leaf l) fits = (
  record {
    some = omega arith;
    fields = (
      (refl, refl),
      (decimal_clean l.den (omega (arith, fits.den)), (decimal_clean (length l.rows) (omega (arith, fits.count)), tt)),
    );
  },
  rows_clean l.rows fits.rows,
)

items_clean : (xs : List Item) → AllByRecursion ItemFits xs → AllByRecursion CleanLine (flat_map item_lines xs)
items_clean [] fits = tt
items_clean (x ∷ xs) fits = both CleanLine (item_lines x) (flat_map item_lines xs) (item_clean x fits.0) (items_clean xs fits.1)

count_clean : (n : ℕ) → n < 2 ^ 64 → CleanField (decimal n)
count_clean n fits = decimal_clean n (omega arith)

proof_clean : (p : Proof) → ProofFits p → AllByRecursion CleanLine (proof_lines p)
proof_clean p fits = (
  record { some = omega arith; fields = ((refl, refl), places_clean p.part fits.part.1) },
  (record { some = omega arith; fields = ((refl, refl), (count_clean (length p.items) fits.count, tt)) }, items_clean p.items fits.items),
)

proofs_clean : (ps : List Proof) → AllByRecursion ProofFits ps → AllByRecursion CleanLine (flat_map proof_lines ps)
proofs_clean [] fits = tt
proofs_clean (p ∷ ps) fits = both CleanLine (proof_lines p) (flat_map proof_lines ps) (proof_clean p fits.0) (proofs_clean ps fits.1)

pub cert_clean : (c : Certificate) → Fits c → AllByRecursion CleanLine (cert_lines c)
cert_clean c fits =
    let last : AllByRecursion CleanLine (lines_from_part c.proofs) = both CleanLine (flat_map proof_lines c.proofs) ((codes "end" ∷ []) ∷ [])
    (proofs_clean c.proofs fits.proofs) (record { some = omega arith; fields = ((refl, refl), tt) }, tt) in
    let behind : AllByRecursion CleanLine (lines_from_step c.root_steps c.proofs) = both CleanLine (map step_line c.root_steps)
    ((codes "parts" ∷ decimal (length c.proofs) ∷ []) ∷ lines_from_part c.proofs) (steps_clean c.root_steps fits.steps)
    (record { some = omega arith; fields = ((refl, refl), (count_clean (length c.proofs) fits.proof_count, tt)) }, last) in (
      record { some = omega arith; fields = ((refl, refl), ((refl, refl), tt)) },
      (
        record { some = omega arith; fields = ((refl, refl), (objective_clean c.objective, tt)) },
        (
          record { some = omega arith; fields = ((refl, refl), (count_clean (length c.labels) (omega (arith, fits.count)), tt)) },
          (
            record { some = omega arith; fields = ((refl, refl), (signed_clean c.value fits.value, tt)) },
            (
              record { some = omega arith; fields = ((refl, refl), (signed_clean c.bound fits.bound, tt)) },
              (
                record { some = omega arith; fields = ((refl, refl), places_clean c.labels fits.labels) },
                (
                  record { some = omega arith; fields = ((refl, refl), (count_clean (length c.root_steps) fits.step_count, tt)) },
                  behind,
                ),
              ),
            ),
          ),
        ),
      ),
    )

-- a clean line is cut into its fields again
pub fields_again : (l : List (List ℕ)) → 0 < length l → AllByRecursion CleanField l → spaced_fields (join_with_byte 32 l) ≡ l
fields_again [] some clean = absurd (omega (arith, some))
fields_again (f ∷ []) some clean = slice_split_none (is_byte 32) f (all_no 32 f clean.0.0)
fields_again (f ∷ g ∷ rest) some clean =
    slice_split_at (is_byte 32) f 32 (join_with_byte 32 (g ∷ rest)) (all_no 32 f clean.0.0) refl
    ∙ ap (λ (t : List (List ℕ)). f ∷ t) (fields_again (g ∷ rest) (omega arith) clean.1)

line_no : (l : List (List ℕ)) → AllByRecursion CleanField l → All (λ b. is_byte 10 b ≡ false) (join_with_byte 32 l)
line_no [] clean = All-nil _
line_no (f ∷ []) clean = all_no 10 f clean.0.1
line_no (f ∷ g ∷ rest) clean = All-append (λ b. is_byte 10 b ≡ false) f (32 ∷ join_with_byte 32 (g ∷ rest)) (all_no 10 f clean.0.1)
    (All-cons (λ b. is_byte 10 b ≡ false) 32 _ refl (line_no (g ∷ rest) clean.1))

abbrev pub joined_lines : List (List (List ℕ)) → List (List ℕ)
joined_lines ls = map (join_with_byte 32) ls

-- clean lines are cut off again, whatever follows
pub lines_again : (ls : List (List (List ℕ))) (rest : List ℕ) → AllByRecursion CleanLine ls
    → pieces (text_of ls ++ rest) ≡ joined_lines ls ++ pieces rest
lines_again [] rest clean = refl
lines_again (l ∷ ls) rest clean =
    let group : text_of (l ∷ ls) ++ rest ≡ join_with_byte 32 l ++ (10 ∷ (text_of ls ++ rest)) = ap (λ (t : List ℕ). t ++ rest)
    (append_assoc (join_with_byte 32 l) (10 ∷ []) (text_of ls)) ∙ append_assoc (join_with_byte 32 l) (10 ∷ text_of ls) rest in
    ap pieces group ∙ slice_split_at (is_byte 10) (join_with_byte 32 l) 10 (text_of ls ++ rest) (line_no l clean.0.fields) refl
    ∙ ap (λ (t : List (List ℕ)). join_with_byte 32 l ∷ t) (lines_again ls rest clean.1)

pub table_again : (ls : List (List (List ℕ))) → AllByRecursion CleanLine ls → map spaced_fields (joined_lines ls) ≡ ls
table_again [] clean = refl
table_again (l ∷ ls) clean = (λ i. fields_again l clean.0.some clean.0.fields i ∷ table_again ls clean.1 i)
