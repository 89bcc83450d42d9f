-- Between the bytes and the table of their fields.
use Rattle.std.proofs.Common.{◌≡◌, ℕ, ◌+◌, ◌-◌, ◌<◌, Bool, true, false, List, [], ◌∷◌, ◌++◌, length, map, take, refl, sym, ◌∙◌, ap, subst, arith, append_assoc, length-append, Result, Ok, Err, IfOk, IfErr}
use Rattle.std.specs.List.{All, AllByRecursion, join_with_byte, onto_first}
use Rattle.std.proofs.lemmas.List.{append-nil, map-append}
use Rattle.std.proofs.lemmas.Grind.{flat_map-append}
use Rattle.std.proofs.lemmas.List.Elements.{All-nil, All-cons}
use Rattle.std.proofs.lemmas.List.Splits.{join_with_byte-slice_split, length-slice_split, slice_split_at, slice_split-cons_yes, slice_split-cons_no}
use Rattle.clu_cert.specs.declared.certificate.Certificate.{Certificate}
use Rattle.clu_cert.specs.declared.read.CertError.{CertError}
use Rattle.clu_cert.specs.declared.read.CertError.TheVariants.{Memory, Bad}
use Rattle.clu_cert.specs.Cut.{is_byte, spaced_fields}
use Rattle.clu_cert.specs.Fits.{Fits}
use Rattle.clu_cert.specs.Table.{BeginsTable, IsCertTable, TableFault, IsTableError}
use Rattle.clu_cert.specs.Text.{cert_lines, line_text, text_of, cert_text}
use Rattle.clu_cert.specs.Faults.{pieces, with_feeds, Begins, IsCertFault, IsCertError}
use Rattle.clu_cert.proofs.Clean.{cert_clean, joined_lines, lines_again, table_again}

feeds_are : (ps : List (List ℕ)) → text_of (map spaced_fields ps) ≡ with_feeds ps
feeds_are [] = refl
feeds_are (p ∷ ps) = (λ i. (join_with_byte-slice_split 32 p i ++ (10 ∷ [])) ++ feeds_are ps i)

joined_all : (ended : List (List ℕ)) (last : List ℕ) → join_with_byte 10 (ended ++ (last ∷ [])) ≡ with_feeds ended ++ last
joined_all [] last = refl
joined_all (p ∷ []) last = sym (append_assoc p (10 ∷ []) last) ∙ (λ i. sym (append-nil (p ++ (10 ∷ []))) i ++ last)
joined_all (p ∷ q ∷ es) last = ap (λ (t : List ℕ). p ++ (10 ∷ t)) (joined_all (q ∷ es) last) ∙ sym (append_assoc p (10 ∷ with_feeds (q ∷ es)) last)
    ∙ (λ i. sym (append_assoc p (10 ∷ []) (with_feeds (q ∷ es))) i ++ last)

bytes_are : (bytes : List ℕ) (ended : List (List ℕ)) (last : List ℕ) → pieces bytes ≡ ended ++ (last ∷ []) → bytes ≡ with_feeds ended ++ last
bytes_are bytes ended last e = sym (join_with_byte-slice_split 10 bytes) ∙ ap (join_with_byte 10) e ∙ joined_all ended last

pub is_text : (bytes : List ℕ) (c : Certificate) → IsCertTable bytes c → bytes ≡ cert_text c
is_text bytes c t = bytes_are bytes t.ended [] t.pieces_are ∙ append-nil (with_feeds t.ended) ∙ sym (feeds_are t.ended) ∙ ap text_of t.is

pub is_table : (bytes : List ℕ) (c : Certificate) → Fits c → bytes ≡ cert_text c → IsCertTable bytes c
is_table bytes c fits e = record {
  ended = joined_lines (cert_lines c);
  pieces_are = ap pieces (e ∙ sym (append-nil (cert_text c))) ∙ lines_again (cert_lines c) [] (cert_clean c fits);
  fits = fits;
  is = table_again (cert_lines c) (cert_clean c fits);
}

abbrev NoFeed : List ℕ → Type 0
NoFeed p = All (λ b. is_byte 10 b ≡ false) p

onto_no : (x : ℕ) (ps : List (List ℕ)) → is_byte 10 x ≡ false → AllByRecursion NoFeed ps → AllByRecursion NoFeed (onto_first x ps)
onto_no x [] e no_feed = (All-cons (λ b. is_byte 10 b ≡ false) x [] e (All-nil _), tt)
onto_no x (p ∷ ps) e no_feed = (All-cons (λ b. is_byte 10 b ≡ false) x p e no_feed.0, no_feed.1)

pieces_no_case : (x : ℕ) (xs : List ℕ) (b : Bool) → is_byte 10 x ≡ b → AllByRecursion NoFeed (pieces xs) → AllByRecursion NoFeed (pieces (x ∷ xs))
pieces_no_case x xs true e ih = subst (AllByRecursion NoFeed) (sym (slice_split-cons_yes (is_byte 10) x xs e)) (All-nil _, ih)
pieces_no_case x xs false e ih = subst (AllByRecursion NoFeed) (sym (slice_split-cons_no (is_byte 10) x xs e)) (onto_no x (pieces xs) e ih)

pieces_no : (bytes : List ℕ) → AllByRecursion NoFeed (pieces bytes)
pieces_no [] = (All-nil _, tt)
pieces_no (x ∷ xs) = pieces_no_case x xs (is_byte 10 x) refl (pieces_no xs)

front_no : (xs ys : List (List ℕ)) → AllByRecursion NoFeed (xs ++ ys) → AllByRecursion NoFeed xs
front_no [] ys a = tt
front_no (x ∷ xs) ys a = (a.0, front_no xs ys a.1)

feeds_again : (es : List (List ℕ)) (rest : List ℕ) → AllByRecursion NoFeed es → pieces (with_feeds es ++ rest) ≡ es ++ pieces rest
feeds_again [] rest a = refl
feeds_again (e ∷ es) rest a =
    let group : with_feeds (e ∷ es) ++ rest ≡ e ++ (10 ∷ (with_feeds es ++ rest)) = (λ i. append_assoc e (10 ∷ []) (with_feeds es) i ++ rest)
    ∙ append_assoc e (10 ∷ with_feeds es) rest in
    ap pieces group ∙ slice_split_at (is_byte 10) e 10 (with_feeds es ++ rest) a.0 refl ∙ ap (λ (t : List (List ℕ)). e ∷ t) (feeds_again es rest a.1)

record Front (xs es : List (List ℕ)) : Type 0 where
  more : List (List ℕ)
  is : xs ≡ es ++ more

front_of : (xs es ys : List (List ℕ)) (z : List ℕ) → xs ++ (z ∷ []) ≡ es ++ ys → 0 < length ys → Front xs es
front_of xs [] ys z e some = record { more = xs; is = refl }
front_of [] (d ∷ es) ys z e some = absurd (omega (arith, ap length e, length-append es ys, some))
front_of (x ∷ xs) (d ∷ es) ys z e some =
    let tails : xs ++ (z ∷ []) ≡ es ++ ys = cc e in
    let heads : x ≡ d = cc e in
    let f = front_of xs es ys z tails some in
    record { more = f.more; is = (λ i. heads i ∷ f.is i) }

pieces_some : (rest : List ℕ) → 0 < length (pieces rest)
pieces_some rest = omega (arith, length-slice_split (is_byte 10) rest)

-- what begins a text begins its lines
begins_table : (es : List (List ℕ)) → AllByRecursion NoFeed es → Begins (with_feeds es) → BeginsTable es
begins_table es clean b =
    let ls = cert_lines b.cert in
    let again : joined_lines ls ++ ([] ∷ []) ≡ es ++ pieces b.rest = sym (lines_again ls [] (cert_clean b.cert b.fits))
    ∙ ap pieces (append-nil (cert_text b.cert) ∙ b.is) ∙ feeds_again es b.rest clean in
    let f = front_of (joined_lines ls) es (pieces b.rest) [] again (pieces_some b.rest) in
    record {
      cert = b.cert;
      more = map spaced_fields f.more;
      fits = b.fits;
      is = sym (map-append spaced_fields es f.more) ∙ ap (map spaced_fields) (sym f.is) ∙ table_again ls (cert_clean b.cert b.fits);
    }

begins_bytes : (es : List (List ℕ)) → BeginsTable es → Begins (with_feeds es)
begins_bytes es b = record {
  cert = b.cert;
  rest = text_of b.more;
  fits = b.fits;
  is = ap text_of (sym b.is) ∙ flat_map-append line_text (map spaced_fields es) b.more ∙ (λ i. feeds_are es i ++ text_of b.more);
}

take_len : (xs ys : List (List ℕ)) → take (length xs) (xs ++ ys) ≡ xs
take_len [] ys = refl
take_len (x ∷ xs) ys = ap (λ (t : List (List ℕ)). x ∷ t) (take_len xs ys)

take_front : (xs ys : List (List ℕ)) (k : ℕ) → length xs ≡ k → take k (xs ++ ys) ≡ xs
take_front xs ys k e = subst (λ (n : ℕ). take n (xs ++ ys) ≡ xs) e (take_len xs ys)

whole_fault : (bytes : List ℕ) (line : ℕ) (t : TableFault bytes line) (after : List (List ℕ)) → t.after ≡ after → (c : Certificate)
    → IsCertTable bytes c → ⊥
whole_fault bytes line t [] e c is = t.whole e c is
whole_fault bytes line t (a ∷ others) e c is =
    let again : is.ended ++ ([] ∷ []) ≡ (t.before ++ (t.here ∷ [])) ++ t.after = sym is.pieces_are ∙ t.pieces_are
    ∙ sym (append_assoc t.before (t.here ∷ []) t.after) in
    let some : 0 < length t.after = omega (arith, ap length e) in
    let f = front_of is.ended (t.before ++ (t.here ∷ [])) t.after [] again some in
    t.fails some (record {
      cert = c;
      more = map spaced_fields f.more;
      fits = is.fits;
      is = sym (map-append spaced_fields (t.before ++ (t.here ∷ [])) f.more)
          ∙ ap (map spaced_fields) (sym f.is) ∙ is.is;
    })

pub fault_is : (bytes : List ℕ) (line : ℕ) → TableFault bytes line → IsCertFault bytes line
fault_is bytes line t =
    let two : pieces bytes ≡ (t.before ++ (t.here ∷ [])) ++ t.after = t.pieces_are ∙ sym (append_assoc t.before (t.here ∷ []) t.after) in
    let len : length (pieces bytes) ≡ length t.before + (1 + length t.after) = omega (
      arith,
      ap length t.pieces_are,
      length-append t.before (t.here ∷ t.after),
    ) in
    let front : take (line - 1) (pieces bytes) ≡ t.before = ap (take (line - 1)) t.pieces_are
    ∙ take_front t.before (t.here ∷ t.after) (line - 1) (omega (arith, t.number)) in
    let upto : take line (pieces bytes) ≡ t.before ++ (t.here ∷ []) = ap (take line) two
    ∙ take_front (t.before ++ (t.here ∷ [])) t.after line (omega (arith, t.number, length-append t.before (t.here ∷ []))) in
    record {
      first = omega (arith, t.number);
      last = omega (arith, t.number, len);
      begins = subst (λ (es : List (List ℕ)). Begins (with_feeds es)) (sym front) (begins_bytes t.before t.begins);
      fails = λ some b.
          t.fails (omega (arith, t.number, len, some))
          (begins_table (t.before ++ (t.here ∷ []))
          (front_no (t.before ++ (t.here ∷ [])) t.after (subst (AllByRecursion NoFeed) two (pieces_no bytes)))
          (subst (λ (es : List (List ℕ)). Begins (with_feeds es)) upto b));
      whole = λ c fits e. whole_fault bytes line t t.after refl c (is_table bytes c fits e);
    }

faulty_is : (bytes : List ℕ) (e : CertError) → IsTableError bytes e → IsCertError bytes e
faulty_is bytes Memory t = tt
faulty_is bytes (Bad b) t = fault_is bytes b.line t

-- what is read by lines is read by bytes
pub found_in : (bytes : List ℕ) (r : Result Certificate CertError) → IfOk r (λ c. IsCertTable bytes c) → IfOk r (λ c. Fits c × (bytes ≡ cert_text c))
found_in bytes (Ok c) t = (t.fits, is_text bytes c t)
found_in bytes (Err e) t = tt

pub only_in : (bytes : List ℕ) (r : Result Certificate CertError) → IfOk r (λ c. (d : Certificate) → IsCertTable bytes d → d ≡ c)
    → IfOk r (λ c. (d : Certificate) → Fits d → bytes ≡ cert_text d → d ≡ c)
only_in bytes (Ok c) only = λ d fits e. only d (is_table bytes d fits e)
only_in bytes (Err e) only = tt

pub bad_in : (bytes : List ℕ) (r : Result Certificate CertError) → IfErr r (λ e. IsTableError bytes e) → IfErr r (λ e. IsCertError bytes e)
bad_in bytes (Ok c) t = tt
bad_in bytes (Err e) t = faulty_is bytes e t
