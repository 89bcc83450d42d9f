-- The lines read so far, and what the reader holds of them.
use Rattle.std.proofs.lemmas.Bool.Decides.{nat_tests}
use Rattle.std.proofs.Common.{◌≡◌, true, nat_eq, ℕ, ◌+◌, ◌↔◌, List, [], ◌∷◌, ◌++◌, length, map, refl, sym, ◌∙◌, ap, subst, arith, append_assoc, length-append}
use Rattle.std.proofs.lemmas.List.{append-nil, map-append}
use Rattle.std.proofs.lemmas.List.Splits.{length-slice_split}
use Rattle.clu_cert.specs.declared.certificate.Certificate.{Certificate}
use Rattle.clu_cert.specs.declared.reader.Stage.TheVariants as at
use Rattle.clu_cert.specs.declared.reader.Reader.{Reader}
use Rattle.clu_cert.specs.Cut.{is_byte, spaced_fields}
use Rattle.clu_cert.specs.Faults.{pieces}
use Rattle.clu_cert.specs.Fits.{Fits}
use Rattle.clu_cert.specs.Text.{cert_lines}
use Rattle.clu_cert.specs.Table.{BeginsTable, IsCertTable, TableFault}
use Rattle.clu_cert.specs.Reading.{Completes, AtStage, TakesLine, RefusesLine}
use Rattle.clu_cert.proofs.Alive.{alive, ends_done}

pub record Reading (bytes rest : List ℕ) (number : ℕ) (r : Reader) : Type 0 where
  pub before : List (List ℕ)
  pub pieces_are : pieces bytes ≡ before ++ pieces rest
  pub count : length before + 1 ≡ number
  pub means : (c : Certificate) (more : List (List (List ℕ))) → (Fits c × (map spaced_fields before ++ more ≡ cert_lines c)) ↔ Completes r c more

pub begin : (bytes : List ℕ) (r : Reader) → r.stage ≡ at.Version → Reading bytes bytes 1 r
begin bytes r is = record {
  before = [];
  pieces_are = refl;
  count = omega arith;
  means = λ c more. (
    λ h. subst (λ s. AtStage s r.cert r.part r.leaf c more) (sym is) h,
    λ h. subst (λ s. AtStage s r.cert r.part r.leaf c more) is h,
  );
}

regroup : (before : List (List ℕ)) (line : List ℕ) (more : List (List (List ℕ)))
    → map spaced_fields (before ++ (line ∷ [])) ++ more ≡ map spaced_fields before ++ (spaced_fields line ∷ more)
regroup before line more = (λ i. map-append spaced_fields before (line ∷ []) i ++ more) ∙ append_assoc (map spaced_fields before) (spaced_fields line ∷ []) more

module _ (bytes rest next line : List ℕ) (number : ℕ) (r : Reader) (old : Reading bytes rest number r) (cut : pieces rest ≡ line ∷ pieces next) where
  pub next_line : (new : Reader) → TakesLine r (spaced_fields line) new → Reading bytes next (number + 1) new
  next_line new follows = record {
    before = old.before ++ (line ∷ []);
    pieces_are = old.pieces_are ∙ ap (λ (t : List (List ℕ)). old.before ++ t) cut ∙ sym (append_assoc old.before (line ∷ []) (pieces next));
    count = omega (arith, old.count, length-append old.before (line ∷ []));
    means = λ c more. (
      λ h. (follows c more).0 ((old.means c (spaced_fields line ∷ more)).0 (h.0, sym (regroup old.before line more) ∙ h.1)),
      λ h. let k = (old.means c (spaced_fields line ∷ more)).1 ((follows c more).1 h) in (k.0, regroup old.before line more ∙ k.1),
    );
  }

  begins_here : BeginsTable old.before
  begins_here = let a = alive r.stage r.cert r.part r.leaf in let k = (old.means a.0 a.1).1 a.2 in record {
    cert = a.0;
    more = a.1;
    fits = k.0;
    is = k.1;
  }

  pub fault_line : RefusesLine r (spaced_fields line) → TableFault bytes number
  fault_line refuses = record {
    before = old.before;
    here = line;
    after = pieces next;
    pieces_are = old.pieces_are ∙ ap (λ (t : List (List ℕ)). old.before ++ t) cut;
    number = old.count;
    begins = begins_here;
    fails = λ some b. refuses b.cert b.more ((old.means b.cert (spaced_fields line ∷ b.more)).0 (b.fits, sym (regroup old.before line b.more) ∙ b.is));
    whole = λ none c t. absurd (omega (arith, ap length none, length-slice_split (is_byte 10) next));
  }

snoc_same : (xs ys : List (List ℕ)) (x y : List ℕ) → xs ++ (x ∷ []) ≡ ys ++ (y ∷ []) → (xs ≡ ys) × (x ≡ y)
snoc_same [] [] x y e = (refl, cc e)
snoc_same [] (z ∷ ys) x y e = absurd (omega (arith, ap length e, length-append ys (y ∷ [])))
snoc_same (z ∷ xs) [] x y e = absurd (omega (arith, ap length e, length-append xs (x ∷ [])))
snoc_same (z ∷ xs) (w ∷ ys) x y e =
    let tails : xs ++ (x ∷ []) ≡ ys ++ (y ∷ []) = cc e in
    let heads : z ≡ w = cc e in
    let s = snoc_same xs ys x y tails in
    (λ i. heads i ∷ s.0 i, s.1)

module _ (bytes rest : List ℕ) (number : ℕ) (r : Reader) (old : Reading bytes rest number r) (last : pieces rest ≡ rest ∷ []) where
  at_end : pieces bytes ≡ old.before ++ (rest ∷ [])
  at_end = old.pieces_are ∙ ap (λ (t : List (List ℕ)). old.before ++ t) last

  whole_here : (rest ≡ [] → r.stage ≡ at.Done → ⊥) → (c : Certificate) → IsCertTable bytes c → ⊥
  whole_here still c t =
      let s = snoc_same t.ended old.before [] rest (sym t.pieces_are ∙ at_end) in
      let lines : map spaced_fields old.before ++ [] ≡ cert_lines c = append-nil (map spaced_fields old.before) ∙ ap (map spaced_fields) (sym s.0) ∙ t.is in
      still (sym s.1) (ends_done r.stage r.cert r.part r.leaf c ((old.means c []).0 (t.fits, lines))).0

  pub fault_end : (rest ≡ [] → r.stage ≡ at.Done → ⊥) → TableFault bytes number
  fault_end still = record {
    before = old.before;
    here = rest;
    after = [];
    pieces_are = at_end;
    number = old.count;
    begins = (let a = alive r.stage r.cert r.part r.leaf in let k = (old.means a.0 a.1).1 a.2 in record {
      cert = a.0;
      more = a.1;
      fits = k.0;
      is = k.1;
    });
    fails = λ some b. omega (arith, some);
    whole = λ _. whole_here still;
  }

  pub all_read : rest ≡ [] → r.stage ≡ at.Done → IsCertTable bytes r.cert
  all_read empty is =
      let k = (old.means r.cert []).1 (subst (λ s. AtStage s r.cert r.part r.leaf r.cert []) (sym is) (refl, refl)) in
      record {
        ended = old.before;
        pieces_are = at_end ∙ (λ i. old.before ++ (empty i ∷ []));
        fits = k.0;
        is = sym (append-nil (map spaced_fields old.before)) ∙ k.1;
      }

pub empty_is : (xs : List ℕ) → nat_eq (length xs) 0 ≡ true → xs ≡ []
empty_is [] e = refl
empty_is (x ∷ xs) e = let l : length (x ∷ xs) ≡ 0 = grind (arith, nat_tests) in absurd (omega (arith, l))

-- no other certificate has these lines
pub only_read : (bytes rest : List ℕ) (number : ℕ) (r : Reader) → Reading bytes rest number r → pieces rest ≡ rest ∷ [] → (c : Certificate)
    → IsCertTable bytes c → c ≡ r.cert
only_read bytes rest number r old last c t =
    let s = snoc_same t.ended old.before [] rest (sym t.pieces_are ∙ at_end bytes rest number r old last) in
    let lines : map spaced_fields old.before ++ [] ≡ cert_lines c = append-nil (map spaced_fields old.before) ∙ ap (map spaced_fields) (sym s.0) ∙ t.is in
    (ends_done r.stage r.cert r.part r.leaf c ((old.means c []).0 (t.fits, lines))).1
