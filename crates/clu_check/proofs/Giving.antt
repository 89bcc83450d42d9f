-- The numbers that the vertices of a part get, one after the other.
use Rattle.std.proofs.Common.{◌≡◌, ℕ, ◌+◌, ◌<◌, ⊎_elim, List, [], Bool, true, false, ◌==◌, ◌||◌, length, slice_index, get_or, take, refl, sym, ◌∙◌, ap, arith, if◌then◌else◌}
use Rattle.std.proofs.Math.ListN.{set}
use Rattle.std.proofs.lemmas.Bool.{cases_eq, eq-eqb, ne_eqb}
use Rattle.std.proofs.lemmas.List.{take_more, get_or-set_same, get_or-set_other, length-set}
use Rattle.clu_cert.specs.Valid.{is_in}
use Rattle.clu_check.specs.Parts.{TakesNumber}
use Rattle.clu_check.proofs.Membership.{in_more}

pub given_none : (number : ℕ) (owner : List ℕ) → TakesNumber [] number owner owner
given_none number owner = record { size = refl; cells = λ v l. refl }

if_true : (b t : Bool) (number old now : ℕ) → t ≡ true → (if b || t then number else old) ≡ number
if_true true t number old now e = refl
if_true false t number old now e = ap (λ k. if k then number else old) e

if_false : (b t : Bool) (number old : ℕ) → t ≡ false → (if b || t then number else old) ≡ (if b then number else old)
if_false true t number old e = refl
if_false false t number old e = ap (λ k. if k then number else old) e

pub given_more : (part : List ℕ) (i d number : ℕ) (old now : List ℕ) → i < length part → get_or part i d < length old
    → TakesNumber (take i part) number old now → TakesNumber (take (i + 1) part) number old (set now (get_or part i d) number)
given_more part i d number old now at low is = record {
  size = length-set now (get_or part i d) number ∙ is.size;
  cells = λ v l.
      let u = get_or part i d in
      let more : is_in (take (i + 1) part) v ≡ (is_in (take i part) v || u == v) =
      ap (λ (p : List ℕ). is_in p v) (take_more part i d at) ∙ in_more (take i part) u v in
      let was = is.cells v l in
      let size = is.size in
      let fits : u < length now = omega (arith, size, low) in
      ⊎_elim
      (λ e. ap (λ (k : ℕ). get_or (set now u number) k 0) (sym e) ∙ get_or-set_same now u number 0 fits
      ∙ sym (ap (λ (b : Bool). if b then number else slice_index old v) more ∙ if_true (is_in (take i part) v) (u == v) number
      (slice_index old v) 0 (eq-eqb u v e)))
      (λ n. get_or-set_other now u v number 0 (λ e. n (sym e)) ∙ was
      ∙ sym (ap (λ (b : Bool). if b then number else slice_index old v) more ∙ if_false (is_in (take i part) v) (u == v) number
      (slice_index old v) (ne_eqb u v n)))
      (cases_eq u v);
}
