-- The root steps of each part.
use Rattle.std.proofs.Common.{◌≡◌, ◌≢◌, ℕ, ◌+◌, ◌-◌, ◌<◌, ◌≤◌, List, [], ◌∷◌, ◌++◌, length, take, get_or, slice_index, Bool, true, false, cond, ◌==◌, ◌&&◌, map, filter, All, Contains, refl, sym, ap, ◌∙◌, subst, arith, if◌then◌else◌, replicate}
use Rattle.std.proofs.lemmas.Bool.{eq-eqb, ne_eqb}
use Rattle.std.proofs.lemmas.List.{take_more, take_all, length-map, get_or-map, get_or_default, same_lists, get_or-replicate, length-replicate}
use Rattle.std.proofs.lemmas.List.Elements.{All-nil, All-cons, filter-append}
use Rattle.clu_partition.specs.Partition.{below}
use Rattle.clu_partition.specs.Closed.{Closed}
use Rattle.clu_objective.specs.Problem.{Posed}
use Rattle.clu_state.specs.State.{State, decided}
use Rattle.clu_reduce.specs.Reduction.{decision_of}
use Rattle.clu_reduce.specs.declared.step.Step.{Step}
use Rattle.clu_reduce.proofs.PartOf.{place_of, place_is}
use Rattle.clu_cert.specs.Valid.{AllParts, StepsHold, whole_state, is_in, decisions_within}
use Rattle.clu_cert.specs.declared.certificate.Proof.{Proof}
use Rattle.clu_check.specs.Parts.{AreOwned, HavePartNumbers, AddsStep, steps_within}
use Rattle.clu_check.proofs.Membership.{IsInOrNot, inside, outside, in_or_not, below_from}
use Rattle.clu_check.proofs.Parting.{parts}

-- ---- the number of each vertex's part
module _ (s : State) (ps : List (List ℕ)) (owner : List ℕ) (right : AllParts s [] ps) (owned : AreOwned ps owner)
    (none : Contains owner 0 → ⊥) where
  some : (v : ℕ) → v < length owner → slice_index owner v ≢ 0
  some v l e = none (v, l, e)

  place_by : (v : ℕ) → v < length owner → place_of ps v + 1 ≡ slice_index owner v
  place_by v l =
      let d = some v l in
      let n = owned.numbers v l in
      let e = place_is s [] ps right (slice_index owner v - 1) (omega (arith, d, n)) v (owned.given v l d) in
      omega (arith, e, d)

  same : (v k : ℕ) → v < length owner → k < length ps → IsInOrNot (get_or ps k []) v → is_in (get_or ps k []) v ≡ (slice_index owner v == k + 1)
  same v k l m (inside t c) =
      let e = place_is s [] ps right k m v c in
      let p = place_by v l in
      t ∙ sym (eq-eqb (slice_index owner v) (k + 1) (omega (arith, e, p)))
  same v k l m (outside t n) = t ∙ sym (ne_eqb (slice_index owner v) (k + 1) (λ e.
      n (subst (λ (j : ℕ). Contains (get_or ps j []) v) (omega (arith, e)) (owned.given v l (some v l)))))

  pub numbered : HavePartNumbers ps owner
  numbered = record {
    positive = λ v l. let d = some v l in omega (arith, d);
    within = λ v l. owned.numbers v l;
    same = λ v k l m. same v k l m (in_or_not (get_or ps k []) v);
  }

-- ---- one step more
-- each list has the steps on two vertices of the part at its place
pub record AreShares (ps : List (List ℕ)) (steps : List Step) (shares : List (List Step)) : Type 0 where
  pub size : length shares ≡ length ps
  pub each : (k : ℕ) → k < length ps → get_or shares k [] ≡ steps_within (get_or ps k []) steps

take_none : (steps : List Step) → take 0 steps ≡ []
take_none [] = refl
take_none (step ∷ steps) = refl

pub shares_none : (ps : List (List ℕ)) (steps : List Step) (lists : List (List Step)) (count : ℕ) → count ≡ length ps → lists ≡ replicate count [] →
    AreShares ps (take 0 steps) lists
shares_none ps steps lists count size are = record {
  size = ap length are ∙ length-replicate count [] ∙ size;
  each = λ k l.
      ap (λ (xs : List (List Step)). get_or xs k []) are ∙ get_or-replicate {A = List Step} count k [] [] (omega (arith, l, size))
      ∙ ap (filter (λ step. is_in (get_or ps k []) step.u && is_in (get_or ps k []) step.v)) (sym (take_none steps));
}

one_by : (p : Step → Bool) (step : Step) (b : Bool) → p step ≡ b → filter p (step ∷ []) ≡ (if b then step ∷ [] else [])
one_by p step true e = ap (λ b. cond b (step ∷ []) []) e
one_by p step false e = ap (λ b. cond b (step ∷ []) []) e

pub shares_more : (ps : List (List ℕ)) (owner : List ℕ) (steps : List Step) (i : ℕ) (step : Step) (old new : List (List Step)) →
    HavePartNumbers ps owner → i < length steps → step ≡ get_or steps i step → step.u < length owner → step.v < length owner →
    AreShares ps (take i steps) old → AddsStep owner step old new → AreShares ps (take (i + 1) steps) new
shares_more ps owner steps i step old new n l e lu lv was is = record {
  size = is.size ∙ was.size;
  each = λ k m.
      let p : Step → Bool = λ t. is_in (get_or ps k []) t.u && is_in (get_or ps k []) t.v in
      let size = was.size in
      let test : p step ≡ ((slice_index owner step.u == k + 1) && (slice_index owner step.v == k + 1)) =
      ap (λ (b : Bool). b && is_in (get_or ps k []) step.v) (n.same step.u k lu m)
      ∙ ap (λ (b : Bool). (slice_index owner step.u == k + 1) && b) (n.same step.v k lv m) in
      let more : take (i + 1) steps ≡ take i steps ++ step ∷ [] = take_more steps i step l ∙ ap (λ (t : Step). take i steps ++ t ∷ []) (sym e) in
      is.each k (omega (arith, m, size))
      ∙ ap (λ (xs : List Step). xs ++ (if (slice_index owner step.u == k + 1) && (slice_index owner step.v == k + 1) then step ∷ [] else [])) (was.each k m)
      ∙ ap (λ (xs : List Step). filter p (take i steps) ++ xs) (sym (one_by p step ((slice_index owner step.u == k + 1) && (slice_index owner step.v == k + 1)) test))
      ∙ sym (filter-append p (take i steps) (step ∷ []))
      ∙ ap (filter p) (sym more);
}

-- ---- the steps of a part say the same of it as all steps
kept_by : (p : Step → Bool) (step : Step) (steps : List Step) (b : Bool) → p step ≡ b → filter p (filter p steps) ≡ filter p steps →
    filter p (cond b (step ∷ filter p steps) (filter p steps)) ≡ cond b (step ∷ filter p steps) (filter p steps)
kept_by p step steps true e h = ap (λ (b : Bool). cond b (step ∷ filter p (filter p steps)) (filter p (filter p steps))) e ∙ ap (λ (xs : List Step). step ∷ xs) h
kept_by p step steps false e h = h

filter_twice : (p : Step → Bool) (steps : List Step) → filter p (filter p steps) ≡ filter p steps
filter_twice p [] = refl
filter_twice p (step ∷ steps) = kept_by p step steps (p step) refl (filter_twice p steps)

-- the list at the place of a proof
pub share_at : (proofs : List Proof) (steps given : List Step) (lists : List (List Step)) (i : ℕ) (proof : Proof) (list d : List Step) →
    lists ≡ map (λ p. steps_within p.part given) proofs → given ≡ steps →
    i < length proofs → proof ≡ get_or proofs i proof → list ≡ get_or lists i d
    → decisions_within proof.part list ≡ decisions_within proof.part steps
share_at proofs steps given lists i proof list d are same l e is =
    let own : list ≡ steps_within proof.part steps =
    is ∙ ap (λ (xs : List (List Step)). get_or xs i d) are
    ∙ get_or-map (λ (p : Proof). steps_within p.part given) proofs i proof d l
    ∙ ap (λ (p : Proof). steps_within p.part given) (sym e)
    ∙ ap (steps_within proof.part) same in
    ap (decisions_within proof.part) own ∙ ap (map decision_of) (filter_twice (λ t. is_in proof.part t.u && is_in proof.part t.v) steps)

pub shares_all : (proofs : List Proof) (steps : List Step) (i : ℕ) (lists : List (List Step)) → length steps ≤ i → AreShares (parts proofs) (take i steps) lists →
    lists ≡ map (λ p. steps_within p.part steps) proofs
shares_all proofs steps i lists end are =
    let all : take i steps ≡ steps = take_all i steps end in
    let size : length (parts proofs) ≡ length proofs = length-map proofs (λ (q : Proof). q.part) in
    let whole_state : length {A = List Step} (map (λ p. steps_within p.part steps) proofs) ≡ length proofs = length-map proofs (λ (p : Proof). steps_within p.part steps) in
    same_lists lists (map (λ p. steps_within p.part steps) proofs) (are.size ∙ size ∙ sym whole_state) (λ k d l.
    let e = are.size in
    let m : k < length proofs = omega (arith, l, e, size) in
    get_or_default lists k d [] l
    ∙ are.each k (omega (arith, m, size))
    ∙ ap (steps_within (get_or (parts proofs) k [])) all
    ∙ ap (λ (part : List ℕ). steps_within part steps) (get_or-map (λ (q : Proof). q.part) proofs k no_proof [] m)
    ∙ sym (get_or-map (λ (p : Proof). steps_within p.part steps) proofs k no_proof d m))
  where
    no_proof : Proof
    no_proof = record { part = []; items = [] }

-- ---- steps that hold are on members
steps_small : (n : ℕ) (steps : List Step) (s : State) → s.members ≡ below n → StepsHold s steps → All (λ step. (step.u < n) × (step.v < n)) steps
steps_small n [] s members h = All-nil (λ step. (step.u < n) × (step.v < n))
steps_small n (step ∷ steps) s members h = All-cons (λ step. (step.u < n) × (step.v < n)) step steps
    (below_from s.members n step.u members h.0.free.first, below_from s.members n step.v members h.0.free.second)
    (steps_small n steps (decided s (decision_of step)) members h.1)

pub small_steps : (problem : Posed) (start : Closed) (steps given : List Step) (n : ℕ) → given ≡ steps → n ≡ problem.pairs.n → StepsHold (whole_state problem start) steps →
    All (λ step. (step.u < n) × (step.v < n)) given
small_steps problem start steps given n same size h = subst (λ (ks : List Step). All (λ step. (step.u < n) × (step.v < n)) ks) (sym same)
    (steps_small n steps (whole_state problem start) (ap below (sym size)) h)
