-- The states that a certificate names: that of all vertices, that after the root steps, and that of each part.
use Rattle.std.proofs.lemmas.Bool.{and_parts, and_from, true≢false}
use Rattle.std.proofs.Common.{refl, ◌≡◌, ℕ, ◌≤◌, ◌<◌, List, [], ◌∷◌, ◌++◌, length, slice_index, Bool, true, false, cond, ◌&&◌, All, Contains, map, filter, sym, ap, ◌∙◌, subst, arith, append_assoc, append-nil}
use Rattle.std.proofs.lemmas.Int.{ints}
use Rattle.std.proofs.lemmas.List.Elements.{All-nil, All-cons, All-head, All-tail, All-weaker, All-contains, All-from_get_or}
use Rattle.clu_partition.specs.Closed.{Closed, IsClosed, IsPermitted}
use Rattle.clu_partition.specs.Partition.{below}
use Rattle.clu_partition.proofs.Ranges.{below_size, below_at}
use Rattle.clu_objective.specs.Problem.{Posed, IsPosed}
use Rattle.clu_state.specs.State.{State, IsState, AreMembers, InClass, ObeysDecision, decided, undecided}
use Rattle.clu_state.specs.declared.decision.Decision.{Decision}
use Rattle.clu_state.proofs.Joined.{decided_state}
use Rattle.clu_state.proofs.Bridge.{contains_at}
use Rattle.clu_state.proofs.Whole.{all_members, among_below}
use Rattle.clu_state.proofs.Best.{worth, AsGood}
use Rattle.clu_reduce.specs.Reduction.{StepHolds, decision_by, decision_of}
use Rattle.clu_reduce.specs.declared.step.Kind.{Kind}
use Rattle.clu_reduce.specs.declared.step.Kind.TheVariants.{Twin, Pair, Heavy, Light}
use Rattle.clu_reduce.specs.declared.step.Step.{Step}
use Rattle.clu_cert.specs.Valid.{whole_state, StepsHold, stepped, IsPart, Rises, part_state, is_in, decisions_within}
use Rattle.clu_reduce.proofs.PartOf.{is_in_listed, listed_is_in}
use Rattle.clu_reduce.proofs.Keeps.{held_decides, held_keeps}
use Rattle.clu_reduce.proofs.Restrict.{Undivided, Restricts, Within, undivided_before, restricts_both, restricts_other, decided_there}

-- rules for the vertices of a problem, of which there are at most 1,000
pub record IsTask (problem : Posed) (start : Closed) : Type 0 where
  pub posed : IsPosed problem
  pub closed : IsClosed start
  pub size : length start.group ≡ problem.pairs.n
  pub few : problem.pairs.n ≤ 1000

-- ---- all vertices
pub whole_is_state : (problem : Posed) (start : Closed) → IsTask problem start → IsState (whole_state problem start)
whole_is_state problem start t = record {
  one_size = sym t.size;
  small = t.few;
  total = t.posed.total;
  closed = t.closed;
  members = subst (λ n. AreMembers start (below n)) t.size (all_members start t.closed);
  made = tt;
}

-- a permitted partition is of its class
pub permitted_class : (problem : Posed) (start : Closed) (label : ℕ → ℕ) → IsTask problem start → IsPermitted start label →
    InClass (whole_state problem start) label
permitted_class problem start label t p = record {
  required = All-from_get_or (λ v. label (slice_index start.group v) ≡ label v) (below problem.pairs.n) 0 (λ i h.
      let n = below_size problem.pairs.n in
      let l : i < problem.pairs.n = omega (arith, h, n) in
      let s = t.size in
      subst (λ v. label (slice_index start.group v) ≡ label v) (sym (below_at problem.pairs.n i 0 l)) (p.required i (omega (arith, l, s))));
  forbidden = All-weaker (λ p. label p.0 ≡ label p.1 → ⊥) (λ p. Contains (below problem.pairs.n) p.0 → Contains (below problem.pairs.n) p.1 →
      label p.0 ≡ label p.1 → ⊥)
      (λ p d _ _. d) start.forbidden p.forbidden;
  decisions = All-nil (ObeysDecision label);
}

-- ---- after the root steps
pub stepped_is : (s : State) (steps : List Step) → stepped s steps ≡ record s { decisions = s.decisions ++ map decision_of steps }
stepped_is s [] = ap (λ (ds : List Decision). record s { decisions = ds }) (sym (append-nil s.decisions))
stepped_is s (step ∷ steps) = stepped_is (decided s (decision_of step)) steps
    ∙ ap (λ (ds : List Decision). record s { decisions = ds }) (append_assoc s.decisions (decision_of step ∷ []) (map decision_of steps))

pub stepped_state : (s : State) (steps : List Step) → IsState s → StepsHold s steps → IsState (stepped s steps)
stepped_state s [] i h = i
stepped_state s (step ∷ steps) i h =
    stepped_state (decided s (decision_of step)) steps (decided_state s (decision_of step) i (held_decides s step h.0)) h.1

-- for each partition of the class there is one after the steps that is worth as much at least
pub stepped_best : (s : State) (steps : List Step) (label : ℕ → ℕ) → IsState s → StepsHold s steps → InClass s label →
    AsGood (stepped s steps) (worth s label)
stepped_best s [] label i h c = record { label = label; class' = c; better = omega (arith, ints) }
stepped_best s (step ∷ steps) label i h c =
    let g = (held_keeps s step i h.0).after label c in
    let k = stepped_best (decided s (decision_of step)) steps g.label
    (decided_state s (decision_of step) i (held_decides s step h.0)) h.1 g.class' in
    let l = g.better in
    let m = k.better in
    record { label = k.label; class' = k.class'; better = omega (arith, ints, l, m) }

-- ---- a part
-- what holds of the decisions of steps holds of those of some of them
pick : (P : Decision → Type 0) (step : Step) (steps more : List Step) (b : Bool) → All P (map decision_of (step ∷ steps)) →
    All P (map decision_of more) →
    All P (map decision_of (cond b (step ∷ more) more))
pick P step steps more true a m = All-cons P (decision_of step) (map decision_of more) (All-head P (decision_of step) (map decision_of steps) a) m
pick P step steps more false a m = m

all_picked : (P : Decision → Type 0) (test : Step → Bool) (steps : List Step) → All P (map decision_of steps) →
    All P (map decision_of (filter test steps))
all_picked P test [] a = All-nil P
all_picked P test (step ∷ steps) a =
    pick P step steps (filter test steps) (test step) a (all_picked P test steps (All-tail P (decision_of step) (map decision_of steps) a))

-- a partition of the class after the root steps is one of the part's class
pub part_class : (problem : Posed) (start : Closed) (steps : List Step) (part : List ℕ) (label : ℕ → ℕ) →
    All (Contains (below problem.pairs.n)) part →
    InClass (stepped (whole_state problem start) steps) label → InClass (part_state problem start steps part) label
part_class problem start steps part label m c = record {
  required = All-weaker (Contains (below problem.pairs.n)) (λ v. label (slice_index start.group v) ≡ label v)
      (λ v k. All-contains (λ v. label (slice_index start.group v) ≡ label v) (below problem.pairs.n) v all.required k) part m;
  forbidden = All-weaker (λ p. Contains (below problem.pairs.n) p.0 → Contains (below problem.pairs.n) p.1 → label p.0 ≡ label p.1 → ⊥)
      (λ p. Contains part p.0 → Contains part p.1 → label p.0 ≡ label p.1 → ⊥)
      (λ p d a b. d (inside p.0 a) (inside p.1 b)) start.forbidden all.forbidden;
  decisions = all_picked (ObeysDecision label) (λ step. is_in part step.u && is_in part step.v) steps all.decisions;
}
  where
    all : InClass (record { pairs = problem.pairs; start = start; members = below problem.pairs.n; decisions = map decision_of steps }) label
    all = subst (λ s. InClass s label) (stepped_is (whole_state problem start) steps) c

    inside : (v : ℕ) → Contains part v → Contains (below problem.pairs.n) v
    inside v k = All-contains (Contains (below problem.pairs.n)) part v m k

-- ---- the state of a part
-- the members of a part that divides no group of the rules hold each of them whole
pub part_members : (problem : Posed) (start : Closed) (part : List ℕ) → IsTask problem start → Rises part →
    All (Contains (below problem.pairs.n)) part → Undivided (whole_state problem start) part → AreMembers start part
part_members problem start part t rising members un = record {
  rising = rising;
  below = All-weaker (Contains (below problem.pairs.n)) (λ v. v < length start.group) small part members;
  whole = All-from_get_or (λ v. Contains part (slice_index start.group v)) part 0 (λ i l. grouped (slice_index part i) (contains_at part i l));
  closed = λ v l c. un.whole (slice_index start.group v) v c (all_of v l) (t.closed.least v l);
}
  where
    small : (v : ℕ) → Contains (below problem.pairs.n) v → v < length start.group
    small v c = All-contains (λ v. v < length start.group) (below problem.pairs.n) v (whole_is_state problem start t).members.below c

    all_of : (v : ℕ) → v < length start.group → Contains (below problem.pairs.n) v
    all_of v l = let s = t.size in among_below problem.pairs.n v (omega (arith, l, s))

    grouped : (v : ℕ) → Contains part v → Contains part (slice_index start.group v)
    grouped v c =
        let l = small v (All-contains (Contains (below problem.pairs.n)) part v members c) in
        let k = t.closed.below v l in
        un.whole v (slice_index start.group v) c (all_of (slice_index start.group v) (omega (arith, l, k))) (sym (t.closed.least v l))

-- the decisions of a step are within a part exactly where its vertices are
within_part : (part : List ℕ) (kind : Kind) (u v : ℕ) → Contains part u × Contains part v → Within part (decision_by kind u v)
within_part part Twin u v w = w
within_part part Pair u v w = w
within_part part Heavy u v w = w
within_part part Light u v w = w

in_part : (part : List ℕ) (kind : Kind) (u v : ℕ) → Within part (decision_by kind u v) → Contains part u × Contains part v
in_part part Twin u v w = w
in_part part Pair u v w = w
in_part part Heavy u v w = w
in_part part Light u v w = w

undivided_first : (s : State) (steps : List Step) (part : List ℕ) → Undivided (stepped s steps) part → Undivided s part
undivided_first s [] part un = un
undivided_first s (step ∷ steps) part un =
    undivided_before s (decision_of step) part (undivided_first (decided s (decision_of step)) steps part un)

-- a state with more decisions
abbrev pub with_more : State → List Decision → State
with_more p ds = record p { decisions = p.decisions ++ ds }

-- one step, where the rest of them is known for each state of the part
restricted_by : (s p : State) (part : List ℕ) (step : Step) (steps : List Step) (b : Bool) → (is_in part step.u && is_in part step.v) ≡ b →
    p.members ≡ part → Restricts s p → StepHolds s step → Undivided (decided s (decision_of step)) part →
    ((q : State) → q.members ≡ part → Restricts (decided s (decision_of step)) q →
    Restricts (stepped (decided s (decision_of step)) steps) (with_more q (decisions_within part steps))) →
    Restricts (stepped (decided s (decision_of step)) steps)
    (with_more p (map decision_of (cond b (step ∷ filter (λ step. is_in part step.u && is_in part step.v) steps)
    (filter (λ step. is_in part step.u && is_in part step.v) steps))))
restricted_by s p part step steps true t e r held un rest =
    let q = and_parts (is_in part step.u) (is_in part step.v) t in
    let w : Within p.members (decision_of step) = subst (λ ms. Within ms (decision_of step)) (sym e)
    (within_part part step.kind step.u step.v (listed_is_in part step.u q.0, listed_is_in part step.v q.1)) in
    subst (λ (ds : List Decision). Restricts (stepped (decided s (decision_of step)) steps) (record p { decisions = ds }))
    (append_assoc p.decisions (decision_of step ∷ []) (decisions_within part steps))
    (rest (decided p (decision_of step)) e
    (restricts_both s p (decision_of step) r (decided_there s p (decision_of step) r (held_decides s step held) w)))
restricted_by s p part step steps false t e r held un rest = rest p e
    (restricts_other s p (decision_of step) r (held_decides s step held)
    (subst (λ ms. Undivided (decided s (decision_of step)) ms) (sym e) un)
    (λ w. let k = in_part part step.kind step.u step.v (subst (λ ms. Within ms (decision_of step)) e w) in
    true≢false (sym (and_from (is_in part step.u) (is_in part step.v) (is_in_listed part step.u k.0) (is_in_listed part step.v k.1)) ∙ t)))

-- a state of a part restricts that of all members, step by step
restricted : (steps : List Step) (s p : State) (part : List ℕ) → p.members ≡ part → Restricts s p → StepsHold s steps →
    Undivided (stepped s steps) part → Restricts (stepped s steps) (with_more p (decisions_within part steps))
restricted [] s p part e r h un =
    subst (λ (ds : List Decision). Restricts s (record p { decisions = ds })) (sym (append-nil p.decisions)) r
restricted (step ∷ steps) s p part e r h un =
    restricted_by s p part step steps (is_in part step.u && is_in part step.v) refl e r h.0
    (undivided_first (decided s (decision_of step)) steps part un)
    (λ q f k. restricted steps (decided s (decision_of step)) q part f k h.1 un)

-- a part's state restricts that after the root steps: it is valid, and has the groups there
pub part_restricts : (problem : Posed) (start : Closed) (steps : List Step) (earlier : List (List ℕ)) (part : List ℕ) → IsTask problem start →
    StepsHold (whole_state problem start) steps → IsPart (stepped (whole_state problem start) steps) earlier part →
    Restricts (stepped (whole_state problem start) steps) (part_state problem start steps part)
part_restricts problem start steps earlier part t h p =
    restricted steps (whole_state problem start) (undecided problem.pairs start part) part refl (record {
      state = record {
        one_size = sym t.size;
        small = t.few;
        total = t.posed.total;
        closed = t.closed;
        members = part_members problem start part t p.rising members (undivided_first (whole_state problem start) steps part un);
        made = tt;
      };
      members = λ v c. All-contains (Contains (below problem.pairs.n)) part v members c;
      leaders = λ v c. refl;
      apart = λ q c. c;
    }) h un
  where
    all_members : (stepped (whole_state problem start) steps).members ≡ below problem.pairs.n
    all_members = ap (λ (s : State). s.members) (stepped_is (whole_state problem start) steps)

    members : All (Contains (below problem.pairs.n)) part
    members = subst (λ ms. All (Contains ms) part) all_members p.members

    un : Undivided (stepped (whole_state problem start) steps) part
    un = record { whole = p.undivided }

pub part_is_state : (problem : Posed) (start : Closed) (steps : List Step) (earlier : List (List ℕ)) (part : List ℕ) → IsTask problem start →
    StepsHold (whole_state problem start) steps → IsPart (stepped (whole_state problem start) steps) earlier part → IsState (part_state problem start steps part)
part_is_state problem start steps earlier part t h p = (part_restricts problem start steps earlier part t h p).state
