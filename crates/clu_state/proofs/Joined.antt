-- The tables after a decision.
use Rattle.std.proofs.Common.{◌≡◌, ℕ, ℤ, ◌+ℤ◌, ◌≤◌, ◌<◌, ◌≢◌, ⊎_elim, min, max, List, [], ◌∷◌, ◌++◌, length, slice_index, get_or, Contains, refl, sym, ap, ◌∙◌, subst, arith, if◌then◌else◌, ◌==◌, ◌||◌, append_assoc, append-nil, EachIndex}
use Rattle.std.proofs.lemmas.Int.{ints}
use Rattle.std.proofs.lemmas.Bool.{cases_eq, eq-eqb}
use Rattle.std.proofs.lemmas.Grind.{get_or_default_zero}
use Rattle.std.proofs.lemmas.List.Elements.{All-contains}
use Rattle.clu_partition.specs.Pairs.{Pairs, weight_of}
use Rattle.clu_partition.specs.Values.{value_on}
use Rattle.clu_partition.specs.Groups.{leaders, between}
use Rattle.clu_partition.proofs.SumLaws.{Among}
use Rattle.clu_partition.proofs.Regroup.{AreGroups, between_sym, among_filter}
use Rattle.clu_partition.proofs.TableLaws.{weight_sym}
use Rattle.clu_partition.specs.Closed.{joins}
use Rattle.clu_partition.proofs.JoinLaws.{joins_turn}
use Rattle.clu_partition.specs.PairSets.{Chosen, has}
use Rattle.clu_partition.proofs.PairMerges.{has_turn}
use Rattle.clu_state.proofs.JoinSteps.{joins_low, joins_aside}
use Rattle.clu_state.proofs.Class.{same_group_member}
use Rattle.clu_state.specs.State.{State, IsState, IsFree, merged, step_group, groups_after, leader, CanDecide, CanDecideAll, decided, fixed_value, are_apart, kept_apart, apart_decisions}
use Rattle.clu_state.specs.Rebuilt.{TablesAgree, Leads}
use Rattle.clu_state.specs.declared.decision.Decision.{Decision}
use Rattle.clu_state.specs.declared.decision.Decision.TheVariants.{Together, Apart}
use Rattle.clu_state.proofs.GroupLaws.{leader_leads, min_either, max_either}
use Rattle.clu_state.proofs.Bridge.{state_are_groups, among_from, contains_at, below_all}
use Rattle.clu_state.proofs.Bounds.{between_small, fixed_size}
use Rattle.std.proofs.Common.{unsigned_abs, ◌^◌}
use Rattle.clu_state.proofs.Merge.{relabelled, between_low, between_other, value_relabelled, moved, stays}

-- ---- one more decision
pub groups_push : (group : ℕ → ℕ) (ds : List Decision) (d : Decision) → groups_after group (ds ++ d ∷ []) ≡ step_group (groups_after group ds) d
groups_push group [] d = refl
groups_push group (Together u v ∷ ds) d = groups_push (merged group u v) ds d
groups_push group (Apart u v ∷ ds) d = groups_push group ds d

pub leader_together : (s : State) (u v : ℕ) → leader (decided s (Together u v)) ≡ relabelled (leader s) (min (leader s u) (leader s v)) (max (leader s u) (leader s v))
leader_together s u v = groups_push (slice_index s.start.group) s.decisions (Together u v)

pub leader_apart : (s : State) (u v : ℕ) → leader (decided s (Apart u v)) ≡ leader s
leader_apart s u v = groups_push (slice_index s.start.group) s.decisions (Apart u v)

apart_push : (ds : List Decision) (d : Decision) → apart_decisions (ds ++ d ∷ []) ≡ apart_decisions ds ++ apart_decisions (d ∷ [])
apart_push [] d = refl
apart_push (Together u v ∷ ds) d = apart_push ds d
apart_push (Apart u v ∷ ds) d = ap (λ k. (u, v) ∷ k) (apart_push ds d)

pub kept_together : (s : State) (u v : ℕ) → kept_apart (decided s (Together u v)) ≡ kept_apart s
kept_together s u v = ap (λ k. s.start.forbidden ++ k) (apart_push s.decisions (Together u v) ∙ append-nil (apart_decisions s.decisions))

pub kept_more : (s : State) (u v : ℕ) → kept_apart (decided s (Apart u v)) ≡ kept_apart s ++ (u, v) ∷ []
kept_more s u v = ap (λ k. s.start.forbidden ++ k) (apart_push s.decisions (Apart u v)) ∙ sym (append_assoc s.start.forbidden (apart_decisions s.decisions) ((u, v) ∷ []))

made_push : (s : State) (ds : List Decision) (d : Decision) → CanDecideAll s ds → CanDecide (record s { decisions = s.decisions ++ ds }) d → CanDecideAll s (ds ++ d ∷ [])
made_push s [] d m c = (subst (λ ds. CanDecide (record s { decisions = ds }) d) (append-nil s.decisions) c, tt)
made_push s (e ∷ ds) d m c = (m.0, made_push (decided s e) ds d m.1 (subst (λ xs. CanDecide (record s { decisions = xs }) d) (sym (append_assoc s.decisions (e ∷ []) ds)) c))

pub decided_state : (s : State) (d : Decision) → IsState s → CanDecide s d → IsState (decided s d)
decided_state s d i c = record {
  one_size = i.one_size;
  small = i.small;
  total = i.total;
  closed = i.closed;
  members = i.members;
  made = made_push (record s { decisions = [] }) s.decisions d i.made c;
}

-- ---- places
pub place_is : (members place : List ℕ) (a : ℕ) → ((i : ℕ) → i < length members → slice_index place (slice_index members i) ≡ i) → Contains members a → (slice_index place a < length members) × (slice_index members (slice_index place a) ≡ a)
place_is members place a at' c =
    let e : get_or members c.0 0 ≡ a = sym (get_or_default_zero members c.0 a c.1) ∙ c.2 in
    let k : slice_index place a ≡ c.0 = ap (slice_index place) (sym e) ∙ at' c.0 c.1 in
    let l : c.0 < length members = c.1 in
    (omega (arith, k, l), ap (slice_index members) k ∙ e)

pub places_differ : (members place : List ℕ) (a b : ℕ) → ((i : ℕ) → i < length members → slice_index place (slice_index members i) ≡ i) → Contains members a → Contains members b → a ≢ b →
    slice_index place a ≢ slice_index place b
places_differ members place a b at' ca cb n e = n (sym (place_is members place a at' ca).1 ∙ ap (slice_index members) e ∙ (place_is members place b at' cb).1)

-- ---- groups
pub record Two (s : State) (low high : ℕ) : Type 0 where
  pub low_leads : Leads s low
  pub high_leads : Leads s high
  pub differ : low ≢ high

pub two_of : (s : State) (u v : ℕ) → IsState s → IsFree s u v → Two s (min (leader s u) (leader s v)) (max (leader s u) (leader s v))
two_of s u v i f = record {
  low_leads = min_either (Leads s) (leader s u) (leader s v) (leader_leads s u i f.first) (leader_leads s v i f.second);
  high_leads = max_either (Leads s) (leader s u) (leader s v) (leader_leads s u i f.first) (leader_leads s v i f.second);
  differ = λ e. f.differ (omega arith);
}

-- what leads after the two are one led before, and isn't the higher
old_leader : (s : State) (low high a : ℕ) → Two s low high → relabelled (leader s) low high a ≡ a → (leader s a ≡ a) × (a ≢ high)
old_leader s low high a t e = ⊎_elim
    (λ f. absurd (t.differ (sym t.low_leads.least ∙ ap (leader s) (sym (moved (leader s) low high a f) ∙ e) ∙ f)))
    (λ n. let k : leader s a ≡ a = sym (stays (leader s) low high a n) ∙ e in (k, (λ h. n (k ∙ h))))
    (cases_eq (leader s a) high)

-- what the loop over the weights left
pub record Summed (members group : List ℕ) (old new : Pairs) (low high : ℕ) : Type 0 where
  pub size : new.n ≡ old.n
  pub sums : (j : ℕ) → j < length members → j ≢ low → j ≢ high → slice_index group (slice_index members j) ≡ slice_index members j → weight_of new low j ≡ weight_of old low j +ℤ weight_of old high j
  pub others : (i j : ℕ) → i < length members → j < length members → i ≢ low → j ≢ low → weight_of new i j ≡ weight_of old i j

-- the new weights, for the merged groups
new_weight : (s : State) (group place : List ℕ) (old new : Pairs) (apart : Chosen) (fixed : ℤ) (low high a b : ℕ) → TablesAgree s group place old apart fixed → Two s low high →
    Summed s.members group old new (slice_index place low) (slice_index place high) →
    Leads s a → Leads s b → a ≢ high → b ≢ high → a ≢ b →
    weight_of new (slice_index place a) (slice_index place b) ≡ between (weight_of s.pairs) (relabelled (leader s) low high) s.members a b
new_weight s group place old new marks fixed low high a b g t m la lb ah bh ab = ⊎_elim
    (λ e. subst (λ x. weight_of new (slice_index place x) (slice_index place b) ≡ between w (relabelled (leader s) low high) s.members x b) (sym e) (at_low b lb (λ f. ab (e ∙ sym f)) bh))
    (λ n. ⊎_elim
    (λ e. weight_sym new (slice_index place a) (slice_index place b) ∙
    subst (λ x. weight_of new (slice_index place x) (slice_index place a) ≡ between w (relabelled (leader s) low high) s.members x a) (sym e) (at_low a la n ah) ∙
    between_sym w (weight_sym s.pairs) (relabelled (leader s) low high) s.members b a)
    (λ k. m.others (slice_index place a) (slice_index place b) (p a la).0 (p b lb).0 (apart a low la t.low_leads n) (apart b low lb t.low_leads k) ∙
    g.contracted a b la lb ab ∙
    sym (between_other w (leader s) low high a b s.members n ah k bh))
    (cases_eq b low))
    (cases_eq a low)
  where
    w : ℕ → ℕ → ℤ
    w = weight_of s.pairs

    p : (x : ℕ) → Leads s x → (slice_index place x < length s.members) × (slice_index s.members (slice_index place x) ≡ x)
    p x l = place_is s.members place x g.places l.member

    apart : (x y : ℕ) → Leads s x → Leads s y → x ≢ y → slice_index place x ≢ slice_index place y
    apart x y k l n = places_differ s.members place x y g.places k.member l.member n

    live : (x : ℕ) → Leads s x → slice_index group (slice_index s.members (slice_index place x)) ≡ slice_index s.members (slice_index place x)
    live x l = ap (slice_index group) (p x l).1 ∙ g.leaders x (All-contains (λ v. v < length s.start.group) s.members x g.state.members.below l.member) ∙ l.least ∙ sym (p x l).1

    at_low : (x : ℕ) → Leads s x → x ≢ low → x ≢ high → weight_of new (slice_index place low) (slice_index place x) ≡ between w (relabelled (leader s) low high) s.members low x
    at_low x l n k =
        m.sums (slice_index place x) (p x l).0 (apart x low l t.low_leads n) (apart x high l t.high_leads k) (live x l) ∙
        ap (λ z. z +ℤ weight_of old (slice_index place high) (slice_index place x)) (g.contracted low x t.low_leads l (λ e. n (sym e))) ∙
        ap (λ z. between w (leader s) s.members low x +ℤ z) (g.contracted high x t.high_leads l (λ e. k (sym e))) ∙
        sym (between_low w (leader s) low high x s.members t.differ n k)

-- what the loop over the marks left
pub record Marked (old new : Chosen) (low high : ℕ) : Type 0 where
  pub size : new.n ≡ old.n
  pub joined : (j : ℕ) → j < old.n → j ≢ low → has new low j ≡ (has old low j || has old high j)
  pub others : (i j : ℕ) → i < old.n → j < old.n → i ≢ low → j ≢ low → has new i j ≡ has old i j

-- the new marks, for the merged groups
new_mark : (s : State) (group place : List ℕ) (weights : Pairs) (old new : Chosen) (fixed : ℤ) (low high a b : ℕ) → TablesAgree s group place weights old fixed → Two s low high →
    Marked old new (slice_index place low) (slice_index place high) →
    Leads s a → Leads s b → a ≢ high → b ≢ high → a ≢ b →
    has new (slice_index place a) (slice_index place b) ≡ joins (relabelled (leader s) low high) (kept_apart s) a b
new_mark s group place weights old new fixed low high a b g t m la lb ah bh ab = ⊎_elim
    (λ e. subst (λ x. has new (slice_index place x) (slice_index place b) ≡ joins (relabelled (leader s) low high) (kept_apart s) x b) (sym e) (at_low b lb (λ f. ab (e ∙ sym f)) bh))
    (λ n. ⊎_elim
    (λ e. has_turn new (slice_index place a) (slice_index place b) ∙
    subst (λ x. has new (slice_index place x) (slice_index place a) ≡ joins (relabelled (leader s) low high) (kept_apart s) x a) (sym e) (at_low a la n ah) ∙
    joins_turn (relabelled (leader s) low high) (kept_apart s) b a)
    (λ k. m.others (slice_index place a) (slice_index place b) (p a la) (p b lb) (far a la n) (far b lb k) ∙
    g.separated a b la lb ab ∙
    sym (joins_aside (leader s) low high a b (la.least, (n, ah)) (lb.least, (k, bh)) (kept_apart s)))
    (cases_eq b low))
    (cases_eq a low)
  where
    p : (x : ℕ) → Leads s x → slice_index place x < old.n
    p x l = let q = (place_is s.members place x g.places l.member).0 in let e = g.marks_size in omega (arith, q, e)

    far : (x : ℕ) → Leads s x → x ≢ low → slice_index place x ≢ slice_index place low
    far x l n = places_differ s.members place x low g.places l.member t.low_leads.member n

    at_low : (x : ℕ) → Leads s x → x ≢ low → x ≢ high → has new (slice_index place low) (slice_index place x) ≡ joins (relabelled (leader s) low high) (kept_apart s) low x
    at_low x l n k =
        m.joined (slice_index place x) (p x l) (far x l n) ∙
        ap (λ z. z || has old (slice_index place high) (slice_index place x)) (g.separated low x t.low_leads l (λ e. n (sym e))) ∙
        ap (λ z. are_apart s low x || z) (g.separated high x t.high_leads l (λ e. k (sym e))) ∙
        sym (joins_low (leader s) low high x t.low_leads.least t.high_leads.least t.differ (l.least, (n, k)) (kept_apart s))

pub leads_leader : (s : State) (a : ℕ) → Leads s a → Among a (leaders (leader s) s.members)
leads_leader s a l = among_filter (λ u. leader s u == u) a s.members (eq-eqb (leader s a) a l.least) (among_from s.members a l.member)

pub new_fixed : (s : State) (low high : ℕ) → IsState s → Two s low high → value_on (weight_of s.pairs) (relabelled (leader s) low high) s.members ≡ fixed_value s +ℤ between (weight_of s.pairs) (leader s) s.members low high
new_fixed s low high i t = value_relabelled (weight_of s.pairs) (weight_sym s.pairs) (leader s) low high s.members (state_are_groups s i) (leads_leader s low t.low_leads) (leads_leader s high t.high_leads) t.low_leads.least t.high_leads.least t.differ

-- the tables after `together`
pub agrees_together : (s : State) (group group' place : List ℕ) (old new : Pairs) (marks marks' : Chosen) (fixed : ℤ) (u v low high : ℕ) → TablesAgree s group place old marks fixed → IsFree s u v →
    low ≡ min (leader s u) (leader s v) → high ≡ max (leader s u) (leader s v) →
    length group' ≡ length group → EachIndex group' (λ k. slice_index group' k ≡ (if slice_index group k == high then low else slice_index group k)) →
    Summed s.members group old new (slice_index place low) (slice_index place high) →
    Marked marks marks' (slice_index place low) (slice_index place high) →
    TablesAgree (decided s (Together u v)) group' place new marks' (fixed +ℤ weight_of old (slice_index place low) (slice_index place high))
agrees_together s group group' place old new marks marks' fixed u v low high g f el eh len re m k = record {
  state = decided_state s (Together u v) g.state f;
  few = g.few;
  group_size = len ∙ g.group_size;
  leaders = λ x l. let i : x < length group' = let a = g.group_size in omega (arith, a, len, l) in
      re x i ∙ ap (λ k. if k == high then low else k) (g.leaders x l) ∙ sym (ap (λ (h : ℕ → ℕ). h x) path);
  place_size = g.place_size;
  places = g.places;
  table_size = m.size ∙ g.table_size;
  contracted = λ a b la lb ab.
      let p = old_leader s low high a t (ap (λ (h : ℕ → ℕ). h a) (sym path) ∙ la.least) in
      let q = old_leader s low high b t (ap (λ (h : ℕ → ℕ). h b) (sym path) ∙ lb.least) in
      new_weight s group place old new marks fixed low high a b g t m (record { member = la.member; least = p.0 }) (record { member = lb.member; least = q.0 }) p.1 q.1 ab ∙
      ap (λ (h : ℕ → ℕ). between (weight_of s.pairs) h s.members a b) (sym path);
  marks_size = k.size ∙ g.marks_size;
  separated = λ a b la lb ab.
      let p = old_leader s low high a t (ap (λ (h : ℕ → ℕ). h a) (sym path) ∙ la.least) in
      let q = old_leader s low high b t (ap (λ (h : ℕ → ℕ). h b) (sym path) ∙ lb.least) in
      new_mark s group place old marks marks' fixed low high a b g t k (record { member = la.member; least = p.0 }) (record { member = lb.member; least = q.0 }) p.1 q.1 ab ∙
      ap (λ (h : ℕ → ℕ). joins h (kept_apart s) a b) (sym path) ∙
      ap (λ ps. joins (leader (decided s (Together u v))) ps a b) (sym (kept_together s u v));
  inside =
      let a = g.inside in
      let b = g.contracted low high t.low_leads t.high_leads t.differ in
      let c = new_fixed s low high g.state t in
      let d = ap (λ (h : ℕ → ℕ). value_on (weight_of s.pairs) h s.members) path in
      omega (arith, ints, a, b, c, d);
}
  where
    path : leader (decided s (Together u v)) ≡ relabelled (leader s) low high
    path = leader_together s u v ∙ ap (λ k. relabelled (leader s) k (max (leader s u) (leader s v))) (sym el) ∙ ap (relabelled (leader s) low) (sym eh)

    t : Two s low high
    t = subst (λ k. Two s k high) (sym el) (subst (Two s (min (leader s u) (leader s v))) (sym eh) (two_of s u v g.state f))

-- ---- what the join of two groups needs
pub record Ready (members group place : List ℕ) (weights : Pairs) (apart : Chosen) (low high : ℕ) : Type 0 where
  pub low_below : low < length place
  pub high_below : high < length place
  pub low_place : slice_index place low < length members
  pub high_place : slice_index place high < length members
  pub size : weights.n ≡ length members
  pub marks : apart.n ≡ length members
  pub whole : (v : ℕ) → v < length group → slice_index group v ≡ high → Contains members v
  pub few : length members ≤ 1000
  pub differ : slice_index place low ≢ slice_index place high
  pub small : (j : ℕ) → j < length members → j ≢ slice_index place low → j ≢ slice_index place high → slice_index group (slice_index members j) ≡ slice_index members j
      → unsigned_abs (weight_of weights (slice_index place low) j +ℤ weight_of weights (slice_index place high) j) ≤ 2 ^ 88

pub member_below : (s : State) (a : ℕ) → IsState s → Contains s.members a → a < length s.start.group
member_below s a i c = All-contains (λ v. v < length s.start.group) s.members a i.members.below c

sum_small : (s : State) (low high x : ℕ) → IsState s → Two s low high → IsState (record s { decisions = s.decisions }) → AreGroups (relabelled (leader s) low high) s.members → Leads s x → x ≢ low → x ≢ high →
    unsigned_abs (between (weight_of s.pairs) (leader s) s.members low x +ℤ between (weight_of s.pairs) (leader s) s.members high x) ≤ 2 ^ 88
sum_small s low high x i t _ g l n k =
    let e = between_low (weight_of s.pairs) (leader s) low high x s.members t.differ n k in
    let stays_low : relabelled (leader s) low high low ≡ low = stays (leader s) low high low (λ f. t.differ (sym t.low_leads.least ∙ f)) ∙ t.low_leads.least in
    let stays_x : relabelled (leader s) low high x ≡ x = stays (leader s) low high x (λ f. k (sym l.least ∙ f)) ∙ l.least in
    let ml : Among low (leaders (relabelled (leader s) low high) s.members) = among_filter (λ u. relabelled (leader s) low high u == u) low s.members (eq-eqb (relabelled (leader s) low high low) low stays_low) (among_from s.members low t.low_leads.member) in
    let mx : Among x (leaders (relabelled (leader s) low high) s.members) = among_filter (λ u. relabelled (leader s) low high u == u) x s.members (eq-eqb (relabelled (leader s) low high x) x stays_x) (among_from s.members x l.member) in
    let b = between_small (weight_of s.pairs) (weight_sym s.pairs) (relabelled (leader s) low high) s.members s.pairs.n g (below_all s i) low x ml mx (λ f. n (sym f)) in
    let z = ap unsigned_abs e in
    let total = i.total in
    omega (arith, ints, b, z, total)

pub ready : (s : State) (group place : List ℕ) (weights : Pairs) (apart : Chosen) (fixed : ℤ) (u v low high : ℕ) → TablesAgree s group place weights apart fixed → IsFree s u v →
    low ≡ min (slice_index group u) (slice_index group v) → high ≡ max (slice_index group u) (slice_index group v) → Ready s.members group place weights apart low high
ready s group place weights apart fixed u v low high g f el eh = record {
  low_below = let a = member_below s low g.state t.low_leads.member in let b = g.place_size in omega (arith, a, b);
  high_below = let a = member_below s high g.state t.high_leads.member in let b = g.place_size in omega (arith, a, b);
  low_place = (p low t.low_leads).0;
  high_place = (p high t.high_leads).0;
  size = g.table_size;
  marks = g.marks_size;
  whole = λ x l e.
      let i : x < length s.start.group = let k = g.group_size in omega (arith, l, k) in
      same_group_member s g.state x high i t.high_leads.member (sym (g.leaders x i) ∙ e ∙ sym t.high_leads.least);
  few = g.few;
  differ = λ e. t.differ (sym (p low t.low_leads).1 ∙ ap (slice_index s.members) e ∙ (p high t.high_leads).1);
  small = λ j l n k e.
      let c = contains_at s.members j l in
      let lj : Leads s (slice_index s.members j) = record { member = c; least = sym (g.leaders (slice_index s.members j) (member_below s (slice_index s.members j) g.state c)) ∙ e } in
      let nl : slice_index s.members j ≢ low = λ h. n (sym (g.places j l) ∙ ap (slice_index place) h) in
      let nh : slice_index s.members j ≢ high = λ h. k (sym (g.places j l) ∙ ap (slice_index place) h) in
      let a = g.contracted low (slice_index s.members j) t.low_leads lj (λ h. nl (sym h)) in
      let b = g.contracted high (slice_index s.members j) t.high_leads lj (λ h. nh (sym h)) in
      let a' : weight_of weights (slice_index place low) j ≡ between (weight_of s.pairs) (leader s) s.members low (slice_index s.members j) = ap (weight_of weights (slice_index place low)) (sym (g.places j l)) ∙ a in
      let b' : weight_of weights (slice_index place high) j ≡ between (weight_of s.pairs) (leader s) s.members high (slice_index s.members j) = ap (weight_of weights (slice_index place high)) (sym (g.places j l)) ∙ b in
      subst (λ z. unsigned_abs (z +ℤ weight_of weights (slice_index place high) j) ≤ 2 ^ 88) (sym a')
      (subst (λ z. unsigned_abs (between (weight_of s.pairs) (leader s) s.members low (slice_index s.members j) +ℤ z) ≤ 2 ^ 88) (sym b')
      (sum_small s low high (slice_index s.members j) g.state t g.state merged_groups lj nl nh));
}
  where
    lu : slice_index group u ≡ leader s u
    lu = g.leaders u (member_below s u g.state f.first)

    lv : slice_index group v ≡ leader s v
    lv = g.leaders v (member_below s v g.state f.second)

    fl : low ≡ min (leader s u) (leader s v)
    fl = omega (arith, el, lu, lv)

    fh : high ≡ max (leader s u) (leader s v)
    fh = omega (arith, eh, lu, lv)

    t : Two s low high
    t = subst (λ k. Two s k high) (sym fl) (subst (Two s (min (leader s u) (leader s v))) (sym fh) (two_of s u v g.state f))

    p : (x : ℕ) → Leads s x → (slice_index place x < length s.members) × (slice_index s.members (slice_index place x) ≡ x)
    p x l = place_is s.members place x g.places l.member

    path : leader (decided s (Together u v)) ≡ relabelled (leader s) low high
    path = leader_together s u v ∙ ap (λ k. relabelled (leader s) k (max (leader s u) (leader s v))) (sym fl) ∙ ap (relabelled (leader s) low) (sym fh)

    merged_groups : AreGroups (relabelled (leader s) low high) s.members
    merged_groups = subst (λ (h : ℕ → ℕ). AreGroups h s.members) path (state_are_groups (decided s (Together u v)) (decided_state s (Together u v) g.state f))

pub ready_at : (s : State) (members group place : List ℕ) (weights : Pairs) (apart : Chosen) (fixed : ℤ) (u v low high : ℕ) → s.members ≡ members → TablesAgree s group place weights apart fixed → IsFree s u v →
    low ≡ min (slice_index group u) (slice_index group v) → high ≡ max (slice_index group u) (slice_index group v) → Ready members group place weights apart low high
ready_at s members group place weights apart fixed u v low high em g f el eh = subst (λ ms. Ready ms group place weights apart low high) em (ready s group place weights apart fixed u v low high g f el eh)

pub joined_agrees : (s : State) (members group group' place : List ℕ) (old new : Pairs) (marks marks' : Chosen) (fixed gained : ℤ) (u v low high p q : ℕ) → s.members ≡ members → TablesAgree s group place old marks fixed → IsFree s u v →
    low ≡ min (slice_index group u) (slice_index group v) → high ≡ max (slice_index group u) (slice_index group v) →
    length group' ≡ length group → EachIndex group' (λ k. slice_index group' k ≡ (if slice_index group k == high then low else slice_index group k)) →
    Summed members group old new p q → Marked marks marks' p q → p ≡ slice_index place low → q ≡ slice_index place high → gained ≡ weight_of old p q →
    TablesAgree (decided s (Together u v)) group' place new marks' (fixed +ℤ gained)
joined_agrees s members group group' place old new marks marks' fixed gained u v low high p q em g f el eh len re m k ep eq' ew =
    let lu : slice_index group u ≡ leader s u = g.leaders u (member_below s u g.state f.first) in
    let lv : slice_index group v ≡ leader s v = g.leaders v (member_below s v g.state f.second) in
    let m1 = subst (λ ms. Summed ms group old new p q) (sym em) m in
    let m2 = subst (λ x. Summed s.members group old new x q) ep m1 in
    let m3 = subst (λ x. Summed s.members group old new (slice_index place low) x) eq' m2 in
    let k1 = subst (λ x. Marked marks marks' x q) ep k in
    let k2 = subst (λ x. Marked marks marks' (slice_index place low) x) eq' k1 in
    let w : gained ≡ weight_of old (slice_index place low) (slice_index place high) = ew ∙ ap (λ x. weight_of old x q) ep ∙ ap (weight_of old (slice_index place low)) eq' in
    subst (λ z. TablesAgree (decided s (Together u v)) group' place new marks' (fixed +ℤ z)) (sym w)
    (agrees_together s group group' place old new marks marks' fixed u v low high g f (omega (arith, el, lu, lv)) (omega (arith, eh, lu, lv)) len re m3 k2)

pub fixed_small : (s : State) (group place : List ℕ) (weights : Pairs) (apart : Chosen) (fixed : ℤ) → TablesAgree s group place weights apart fixed → unsigned_abs fixed ≤ 2 ^ 88
fixed_small s group place weights apart fixed g = let b = fixed_size s g.state in let z = ap unsigned_abs g.inside in omega (arith, b, z)

pub agrees_same : (s t : State) (group group' place place' : List ℕ) (weights : Pairs) (apart : Chosen) (fixed fixed' : ℤ) → TablesAgree s group place weights apart fixed → t ≡ s → group' ≡ group → place' ≡ place → fixed' ≡ fixed →
    TablesAgree t group' place' weights apart fixed'
agrees_same s t group group' place place' weights apart fixed fixed' g es eg ep ef =
    subst (λ x. TablesAgree x group' place' weights apart fixed') (sym es)
    (subst (λ x. TablesAgree s x place' weights apart fixed') (sym eg)
    (subst (λ x. TablesAgree s group x weights apart fixed') (sym ep)
    (subst (TablesAgree s group place weights apart) (sym ef) g)))
