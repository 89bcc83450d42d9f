-- The steps of the loops that make labels and parts.
use Rattle.std.proofs.Common.{◌≡◌, ⊎_elim, ℕ, ◌+◌, ◌<◌, ◌≤◌, List, ◌++◌, length, get_or, slice_index, drop, map, ◌==◌, All, Contains, EachIndex, sym, ap, ◌∙◌, subst, arith}
use Rattle.std.proofs.lemmas.Bool.{eq-eqb, cases_eq}
use Rattle.std.proofs.lemmas.List.{append-nil, drop_all, get_or_default}
use Rattle.std.proofs.lemmas.List.Elements.{All-contains}
use Rattle.clu_partition.specs.Groups.{leaders, group_members}
use Rattle.clu_partition.proofs.PairLaws.{one_less}
use Rattle.clu_partition.proofs.StartLaws.{all_from}
use Rattle.clu_partition.proofs.SumLaws.{Rising}
use Rattle.clu_partition.proofs.ListLaws.{rising_at}
use Rattle.clu_partition.proofs.Regroup.{rising_filter, among_filter}
use Rattle.clu_state.proofs.Class.{among_filtered}
use Rattle.clu_state.specs.State.{State, IsState, leader, merged, group_leaders}
use Rattle.clu_state.proofs.Bridge.{rising_from_index, contains_from, among_from}
use Rattle.clu_reduce.specs.Components.{Attract, AreLabels, AreStable, StayTogether}
use Rattle.clu_reduce.specs.Parts.{AreParts}
use Rattle.clu_reduce.proofs.ComponentLaws.{labels_first, labels_more, labels_same, merged_stays, merged_one, stable_from}
use Rattle.clu_reduce.proofs.PartsBy.{parts_by, parts_are}

-- ---- the list of parts
pub parts_done : (s : State) → IsState s → (label : ℕ → ℕ) → AreLabels s label → AreStable s label → (i : ℕ) → length s.members ≤ i → (parts : List (List ℕ))
    → parts ++ map (group_members label s.members) (leaders label (drop i s.members)) ≡ parts_by label s.members → AreParts s parts
parts_done s i label a t k l parts h = subst (AreParts s) (sym is) (parts_are s i label a t)
  where
    is : parts ≡ parts_by label s.members
    is = sym (append-nil parts) ∙ ap (λ xs. parts ++ map (group_members label s.members) (leaders label xs)) (sym (drop_all k s.members l)) ∙ h

-- ---- one pair
pub record Tied (s : State) (old new : ℕ → ℕ) (a b : ℕ) : Type 0 where
  pub labels : AreLabels s new
  pub kept : StayTogether s old new
  pub tied : Attract s a b → new a ≡ new b

pub tied_by : (s : State) (old new : List ℕ) (a b : ℕ) → All (λ v. v < length old) s.members → AreLabels s (slice_index old) → Attract s a b
    → EachIndex old (λ x. slice_index new x ≡ merged (slice_index old) a b x) → Tied s (slice_index old) (slice_index new) a b
tied_by s old new a b small labels n made = record {
  labels = labels_same s (merged (slice_index old) a b) (slice_index new) same (labels_more s (slice_index old) a b labels n.free n.above);
  kept = λ u v cu cv e. same u cu ∙ merged_stays (slice_index old) a b u v e ∙ sym (same v cv);
  tied = λ _. same a n.free.first ∙ merged_one (slice_index old) a b ∙ sym (same b n.free.second);
}
  where
    same : (v : ℕ) → Contains s.members v → slice_index new v ≡ merged (slice_index old) a b v
    same v c = made v (All-contains (λ x. x < length old) s.members v small c)

-- ---- the first labels
pub labels_made : (s : State) → IsState s → (labels : List ℕ) → ((k : ℕ) → k < length s.members → slice_index labels (slice_index s.members k) ≡ leader s (slice_index s.members k))
    → AreLabels s (slice_index labels)
labels_made s i labels h = labels_same s (leader s) (slice_index labels) at (labels_first s i)
  where
    at : (v : ℕ) → Contains s.members v → slice_index labels v ≡ leader s v
    at v c = let e = get_or_default s.members c.0 0 v c.1 ∙ c.2 in
        subst (λ x. slice_index labels x ≡ leader s x) e (h c.0 c.1)

pub made_labels : (s : State) (members labels : List ℕ) (i : ℕ) → members ≡ s.members → IsState s → length members ≤ i
    → ((k : ℕ) → k < i → slice_index labels (slice_index members k) ≡ leader s (slice_index members k)) → AreLabels s (slice_index labels)
made_labels s members labels i e st l h = labels_made s st labels (λ k m. subst (λ (ms : List ℕ). slice_index labels (slice_index ms k) ≡ leader s (slice_index ms k)) e
    (h k (let f = ap length e in omega (arith, l, m, f))))

-- ---- one group with the later ones
pub tied_more : (s : State) (groups : List ℕ) (old now new : ℕ → ℕ) (i j a b : ℕ) → All (Contains s.members) groups → i < length groups → j < length groups
    → get_or groups i a ≡ a → get_or groups j b ≡ b
    → StayTogether s now new → (Attract s a b → new a ≡ new b)
    → ((q : ℕ) → i < q → q < j → Attract s (slice_index groups i) (slice_index groups q) → now (slice_index groups i) ≡ now (slice_index groups q))
    → (q : ℕ) → i < q → q < j + 1 → Attract s (slice_index groups i) (slice_index groups q) → new (slice_index groups i) ≡ new (slice_index groups q)
tied_more s groups old now new i j a b all li lj ia jb kept tied h q low high near = ⊎_elim
    (λ e. subst (λ x. new (slice_index groups i) ≡ new (slice_index groups x)) (sym e)
    (ap new at_i ∙ tied (subst (λ x. Attract s a x) at_j (subst (λ x. Attract s x (slice_index groups j)) at_i (subst (λ x. Attract s (slice_index groups i) (slice_index groups x)) e near))) ∙ sym (ap new at_j)))
    (λ n. kept (slice_index groups i) (slice_index groups q) near.free.first near.free.second (h q low (omega (arith, high, n)) near))
    (cases_eq q j)
  where
    at_i : slice_index groups i ≡ a
    at_i = get_or_default groups i 0 a li ∙ ia

    at_j : slice_index groups j ≡ b
    at_j = get_or_default groups j 0 b lj ∙ jb

pub tied_then : (s : State) (groups : List ℕ) (now new : ℕ → ℕ) (i : ℕ)
    → StayTogether s now new
    → ((p q : ℕ) → p < i → p < q → q < length groups → Attract s (slice_index groups p) (slice_index groups q) → now (slice_index groups p) ≡ now (slice_index groups q))
    → ((q : ℕ) → i < q → q < length groups → Attract s (slice_index groups i) (slice_index groups q) → new (slice_index groups i) ≡ new (slice_index groups q))
    → (p q : ℕ) → p < i + 1 → p < q → q < length groups → Attract s (slice_index groups p) (slice_index groups q) → new (slice_index groups p) ≡ new (slice_index groups q)
tied_then s groups now new i kept h here p q l m few near = ⊎_elim
    (λ e. subst (λ x. new (slice_index groups x) ≡ new (slice_index groups q)) (sym e)
    (here q (omega (arith, e, m)) few (subst (λ x. Attract s (slice_index groups x) (slice_index groups q)) e near)))
    (λ n. kept (slice_index groups p) (slice_index groups q) near.free.first near.free.second (h p q (omega (arith, l, n)) m few near))
    (cases_eq p i)

-- the groups' least vertices are members
pub leaders_are_members : (s : State) → All (Contains s.members) (group_leaders s)
leaders_are_members s = all_from (Contains s.members) (group_leaders s) (λ v c.
    contains_from s.members v (among_filtered (λ u. leader s u == u) v s.members (among_from (group_leaders s) v c)))

pub stable_all : (s : State) → IsState s → (label : ℕ → ℕ) → AreLabels s label → (i : ℕ) → length (group_leaders s) ≤ i
    → ((p q : ℕ) → p < i → p < q → q < length (group_leaders s) → Attract s (slice_index (group_leaders s) p) (slice_index (group_leaders s) q)
    → label (slice_index (group_leaders s) p) ≡ label (slice_index (group_leaders s) q))
    → AreStable s label
stable_all s st label a i l h = stable_from s st label a (λ x y cx cy ex ey lt near.
    let mx = listed x cx ex in
    let my = listed y cy ey in
    let px = at x mx in
    let py = at y my in
    let lx = mx.1 in
    let ly = my.1 in
    sym (ap label px)
    ∙ h mx.0 my.0 (omega (arith, lx, l)) (below x y mx my lt) ly
    (subst (λ k. Attract s (slice_index (group_leaders s) mx.0) k) (sym py) (subst (λ k. Attract s k y) (sym px) near))
    ∙ ap label py)
  where
    listed : (x : ℕ) → Contains s.members x → leader s x ≡ x → Contains (group_leaders s) x
    listed x c e = contains_from (group_leaders s) x (among_filter (λ u. leader s u == u) x s.members (eq-eqb (leader s x) x e) (among_from s.members x c))

    at : (x : ℕ) (c : Contains (group_leaders s) x) → slice_index (group_leaders s) c.0 ≡ x
    at x c = get_or_default (group_leaders s) c.0 0 x c.1 ∙ c.2

    up : Rising (group_leaders s)
    up = rising_filter (λ u. leader s u == u) s.members (rising_from_index s.members st.members.rising)

    below : (x y : ℕ) (mx : Contains (group_leaders s) x) (my : Contains (group_leaders s) y) → x < y → mx.0 < my.0
    below x y mx my l = ⊎_elim
        (λ e. let px = at x mx in let py = at y my in let pe = ap (slice_index (group_leaders s)) e in absurd (omega (arith, px, py, l, pe)))
        (λ n. ⊎_elim (λ k. k) (λ k. let r = rising_at (group_leaders s) my.0 mx.0 up k mx.1 in let px = at x mx in let py = at y my in absurd (omega (arith, r, px, py, l)))
        (one_less mx.0 my.0 n))
        (cases_eq mx.0 my.0)

-- the groups as a list that is theirs
pub groups_are_members : (s : State) (groups : List ℕ) → groups ≡ group_leaders s → All (Contains s.members) groups
groups_are_members s groups e = subst (All (Contains s.members)) (sym e) (leaders_are_members s)

pub member_at : (s : State) (groups : List ℕ) (i a : ℕ) → All (Contains s.members) groups → i < length groups → get_or groups i a ≡ a → Contains s.members a
member_at s groups i a all l e = All-contains (Contains s.members) groups a all (i, l, e)

pub tied_next : (s : State) (groups : List ℕ) → groups ≡ group_leaders s → (now new : ℕ → ℕ) (i : ℕ)
    → StayTogether s now new
    → ((p q : ℕ) → p < i → p < q → q < length (group_leaders s) → Attract s (slice_index (group_leaders s) p) (slice_index (group_leaders s) q)
    → now (slice_index (group_leaders s) p) ≡ now (slice_index (group_leaders s) q))
    → ((q : ℕ) → i < q → q < length groups → Attract s (slice_index groups i) (slice_index groups q) → new (slice_index groups i) ≡ new (slice_index groups q))
    → (p q : ℕ) → p < i + 1 → p < q → q < length (group_leaders s) → Attract s (slice_index (group_leaders s) p) (slice_index (group_leaders s) q)
    → new (slice_index (group_leaders s) p) ≡ new (slice_index (group_leaders s) q)
tied_next s groups e now new i kept h here = tied_then s (group_leaders s) now new i kept h
    (subst (λ (gs : List ℕ). (q : ℕ) → i < q → q < length gs → Attract s (slice_index gs i) (slice_index gs q) → new (slice_index gs i) ≡ new (slice_index gs q)) e here)
