-- Two groups made one: the weights between groups and the value inside.
use Rattle.std.proofs.Common.{◌≡◌, ℕ, ℤ, pos, ◌≢◌, ⊎_elim, ◌+ℤ◌, List, sym, ap, ◌∙◌, arith, ◌==◌, if◌then◌else◌}
use Rattle.std.proofs.lemmas.Int.{ints}
use Rattle.std.proofs.lemmas.Bool.{eq-eqb, ne_eqb, cases_eq}
use Rattle.clu_partition.specs.Sums.{total, only_if}
use Rattle.clu_partition.specs.Values.{value_on}
use Rattle.clu_partition.specs.Groups.{leaders, group_members, between}
use Rattle.clu_partition.proofs.SumLaws.{Each, Among, total_cong, total_add, total_zero, total_cong_on, only_same, only_other, shared_sym}
use Rattle.clu_partition.proofs.Regroup.{AreGroups, filter_total, value_split, leaders_rising, between_sym, apart_pairs, leaders_lead}
use Rattle.clu_partition.proofs.TakeOut.{TwoOut, two_out, out_pairs, each_splice, rising_splice}
use Rattle.clu_partition.proofs.ListLaws.{each_map, each_and}

-- the group `high` goes over to `low`
abbrev pub relabelled : (ℕ → ℕ) → ℕ → ℕ → ℕ → ℕ
relabelled group low high x = if group x == high then low else group x

pub moved : (group : ℕ → ℕ) (low high x : ℕ) → group x ≡ high → relabelled group low high x ≡ low
moved group low high x e = ap (λ b. if b then low else group x) (eq-eqb (group x) high e)

pub stays : (group : ℕ → ℕ) (low high x : ℕ) → group x ≢ high → relabelled group low high x ≡ group x
stays group low high x n = ap (λ b. if b then low else group x) (ne_eqb (group x) high n)

low_point : (group : ℕ → ℕ) (low high x : ℕ) (z : ℤ) → low ≢ high → only_if (relabelled group low high x == low) z ≡ only_if (group x == low) z +ℤ only_if (group x == high) z
low_point group low high x z n = ⊎_elim
    (λ e.
    let a = only_same (relabelled group low high x) low z (moved group low high x e) in
    let b = only_other (group x) low z (λ f. n (sym f ∙ e)) in
    let c = only_same (group x) high z e in
    omega (arith, ints, a, b, c))
    (λ d.
    let a = ap (λ k. only_if (k == low) z) (stays group low high x d) in
    let c = only_other (group x) high z d in
    omega (arith, ints, a, c))
    (cases_eq (group x) high)

other_point : (group : ℕ → ℕ) (low high a x : ℕ) (z : ℤ) → a ≢ low → a ≢ high → only_if (relabelled group low high x == a) z ≡ only_if (group x == a) z
other_point group low high a x z m n = ⊎_elim
    (λ e. only_other (relabelled group low high x) a z (λ f. m (sym f ∙ moved group low high x e)) ∙ sym (only_other (group x) a z (λ f. n (sym f ∙ e))))
    (λ d. ap (λ k. only_if (k == a) z) (stays group low high x d))
    (cases_eq (group x) high)

low_block : (f : ℕ → ℤ) (group : ℕ → ℕ) (low high : ℕ) (members : List ℕ) → low ≢ high →
    total f (group_members (relabelled group low high) members low) ≡ total f (group_members group members low) +ℤ total f (group_members group members high)
low_block f group low high members n =
    let a = filter_total f (λ x. relabelled group low high x == low) members in
    let b = total_cong (λ x. only_if (relabelled group low high x == low) (f x)) (λ x. only_if (group x == low) (f x) +ℤ only_if (group x == high) (f x)) members (λ x. low_point group low high x (f x) n) in
    let c = total_add (λ x. only_if (group x == low) (f x)) (λ x. only_if (group x == high) (f x)) members in
    let d = filter_total f (λ x. group x == low) members in
    let e = filter_total f (λ x. group x == high) members in
    omega (arith, ints, a, b, c, d, e)

other_block : (f : ℕ → ℤ) (group : ℕ → ℕ) (low high a : ℕ) (members : List ℕ) → a ≢ low → a ≢ high →
    total f (group_members (relabelled group low high) members a) ≡ total f (group_members group members a)
other_block f group low high a members m n =
    filter_total f (λ x. relabelled group low high x == a) members ∙
    total_cong (λ x. only_if (relabelled group low high x == a) (f x)) (λ x. only_if (group x == a) (f x)) members (λ x. other_point group low high a x (f x) m n) ∙
    sym (filter_total f (λ x. group x == a) members)

pub between_low : (w : ℕ → ℕ → ℤ) (group : ℕ → ℕ) (low high b : ℕ) (members : List ℕ) → low ≢ high → b ≢ low → b ≢ high →
    between w (relabelled group low high) members low b ≡ between w group members low b +ℤ between w group members high b
between_low w group low high b members n m k =
    low_block (λ u. total (w u) (group_members (relabelled group low high) members b)) group low high members n ∙
    ap₂' (total_cong (λ u. total (w u) (group_members (relabelled group low high) members b)) (λ u. total (w u) (group_members group members b)) (group_members group members low) (λ u. other_block (w u) group low high b members m k))
    (total_cong (λ u. total (w u) (group_members (relabelled group low high) members b)) (λ u. total (w u) (group_members group members b)) (group_members group members high) (λ u. other_block (w u) group low high b members m k))
  where
    ap₂' : {x y z t : ℤ} → x ≡ y → z ≡ t → x +ℤ z ≡ y +ℤ t
    ap₂' {x} {y} {z} {t} p q = ap (λ k. k +ℤ z) p ∙ ap (λ k. y +ℤ k) q

pub between_other : (w : ℕ → ℕ → ℤ) (group : ℕ → ℕ) (low high a b : ℕ) (members : List ℕ) → a ≢ low → a ≢ high → b ≢ low → b ≢ high →
    between w (relabelled group low high) members a b ≡ between w group members a b
between_other w group low high a b members p q m k =
    other_block (λ u. total (w u) (group_members (relabelled group low high) members b)) group low high a members p q ∙
    total_cong (λ u. total (w u) (group_members (relabelled group low high) members b)) (λ u. total (w u) (group_members group members b)) (group_members group members a) (λ u. other_block (w u) group low high b members m k)

-- ---- the value inside
lone_row : (b : ℕ → ℕ → ℤ) (label : ℕ → ℕ) (a low : ℕ) (rest : List ℕ) → label a ≡ low → Each (λ x. label x ≢ low) rest → total (λ x. only_if (label a == label x) (b a x)) rest ≡ pos 0
lone_row b label a low rest e all =
    total_cong_on (λ x. only_if (label a == label x) (b a x)) (λ _. pos 0) (λ x. label x ≢ low) rest all (λ x n. only_other (label a) (label x) (b a x) (λ f. n (sym f ∙ e))) ∙ total_zero rest

pub value_relabelled : (w : ℕ → ℕ → ℤ) → ((u v : ℕ) → w u v ≡ w v u) → (group : ℕ → ℕ) (low high : ℕ) (members : List ℕ) → AreGroups group members →
    Among low (leaders group members) → Among high (leaders group members) → group low ≡ low → group high ≡ high → low ≢ high →
    value_on w (relabelled group low high) members ≡ value_on w group members +ℤ between w group members low high
value_relabelled w s group low high members g ml mh el eh n =
    let l = leaders group members in
    let q = relabelled group low high in
    let b = between w group members in
    let bs : ((x y : ℕ) → between w group members x y ≡ between w group members y x) = λ x y. between_sym w s group members x y in
    let keeps : Each (λ u. relabelled group low high (group u) ≡ relabelled group low high u) members = each_map (λ u. group (group u) ≡ group u) (λ u. relabelled group low high (group u) ≡ relabelled group low high u) members (λ u e. ap (λ k. if k == high then low else k) e) g.least_of in
    let split = value_split w s (relabelled group low high) group members g keeps in
    let up = leaders_rising group members g in
    let o : TwoOut (leaders group members) low high = two_out (leaders group members) low high up ml mh n in
    let pairs = out_pairs (λ x y. only_if (relabelled group low high x == relabelled group low high y) (between w group members x y)) (λ x y. shared_sym (between w group members) bs (relabelled group low high) x y) (leaders group members) low high o in
    let lead : Each (λ x. group x ≡ x) o.rest = each_splice (λ x. group x ≡ x) o.second (each_splice (λ x. group x ≡ x) o.first (leaders_lead group members)) in
    let own : Each (λ x. relabelled group low high x ≡ x) o.rest = each_map (λ x. (group x ≡ x) × (x ≢ high)) (λ x. relabelled group low high x ≡ x) o.rest (λ x p. stays group low high x (λ f. p.1 (sym p.0 ∙ f)) ∙ p.0) (each_and (λ x. group x ≡ x) (λ x. x ≢ high) o.rest lead o.not_second) in
    let far : Each (λ x. relabelled group low high x ≢ low) o.rest = each_map (λ x. (relabelled group low high x ≡ x) × (x ≢ low)) (λ x. relabelled group low high x ≢ low) o.rest (λ x p f. p.1 (sym p.0 ∙ f)) (each_and (λ x. relabelled group low high x ≡ x) (λ x. x ≢ low) o.rest own o.not_first) in
    let at_low : relabelled group low high low ≡ low = stays group low high low (λ f. n (sym el ∙ f)) ∙ el in
    let at_high : relabelled group low high high ≡ low = moved group low high high eh in
    let one = lone_row b (relabelled group low high) low low o.rest at_low far in
    let two = lone_row b (relabelled group low high) high low o.rest at_high far in
    let three = apart_pairs (relabelled group low high) b o.rest (rising_splice o.second (rising_splice o.first up)) own in
    let four = only_same (relabelled group low high low) (relabelled group low high high) (between w group members low high) (at_low ∙ sym at_high) in
    omega (arith, ints, split, pairs, one, two, three, four)
