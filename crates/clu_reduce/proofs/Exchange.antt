-- Two groups whose decision keeps a best partition: for each partition of the groups there is one that obeys it and is worth as much at
-- least.
use Rattle.std.proofs.Common.{unsigned_abs, true≢false, ◌≡◌, ℕ, ℤ, pos, negsuc, ◌+◌, ◌≤◌, ◌<◌, ◌≢◌, ◌⊎◌, inl, inr, ⊎_elim, ◌+ℤ◌, ◌≤ℤ◌, List, [], ◌∷◌, Bool, true, false, not, ◌||◌, refl, sym, ap, ◌∙◌, arith, suc, ◌==◌, if◌then◌else◌, subst}
use Rattle.std.proofs.lemmas.Int.{ints, by_lt_z}
use Rattle.std.proofs.lemmas.Bool.{eq-eqb, ne_eqb, eqb-true, cases_eq, false_from_ne_true}
use Rattle.clu_partition.specs.Sums.{total, pair_total, only_if, positive}
use Rattle.clu_partition.specs.Values.{value_on}
use Rattle.clu_partition.proofs.SumLaws.{Each, Among, Rising, total_cong_on, total_le, total_add, total_zero, pair_cong_on, shared_sym}
use Rattle.clu_partition.proofs.ListLaws.{each_and}
use Rattle.clu_partition.proofs.TakeOut.{TwoOut, two_out, out_pairs, splice_total, each_splice}
use Rattle.clu_reduce.specs.Conditions.{gain, is_other}

pub record PairHolds (weight : ℕ → ℕ → ℤ) (apart : ℕ → ℕ → Bool) (groups : List ℕ) (u v : ℕ) : Type 0 where
  pub enough : total (λ x. only_if (is_other u v x) (gain weight apart u x +ℤ gain weight apart v x)) groups ≤ℤ weight u v

pub record TwinHolds (weight : ℕ → ℕ → ℤ) (apart : ℕ → ℕ → Bool) (groups : List ℕ) (u v : ℕ) : Type 0 where
  pub not_negative : pos 0 ≤ℤ weight u v
  pub same_partners : (x : ℕ) → Among x groups → x ≢ u → x ≢ v → apart u x ≡ apart v x
  pub same_weights : (x : ℕ) → Among x groups → x ≢ u → x ≢ v → apart u x ≡ false → weight u x ≡ weight v x

-- a sum over the list, by the two and the rest
pub out_total : (f : ℕ → ℤ) (groups : List ℕ) (u v : ℕ) (o : TwoOut groups u v) → total f groups ≡ f u +ℤ f v +ℤ total f o.rest
out_total f groups u v o =
    let h = splice_total f o.first in
    let k = splice_total f o.second in
    omega (arith, ints, h, k)

-- ---- tests on two vertices
pub other_true : (u v x : ℕ) (z : ℤ) → x ≢ u → x ≢ v → only_if (is_other u v x) z ≡ z
other_true u v x z m n = ap (λ a. only_if (not (a || x == v)) z) (ne_eqb x u m) ∙ ap (λ b. only_if (not b) z) (ne_eqb x v n)

pub other_first : (u v : ℕ) (z : ℤ) → only_if (is_other u v u) z ≡ pos 0
other_first u v z = ap (λ a. only_if (not (a || u == v)) z) (eq-eqb u u refl)

or_true : (a : Bool) → (a || true) ≡ true
or_true true = refl
or_true false = refl

pub other_second : (u v : ℕ) (z : ℤ) → only_if (is_other u v v) z ≡ pos 0
other_second u v z = ap (λ b. only_if (not (v == u || b)) z) (eq-eqb v v refl) ∙ ap (λ b. only_if (not b) z) (or_true (v == u))

pub same_label : (label : ℕ → ℕ) (a b : ℕ) (z : ℤ) → label a ≡ label b → only_if (label a == label b) z ≡ z
same_label label a b z e = ap (λ t. only_if t z) (eq-eqb (label a) (label b) e)

pub other_label : (label : ℕ → ℕ) (a b : ℕ) (z : ℤ) → label a ≢ label b → only_if (label a == label b) z ≡ pos 0
other_label label a b z n = ap (λ t. only_if t z) (ne_eqb (label a) (label b) n)

-- the partition with u and v given the label c
abbrev pub with_label : (ℕ → ℕ) → ℕ → ℕ → ℕ → ℕ → ℕ
with_label label u v c x = if x == u || x == v then c else label x

with_first : (label : ℕ → ℕ) (u v c : ℕ) → with_label label u v c u ≡ c
with_first label u v c = ap (λ a. if a || u == v then c else label u) (eq-eqb u u refl)

with_second : (label : ℕ → ℕ) (u v c : ℕ) → with_label label u v c v ≡ c
with_second label u v c = ap (λ b. if v == u || b then c else label v) (eq-eqb v v refl) ∙ ap (λ b. if b then c else label v) (or_true (v == u))

with_other : (label : ℕ → ℕ) (u v c x : ℕ) → x ≢ u → x ≢ v → with_label label u v c x ≡ label x
with_other label u v c x m n = ap (λ a. if a || x == v then c else label x) (ne_eqb x u m) ∙ ap (λ b. if b then c else label x) (ne_eqb x v n)

-- a label above all
fresh : (ℕ → ℕ) → List ℕ → ℕ
fresh label [] = 0
fresh label (x ∷ xs) = suc (label x) + fresh label xs

fresh_above : (label : ℕ → ℕ) (k : ℕ) (xs : List ℕ) → fresh label xs ≤ k → Each (λ x. label x < k) xs
unfolding fresh
fresh_above label k [] l = tt
fresh_above label k (x ∷ xs) l = (omega arith, fresh_above label k xs (omega arith))

-- ---- partitions that join no apart pair
pub record Legal (apart : ℕ → ℕ → Bool) (groups : List ℕ) (label : ℕ → ℕ) : Type 0 where
  pub parts : (a b : ℕ) → Among a groups → Among b groups → apart a b ≡ true → label a ≢ label b

pub record AreApart (apart : ℕ → ℕ → Bool) : Type 0 where
  pub turned : (a b : ℕ) → apart a b ≡ apart b a

-- a partition with u and v in one block and at least the value of the given one
pub record Joins (weight : ℕ → ℕ → ℤ) (apart : ℕ → ℕ → Bool) (groups : List ℕ) (u v : ℕ) (label : ℕ → ℕ) : Type 0 where
  pub better : ℕ → ℕ
  pub legal : Legal apart groups better
  pub joined : better u ≡ better v
  pub worth : value_on weight label groups ≤ℤ value_on weight better groups

covers : (e a : Bool) (z : ℤ) → (a ≡ true → e ≡ false) → only_if e z ≤ℤ only_if (not a) (pos (positive z))
covers true true z h = absurd (absurd_case (h refl))
  where
    absurd_case : true ≡ false → ⊥
    absurd_case e = cc
covers true false (pos n) h = omega (arith, ints)
covers true false (negsuc n) h = omega (arith, ints)
covers false true z h = omega (arith, ints)
covers false false z h = omega (arith, ints)

-- x is one of the two, or neither
IsOne : ℕ → ℕ → ℕ → Type 0
IsOne u v x = (x ≡ u) ⊎ (x ≡ v)

which : (u v x : ℕ) → IsOne u v x ⊎ ((x ≢ u) × (x ≢ v))
unfolding IsOne
which u v x = ⊎_elim (λ e. inl (inl e)) (λ n. ⊎_elim (λ e. inl (inr e)) (λ m. inr (n, m)) (cases_eq x v)) (cases_eq x u)

with_one : (label : ℕ → ℕ) (u v c x : ℕ) → IsOne u v x → with_label label u v c x ≡ c
unfolding IsOne
with_one label u v c x p = ⊎_elim (λ e. ap (with_label label u v c) e ∙ with_first label u v c) (λ e. ap (with_label label u v c) e ∙ with_second label u v c) p

free_two : (apart : ℕ → ℕ → Bool) (u v a b : ℕ) → AreApart apart → apart u v ≡ false → IsOne u v a → IsOne u v b → apart a b ≡ true → a ≢ b → ⊥
unfolding IsOne
free_two apart u v a b r free p q t o = ⊎_elim
    (λ e. ⊎_elim (λ f. o (e ∙ sym f)) (λ f. clash1 e f) q)
    (λ e. ⊎_elim (λ f. clash2 e f (r.turned v u)) (λ f. o (e ∙ sym f)) q)
    p
  where
    clash1 : a ≡ u → b ≡ v → ⊥
    clash1 e f = cc

    clash2 : a ≡ v → b ≡ u → apart v u ≡ apart u v → ⊥
    clash2 e f h = cc

each_at : (P : ℕ → Type 0) (x : ℕ) (xs : List ℕ) → Each P xs → Among x xs → P x
each_at P x [] all m = absurd m
each_at P x (y ∷ ys) all m = ⊎_elim (λ e. subst P (sym e) all.0) (λ n. each_at P x ys all.1 n) m

-- u and v with a label of their own
pub join_alone : (apart : ℕ → ℕ → Bool) (groups : List ℕ) (u v : ℕ) (label : ℕ → ℕ) → AreApart apart → apart u v ≡ false → Legal apart groups label →
    (c : ℕ) → Each (λ x. label x < c) groups → Legal apart groups (with_label label u v c)
join_alone apart groups u v label r free legal c above = record {
  parts = λ a b ma mb t. ⊎_elim
      (λ p. ⊎_elim
      (λ q. absurd (free_two apart u v a b r free p q t (λ e. legal.parts a b ma mb t (ap label e))))
      (λ o e. let h = with_one label u v c a p in let k = with_other label u v c b o.0 o.1 in let l = each_at (λ x. label x < c) b groups above mb in omega (arith, h, k, l, e))
      (which u v b))
      (λ n. ⊎_elim
      (λ q e. let h = with_one label u v c b q in let k = with_other label u v c a n.0 n.1 in let l = each_at (λ x. label x < c) a groups above ma in omega (arith, h, k, l, e))
      (λ o e. legal.parts a b ma mb t (sym (with_other label u v c a n.0 n.1) ∙ e ∙ with_other label u v c b o.0 o.1))
      (which u v b))
      (which u v a);
}

-- ---- the pair reduction
-- what u earns with the rest of its block is at most its gains
earned_most : (w : ℕ → ℕ → ℤ) (apart : ℕ → ℕ → Bool) (groups : List ℕ) (label : ℕ → ℕ) → Legal apart groups label → (u : ℕ) (rest : List ℕ) → Among u groups → Each (λ x. Among x groups) rest →
    total (λ x. only_if (label u == label x) (w u x)) rest ≤ℤ total (gain w apart u) rest
earned_most w apart groups label legal u rest mu all =
    total_le (λ x. only_if (label u == label x) (w u x)) (gain w apart u) (λ x. Among x groups) rest all
    (λ x mx. covers (label u == label x) (apart u x) (w u x) (λ t. ne_eqb (label u) (label x) (legal.parts u x mu mx t)))

alone_row : (w : ℕ → ℕ → ℤ) (label : ℕ → ℕ) (u v c a : ℕ) (rest groups : List ℕ) → IsOne u v a → Each (λ x. (x ≢ u) × ((x ≢ v) × (label x < c))) rest →
    total (λ x. only_if (with_label label u v c a == with_label label u v c x) (w a x)) rest ≡ pos 0
alone_row w label u v c a rest groups p all =
    total_cong_on (λ x. only_if (with_label label u v c a == with_label label u v c x) (w a x)) (λ _. pos 0) (λ x. (x ≢ u) × ((x ≢ v) × (label x < c))) rest all
    (λ x n. other_label (with_label label u v c) a x (w a x) (λ e. let h = with_one label u v c a p in let k = with_other label u v c x n.0 n.1.0 in let l = n.1.1 in omega (arith, h, k, l, e))) ∙
    total_zero rest

rest_same : (w : ℕ → ℕ → ℤ) (label : ℕ → ℕ) (u v c : ℕ) (rest : List ℕ) → Each (λ x. (x ≢ u) × (x ≢ v)) rest →
    pair_total (λ x y. only_if (with_label label u v c x == with_label label u v c y) (w x y)) rest ≡ pair_total (λ x y. only_if (label x == label y) (w x y)) rest
rest_same w label u v c rest all =
    pair_cong_on (λ x y. only_if (with_label label u v c x == with_label label u v c y) (w x y)) (λ x y. only_if (label x == label y) (w x y)) (λ x. (x ≢ u) × (x ≢ v)) rest all
    (λ x y p q. ap (λ k. only_if (k == with_label label u v c y) (w x y)) (with_other label u v c x p.0 p.1) ∙ ap (λ k. only_if (label x == k) (w x y)) (with_other label u v c y q.0 q.1))

pub pair_joins : (w : ℕ → ℕ → ℤ) → ((u v : ℕ) → w u v ≡ w v u) → (apart : ℕ → ℕ → Bool) → AreApart apart → (groups : List ℕ) → Rising groups → (u v : ℕ) → Among u groups → Among v groups → u ≢ v → apart u v ≡ false →
    PairHolds w apart groups u v → (label : ℕ → ℕ) → Legal apart groups label → Joins w apart groups u v label
unfolding IsOne
pair_joins w s apart r groups up u v mu mv n free holds label legal = ⊎_elim
    (λ e. record { better = label; legal = legal; joined = e; worth = omega (arith, ints) })
    (λ d.
    let o : TwoOut groups u v = two_out groups u v up mu mv n in
    let c = fresh label groups in
    let above : Each (λ x. label x < fresh label groups) groups = fresh_above label (fresh label groups) groups (omega arith) in
    let q = with_label label u v c in
    let before = out_pairs (λ x y. only_if (label x == label y) (w x y)) (λ x y. shared_sym w s label x y) groups u v o in
    let after = out_pairs (λ x y. only_if (with_label label u v c x == with_label label u v c y) (w x y)) (λ x y. shared_sym w s (with_label label u v c) x y) groups u v o in
    let cond' = out_total (λ x. only_if (is_other u v x) (gain w apart u x +ℤ gain w apart v x)) groups u v o in
    let at_u = other_first u v (gain w apart u u +ℤ gain w apart v u) in
    let at_v = other_second u v (gain w apart u v +ℤ gain w apart v v) in
    let nots : Each (λ x. (x ≢ u) × (x ≢ v)) o.rest = each_and (λ x. x ≢ u) (λ x. x ≢ v) o.rest o.not_first o.not_second in
    let at_rest = total_cong_on (λ x. only_if (is_other u v x) (gain w apart u x +ℤ gain w apart v x)) (λ x. gain w apart u x +ℤ gain w apart v x) (λ x. (x ≢ u) × (x ≢ v)) o.rest nots (λ x k. other_true u v x (gain w apart u x +ℤ gain w apart v x) k.0 k.1) in
    let sums = total_add (gain w apart u) (gain w apart v) o.rest in
    let most_u = earned_most w apart groups label legal u o.rest mu o.inside in
    let most_v = earned_most w apart groups label legal v o.rest mv o.inside in
    let belows : Each (λ x. label x < fresh label groups) o.rest = each_splice (λ x. label x < fresh label groups) o.second (each_splice (λ x. label x < fresh label groups) o.first above) in
    let clear : Each (λ x. (x ≢ u) × ((x ≢ v) × (label x < fresh label groups))) o.rest = each_and (λ x. x ≢ u) (λ x. (x ≢ v) × (label x < fresh label groups)) o.rest o.not_first (each_and (λ x. x ≢ v) (λ x. label x < fresh label groups) o.rest o.not_second belows) in
    let row_u = alone_row w label u v c u o.rest groups (inl refl) clear in
    let row_v = alone_row w label u v c v o.rest groups (inr refl) clear in
    let same = rest_same w label u v c o.rest nots in
    let apart_before = other_label label u v (w u v) d in
    let together : with_label label u v c u ≡ with_label label u v c v = with_first label u v c ∙ sym (with_second label u v c) in
    let joined_after = same_label (with_label label u v c) u v (w u v) together in
    let enough = holds.enough in
    record {
      better = with_label label u v c;
      legal = join_alone apart groups u v label r free legal c above;
      joined = together;
      worth = omega (arith, ints, before, after, cond', at_u, at_v, at_rest, sums, most_u, most_v, row_u, row_v, same, apart_before, joined_after, enough);
    })
    (cases_eq (label u) (label v))

-- ---- the twin reduction
-- u and v with the label of t: t is apart from each third group that either is apart from
moved_legal : (apart : ℕ → ℕ → Bool) (groups : List ℕ) (u v t : ℕ) (label : ℕ → ℕ) → AreApart apart → apart u v ≡ false → Legal apart groups label → Among t groups →
    ((a b : ℕ) → IsOne u v a → (b ≢ u) × (b ≢ v) → Among b groups → apart a b ≡ true → apart t b ≡ true) →
    Legal apart groups (with_label label u v (label t))
moved_legal apart groups u v t label r free legal mt partner = record {
  parts = λ a b ma mb k. ⊎_elim
      (λ p. ⊎_elim
      (λ q. absurd (free_two apart u v a b r free p q k (λ e. legal.parts a b ma mb k (ap label e))))
      (λ o e. legal.parts t b mt mb (partner a b p o mb k) (sym (with_one label u v (label t) a p) ∙ e ∙ with_other label u v (label t) b o.0 o.1))
      (which u v b))
      (λ n. ⊎_elim
      (λ q e. legal.parts t a mt ma (partner b a q n ma (sym (r.turned a b) ∙ k)) (sym (with_one label u v (label t) b q) ∙ sym e ∙ with_other label u v (label t) a n.0 n.1))
      (λ o e. legal.parts a b ma mb k (sym (with_other label u v (label t) a n.0 n.1) ∙ e ∙ with_other label u v (label t) b o.0 o.1))
      (which u v b))
      (which u v a);
}

twin_legal : (w : ℕ → ℕ → ℤ) (apart : ℕ → ℕ → Bool) (groups : List ℕ) (u v t : ℕ) (label : ℕ → ℕ) → AreApart apart → apart u v ≡ false → Legal apart groups label → TwinHolds w apart groups u v → Among t groups → IsOne u v t →
    Legal apart groups (with_label label u v (label t))
unfolding IsOne
twin_legal w apart groups u v t label r free legal holds mt ot = moved_legal apart groups u v t label r free legal mt (λ a b p o mb k.
    let same = holds.same_partners b mb o.0 o.1 in
    let at_u : apart u b ≡ true = ⊎_elim (λ e. subst (λ x. apart x b ≡ true) e k) (λ e. same ∙ subst (λ x. apart x b ≡ true) e k) p in
    ⊎_elim (λ e. subst (λ x. apart x b ≡ true) (sym e) at_u) (λ e. subst (λ x. apart x b ≡ true) (sym e) (sym same ∙ at_u)) ot)

-- what the one earns in the other's block is what the other earns there
twin_row : (w : ℕ → ℕ → ℤ) (apart : ℕ → ℕ → Bool) (groups : List ℕ) (u v t a : ℕ) (label : ℕ → ℕ) → Legal apart groups label → TwinHolds w apart groups u v → Among t groups → IsOne u v t → IsOne u v a →
    (rest : List ℕ) → Each (λ x. Among x groups × ((x ≢ u) × (x ≢ v))) rest →
    total (λ x. only_if (with_label label u v (label t) a == with_label label u v (label t) x) (w a x)) rest ≡ total (λ x. only_if (label t == label x) (w t x)) rest
unfolding IsOne
twin_row w apart groups u v t a label legal holds mt ot oa rest all =
    total_cong_on (λ x. only_if (with_label label u v (label t) a == with_label label u v (label t) x) (w a x)) (λ x. only_if (label t == label x) (w t x)) (λ x. Among x groups × ((x ≢ u) × (x ≢ v))) rest all
    (λ x n. ap (λ k. only_if (k == with_label label u v (label t) x) (w a x)) (with_one label u v (label t) a oa) ∙
    ap (λ k. only_if (label t == k) (w a x)) (with_other label u v (label t) x n.1.0 n.1.1) ∙
    gated x n.0 n.1.0 n.1.1 (cases_eq (label t) (label x)))
  where
    even : (x : ℕ) → Among x groups → x ≢ u → x ≢ v → label t ≡ label x → w a x ≡ w t x
    even x mx xu xv e =
        let far : apart t x ≡ false = false_from_ne_true (apart t x) (λ k. legal.parts t x mt mx k e) in
        let far_u : apart u x ≡ false = ⊎_elim (λ h. subst (λ z. apart z x ≡ false) h far) (λ h. holds.same_partners x mx xu xv ∙ subst (λ z. apart z x ≡ false) h far) ot in
        let same = holds.same_weights x mx xu xv far_u in
        let to_u : (z : ℕ) → (z ≡ u) ⊎ (z ≡ v) → w z x ≡ w u x = λ z o. ⊎_elim (λ h. ap (λ k. w k x) h) (λ h. ap (λ k. w k x) h ∙ sym same) o in
        to_u a oa ∙ sym (to_u t ot)

    gated : (x : ℕ) → Among x groups → x ≢ u → x ≢ v → (label t ≡ label x) ⊎ (label t ≢ label x) → only_if (label t == label x) (w a x) ≡ only_if (label t == label x) (w t x)
    gated x mx xu xv d = ⊎_elim
        (λ e. ap (λ z. only_if (label t == label x) z) (even x mx xu xv e))
        (λ n. other_label label t x (w a x) n ∙ sym (other_label label t x (w t x) n))
        d

twin_to : (w : ℕ → ℕ → ℤ) → ((u v : ℕ) → w u v ≡ w v u) → (apart : ℕ → ℕ → Bool) → AreApart apart → (groups : List ℕ) (u v t : ℕ) (o : TwoOut groups u v) → apart u v ≡ false →
    TwinHolds w apart groups u v → (label : ℕ → ℕ) → Legal apart groups label → Among t groups → IsOne u v t → label u ≢ label v →
    (total (λ x. only_if (label u == label x) (w u x)) o.rest +ℤ total (λ x. only_if (label v == label x) (w v x)) o.rest) ≤ℤ (total (λ x. only_if (label t == label x) (w t x)) o.rest +ℤ total (λ x. only_if (label t == label x) (w t x)) o.rest) →
    Joins w apart groups u v label
unfolding IsOne
twin_to w s apart r groups u v t o free holds label legal mt ot d best =
    let before = out_pairs (λ x y. only_if (label x == label y) (w x y)) (λ x y. shared_sym w s label x y) groups u v o in
    let after = out_pairs (λ x y. only_if (with_label label u v (label t) x == with_label label u v (label t) y) (w x y)) (λ x y. shared_sym w s (with_label label u v (label t)) x y) groups u v o in
    let nots : Each (λ x. (x ≢ u) × (x ≢ v)) o.rest = each_and (λ x. x ≢ u) (λ x. x ≢ v) o.rest o.not_first o.not_second in
    let inside : Each (λ x. Among x groups × ((x ≢ u) × (x ≢ v))) o.rest = each_and (λ x. Among x groups) (λ x. (x ≢ u) × (x ≢ v)) o.rest o.inside nots in
    let row_u = twin_row w apart groups u v t u label legal holds mt ot (inl refl) o.rest inside in
    let row_v = twin_row w apart groups u v t v label legal holds mt ot (inr refl) o.rest inside in
    let same = rest_same w label u v (label t) o.rest nots in
    let apart_before = other_label label u v (w u v) d in
    let together : with_label label u v (label t) u ≡ with_label label u v (label t) v = with_first label u v (label t) ∙ sym (with_second label u v (label t)) in
    let joined_after = same_label (with_label label u v (label t)) u v (w u v) together in
    let enough = holds.not_negative in
    record {
      better = with_label label u v (label t);
      legal = twin_legal w apart groups u v t label r free legal holds mt ot;
      joined = together;
      worth = omega (arith, ints, before, after, row_u, row_v, same, apart_before, joined_after, enough, best);
    }

pub twin_joins : (w : ℕ → ℕ → ℤ) → ((u v : ℕ) → w u v ≡ w v u) → (apart : ℕ → ℕ → Bool) → AreApart apart → (groups : List ℕ) → Rising groups → (u v : ℕ) → Among u groups → Among v groups → u ≢ v → apart u v ≡ false →
    TwinHolds w apart groups u v → (label : ℕ → ℕ) → Legal apart groups label → Joins w apart groups u v label
unfolding IsOne
twin_joins w s apart r groups up u v mu mv n free holds label legal = ⊎_elim
    (λ e. record { better = label; legal = legal; joined = e; worth = omega (arith, ints) })
    (λ d.
    let o : TwoOut groups u v = two_out groups u v up mu mv n in
    by_lt_z (total (λ x. only_if (label u == label x) (w u x)) o.rest) (total (λ x. only_if (label v == label x) (w v x)) o.rest)
    (λ l. twin_to w s apart r groups u v v o free holds label legal mv (inr refl) d (omega (arith, ints, l)))
    (λ l. twin_to w s apart r groups u v u o free holds label legal mu (inl refl) d (omega (arith, ints, l))))
    (cases_eq (label u) (label v))

-- ---- the heavy reduction
pub record HeavyHolds (weight : ℕ → ℕ → ℤ) (apart : ℕ → ℕ → Bool) (groups : List ℕ) (u v : ℕ) : Type 0 where
  pub partners : (x : ℕ) → Among x groups → x ≢ u → x ≢ v → apart u x ≡ true → apart v x ≡ true
  pub enough : total (λ x. only_if (is_other u v x) (only_if (not (apart u x)) (pos (unsigned_abs (weight u x))))) groups ≤ℤ weight u v

heavy_point : (e f a : Bool) (z : ℤ) → (e ≡ true → f ≡ false) → (a ≡ true → e ≡ false) → (a ≡ true → f ≡ false) → only_if e z ≤ℤ (only_if f z +ℤ only_if (not a) (pos (unsigned_abs z)))
heavy_point true true a z h i j = absurd (true≢false (h refl))
heavy_point true false true z h i j = absurd (true≢false (i refl))
heavy_point true false false z h i j = omega (arith, ints)
heavy_point false true true z h i j = absurd (true≢false (j refl))
heavy_point false true false z h i j = omega (arith, ints)
heavy_point false false true z h i j = omega (arith, ints)
heavy_point false false false z h i j = omega (arith, ints)

heavy_legal : (w : ℕ → ℕ → ℤ) (apart : ℕ → ℕ → Bool) (groups : List ℕ) (u v : ℕ) (label : ℕ → ℕ) → AreApart apart → apart u v ≡ false → Legal apart groups label → HeavyHolds w apart groups u v → Among v groups → Legal apart groups (with_label label u v (label v))
unfolding IsOne
heavy_legal w apart groups u v label r free legal holds mv = moved_legal apart groups u v v label r free legal mv (λ a b p o mb k.
    ⊎_elim (λ e. holds.partners b mb o.0 o.1 (subst (λ x. apart x b ≡ true) e k)) (λ e. subst (λ x. apart x b ≡ true) e k) p)

moved_row : (w : ℕ → ℕ → ℤ) (label : ℕ → ℕ) (u v a c : ℕ) (rest : List ℕ) → IsOne u v a → Each (λ x. (x ≢ u) × (x ≢ v)) rest →
    total (λ x. only_if (with_label label u v c a == with_label label u v c x) (w a x)) rest ≡ total (λ x. only_if (c == label x) (w a x)) rest
moved_row w label u v a c rest oa all =
    total_cong_on (λ x. only_if (with_label label u v c a == with_label label u v c x) (w a x)) (λ x. only_if (c == label x) (w a x)) (λ x. (x ≢ u) × (x ≢ v)) rest all
    (λ x n. ap (λ k. only_if (k == with_label label u v c x) (w a x)) (with_one label u v c a oa) ∙ ap (λ k. only_if (c == k) (w a x)) (with_other label u v c x n.0 n.1))

pub heavy_joins : (w : ℕ → ℕ → ℤ) → ((u v : ℕ) → w u v ≡ w v u) → (apart : ℕ → ℕ → Bool) → AreApart apart → (groups : List ℕ) → Rising groups → (u v : ℕ) → Among u groups → Among v groups → u ≢ v → apart u v ≡ false →
    HeavyHolds w apart groups u v → (label : ℕ → ℕ) → Legal apart groups label → Joins w apart groups u v label
unfolding IsOne
heavy_joins w s apart r groups up u v mu mv n free holds label legal = ⊎_elim
    (λ e. record { better = label; legal = legal; joined = e; worth = omega (arith, ints) })
    (λ d.
    let o : TwoOut groups u v = two_out groups u v up mu mv n in
    let before = out_pairs (λ x y. only_if (label x == label y) (w x y)) (λ x y. shared_sym w s label x y) groups u v o in
    let after = out_pairs (λ x y. only_if (with_label label u v (label v) x == with_label label u v (label v) y) (w x y)) (λ x y. shared_sym w s (with_label label u v (label v)) x y) groups u v o in
    let nots : Each (λ x. (x ≢ u) × (x ≢ v)) o.rest = each_and (λ x. x ≢ u) (λ x. x ≢ v) o.rest o.not_first o.not_second in
    let inside : Each (λ x. Among x groups × ((x ≢ u) × (x ≢ v))) o.rest = each_and (λ x. Among x groups) (λ x. (x ≢ u) × (x ≢ v)) o.rest o.inside nots in
    let row_u = moved_row w label u v u (label v) o.rest (inl refl) nots in
    let row_v = moved_row w label u v v (label v) o.rest (inr refl) nots in
    let same = rest_same w label u v (label v) o.rest nots in
    let apart_before = other_label label u v (w u v) d in
    let together : with_label label u v (label v) u ≡ with_label label u v (label v) v = with_first label u v (label v) ∙ sym (with_second label u v (label v)) in
    let joined_after = same_label (with_label label u v (label v)) u v (w u v) together in
    let cond' = out_total (λ x. only_if (is_other u v x) (only_if (not (apart u x)) (pos (unsigned_abs (w u x))))) groups u v o in
    let at_u = other_first u v (only_if (not (apart u u)) (pos (unsigned_abs (w u u)))) in
    let at_v = other_second u v (only_if (not (apart u v)) (pos (unsigned_abs (w u v)))) in
    let at_rest = total_cong_on (λ x. only_if (is_other u v x) (only_if (not (apart u x)) (pos (unsigned_abs (w u x))))) (λ x. only_if (not (apart u x)) (pos (unsigned_abs (w u x)))) (λ x. (x ≢ u) × (x ≢ v)) o.rest nots (λ x k. other_true u v x (only_if (not (apart u x)) (pos (unsigned_abs (w u x)))) k.0 k.1) in
    let most = total_le (λ x. only_if (label u == label x) (w u x)) (λ x. only_if (label v == label x) (w u x) +ℤ only_if (not (apart u x)) (pos (unsigned_abs (w u x)))) (λ x. Among x groups × ((x ≢ u) × (x ≢ v))) o.rest inside
    (λ x p. heavy_point (label u == label x) (label v == label x) (apart u x) (w u x)
    (λ e. ne_eqb (label v) (label x) (λ f. d (eqb-true (label u) (label x) e ∙ sym f)))
    (λ t. ne_eqb (label u) (label x) (legal.parts u x mu p.0 t))
    (λ t. ne_eqb (label v) (label x) (legal.parts v x mv p.0 (holds.partners x p.0 p.1.0 p.1.1 t)))) in
    let sums = total_add (λ x. only_if (label v == label x) (w u x)) (λ x. only_if (not (apart u x)) (pos (unsigned_abs (w u x)))) o.rest in
    let enough = holds.enough in
    record {
      better = with_label label u v (label v);
      legal = heavy_legal w apart groups u v label r free legal holds mv;
      joined = together;
      worth = omega (arith, ints, before, after, row_u, row_v, same, apart_before, joined_after, cond', at_u, at_v, at_rest, most, sums, enough);
    })
    (cases_eq (label u) (label v))

alone_legal : (apart : ℕ → ℕ → Bool) (groups : List ℕ) (u : ℕ) (label : ℕ → ℕ) → AreApart apart → Legal apart groups label → (c : ℕ) → Each (λ x. label x < c) groups → Legal apart groups (with_label label u u c)
unfolding IsOne
alone_legal apart groups u label r legal c above = record {
  parts = λ a b ma mb t. ⊎_elim
      (λ p. ⊎_elim
      (λ q e. legal.parts a b ma mb t (ap label (to_u a p ∙ sym (to_u b q))))
      (λ o e. let h = with_one label u u c a p in let k = with_other label u u c b o.0 o.1 in let l = each_at (λ x. label x < c) b groups above mb in omega (arith, h, k, l, e))
      (which u u b))
      (λ n. ⊎_elim
      (λ q e. let h = with_one label u u c b q in let k = with_other label u u c a n.0 n.1 in let l = each_at (λ x. label x < c) a groups above ma in omega (arith, h, k, l, e))
      (λ o e. legal.parts a b ma mb t (sym (with_other label u u c a n.0 n.1) ∙ e ∙ with_other label u u c b o.0 o.1))
      (which u u b))
      (which u u a);
}
  where
    to_u : (a : ℕ) → (a ≡ u) ⊎ (a ≡ u) → a ≡ u
    to_u a p = ⊎_elim (λ e. e) (λ e. e) p

-- ---- the light reduction
pub record LightHolds (weight : ℕ → ℕ → ℤ) (apart : ℕ → ℕ → Bool) (groups : List ℕ) (u v : ℕ) : Type 0 where
  pub enough : (weight u v +ℤ total (λ x. only_if (is_other u v x) (gain weight apart u x)) groups) ≤ℤ pos 0

-- a partition with u and v in two blocks and at least the value of the given one
pub record Parts (weight : ℕ → ℕ → ℤ) (apart : ℕ → ℕ → Bool) (groups : List ℕ) (u v : ℕ) (label : ℕ → ℕ) : Type 0 where
  pub better : ℕ → ℕ
  pub legal : Legal apart groups better
  pub parted : better u ≢ better v
  pub worth : value_on weight label groups ≤ℤ value_on weight better groups

-- u alone, with a label above all
pub light_parts : (w : ℕ → ℕ → ℤ) → ((u v : ℕ) → w u v ≡ w v u) → (apart : ℕ → ℕ → Bool) → AreApart apart → (groups : List ℕ) → Rising groups → (u v : ℕ) → Among u groups → Among v groups → u ≢ v →
    LightHolds w apart groups u v → (label : ℕ → ℕ) → Legal apart groups label → Parts w apart groups u v label
unfolding IsOne
light_parts w s apart r groups up u v mu mv n holds label legal = ⊎_elim
    (λ e.
    let o : TwoOut groups u v = two_out groups u v up mu mv n in
    let c = fresh label groups in
    let above : Each (λ x. label x < fresh label groups) groups = fresh_above label (fresh label groups) groups (omega arith) in
    let before = out_pairs (λ x y. only_if (label x == label y) (w x y)) (λ x y. shared_sym w s label x y) groups u v o in
    let after = out_pairs (λ x y. only_if (with_label label u u (fresh label groups) x == with_label label u u (fresh label groups) y) (w x y)) (λ x y. shared_sym w s (with_label label u u (fresh label groups)) x y) groups u v o in
    let cond' = out_total (λ x. only_if (is_other u v x) (gain w apart u x)) groups u v o in
    let at_u = other_first u v (gain w apart u u) in
    let at_v = other_second u v (gain w apart u v) in
    let nots : Each (λ x. (x ≢ u) × (x ≢ v)) o.rest = each_and (λ x. x ≢ u) (λ x. x ≢ v) o.rest o.not_first o.not_second in
    let not_u : Each (λ x. (x ≢ u) × (x ≢ u)) o.rest = each_and (λ x. x ≢ u) (λ x. x ≢ u) o.rest o.not_first o.not_first in
    let at_rest = total_cong_on (λ x. only_if (is_other u v x) (gain w apart u x)) (gain w apart u) (λ x. (x ≢ u) × (x ≢ v)) o.rest nots (λ x k. other_true u v x (gain w apart u x) k.0 k.1) in
    let most_u = earned_most w apart groups label legal u o.rest mu o.inside in
    let belows : Each (λ x. label x < fresh label groups) o.rest = each_splice (λ x. label x < fresh label groups) o.second (each_splice (λ x. label x < fresh label groups) o.first above) in
    let clear : Each (λ x. (x ≢ u) × ((x ≢ u) × (label x < fresh label groups))) o.rest = each_and (λ x. x ≢ u) (λ x. (x ≢ u) × (label x < fresh label groups)) o.rest o.not_first (each_and (λ x. x ≢ u) (λ x. label x < fresh label groups) o.rest o.not_first belows) in
    let row_u = alone_row w label u u (fresh label groups) u o.rest groups (inl refl) clear in
    let keep_v : with_label label u u (fresh label groups) v ≡ label v = with_other label u u (fresh label groups) v (λ h. n (sym h)) (λ h. n (sym h)) in
    let row_v = total_cong_on (λ x. only_if (with_label label u u (fresh label groups) v == with_label label u u (fresh label groups) x) (w v x)) (λ x. only_if (label v == label x) (w v x)) (λ x. (x ≢ u) × (x ≢ u)) o.rest not_u
    (λ x p. ap (λ k. only_if (k == with_label label u u (fresh label groups) x) (w v x)) keep_v ∙ ap (λ k. only_if (label v == k) (w v x)) (with_other label u u (fresh label groups) x p.0 p.1)) in
    let same = rest_same w label u u (fresh label groups) o.rest not_u in
    let joined_before = same_label label u v (w u v) e in
    let v_below = each_at (λ x. label x < fresh label groups) v groups above mv in
    let first = with_first label u u (fresh label groups) in
    let parted : with_label label u u (fresh label groups) u ≢ with_label label u u (fresh label groups) v = λ h. omega (arith, h, first, keep_v, v_below) in
    let apart_after = other_label (with_label label u u (fresh label groups)) u v (w u v) parted in
    let enough = holds.enough in
    record {
      better = with_label label u u (fresh label groups);
      legal = alone_legal apart groups u label r legal (fresh label groups) above;
      parted = parted;
      worth = omega (arith, ints, before, after, cond', at_u, at_v, at_rest, most_u, row_u, row_v, same, joined_before, apart_after, enough);
    })
    (λ d. record { better = label; legal = legal; parted = d; worth = omega (arith, ints) })
    (cases_eq (label u) (label v))
