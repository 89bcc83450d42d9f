-- Partitions of two separate lists of vertices, each of the first with each of the second.
use Rattle.std.proofs.Common.{◌≡◌, ℕ, ◌+◌, ◌*◌, ◌<◌, ◌≢◌, ⊎_elim, inl, inr, List, [], ◌∷◌, ◌++◌, length, map, slice_index, All, Contains, cond, Bool, ap, ◌∙◌, arith, suc, length-append}
use Rattle.std.proofs.Math.Nat.{suc-mul}
use Rattle.std.proofs.lemmas.Bool.{false_from_ne_true}
use Rattle.std.proofs.lemmas.List.{length-map}
use Rattle.std.proofs.lemmas.List.Elements.{All-append, All-contains, All-contains_itself, All-weaker, Contains-append_cases, Contains-append_left, Contains-append_right}
use Rattle.clu_partition.specs.Closed.{Closed}
use Rattle.clu_partition.proofs.SumLaws.{Each}
use Rattle.clu_partition.proofs.ListLaws.{each_append, each_map, every}
use Rattle.clu_state.specs.State.{AreMembers}
use Rattle.clu_cert.specs.Valid.{is_in}
use Rattle.clu_reduce.proofs.PartOf.{is_in_listed, listed_is_in}
use Rattle.clu_search.proofs.Pigeon.{Pairwise, each_mapped, pairwise_append, pairwise_mapped}
use Rattle.clu_search.proofs.Canon.{Differ}
use Rattle.clu_search.proofs.Counting.{Permits, Permitted}

-- the first list holds each group of the rules whole, and the rest has other vertices
pub record Separate (c : Closed) (members rest : List ℕ) : Type 0 where
  pub first : AreMembers c members
  pub below : All (λ v. v < length c.group) rest
  pub apart : (v : ℕ) → Contains rest v → Contains members v → ⊥

-- even labels on the first list, odd ones elsewhere
abbrev pub glued : List ℕ → (ℕ → ℕ) → (ℕ → ℕ) → ℕ → ℕ
glued members f g v = cond (is_in members v) (f v + f v) (suc (g v + g v))

glued_first : (members : List ℕ) (f g : ℕ → ℕ) (v : ℕ) → Contains members v → glued members f g v ≡ f v + f v
glued_first members f g v c = ap (λ (b : Bool). cond b (f v + f v) (suc (g v + g v))) (is_in_listed members v c)

glued_rest : (members : List ℕ) (f g : ℕ → ℕ) (v : ℕ) → (Contains members v → ⊥) → glued members f g v ≡ suc (g v + g v)
glued_rest members f g v n = ap (λ (b : Bool). cond b (f v + f v) (suc (g v + g v)))
    (false_from_ne_true (is_in members v) (λ t. n (listed_is_in members v t)))

-- ---- the two together obey the rules
tied_first : (c : Closed) (members rest : List ℕ) (f g : ℕ → ℕ) → Separate c members rest → Permits c members f → (v : ℕ) → Contains members v →
    glued members f g (slice_index c.group v) ≡ glued members f g v
tied_first c members rest f g s p v a =
    let h = glued_first members f g v a in
    let k = glued_first members f g (slice_index c.group v)
    (All-contains (λ v. Contains members (slice_index c.group v)) members v s.first.whole a) in
    let e = All-contains (λ v. f (slice_index c.group v) ≡ f v) members v p.required a in
    omega (arith, h, k, e)

tied_rest : (c : Closed) (members rest : List ℕ) (f g : ℕ → ℕ) → Separate c members rest → Permits c rest g → (v : ℕ) → Contains rest v →
    glued members f g (slice_index c.group v) ≡ glued members f g v
tied_rest c members rest f g s q v a =
    let h = glued_rest members f g v (s.apart v a) in
    let l = All-contains (λ v. v < length c.group) rest v s.below a in
    let k = glued_rest members f g (slice_index c.group v) (λ n. s.apart v a (s.first.closed v l n)) in
    let e = All-contains (λ v. g (slice_index c.group v) ≡ g v) rest v q.required a in
    omega (arith, h, k, e)

split_pair : (members rest : List ℕ) (f g : ℕ → ℕ) (u v : ℕ) → ((x : ℕ) → Contains rest x → Contains members x → ⊥) →
    (Contains members u → Contains members v → f u ≢ f v) → (Contains rest u → Contains rest v → g u ≢ g v) →
    Contains (members ++ rest) u → Contains (members ++ rest) v → glued members f g u ≢ glued members f g v
split_pair members rest f g u v apart p q cu cv e = ⊎_elim
    (λ a. ⊎_elim
    (λ b. let h = glued_first members f g u a in let k = glued_first members f g v b in p a b (omega (arith, h, k, e)))
    (λ b. let h = glued_first members f g u a in let k = glued_rest members f g v (apart v b) in absurd (omega (arith, h, k, e)))
    (Contains-append_cases members rest v cv))
    (λ a. ⊎_elim
    (λ b. let h = glued_rest members f g u (apart u a) in let k = glued_first members f g v b in absurd (omega (arith, h, k, e)))
    (λ b. let h = glued_rest members f g u (apart u a) in let k = glued_rest members f g v (apart v b) in q a b (omega (arith, h, k, e)))
    (Contains-append_cases members rest v cv))
    (Contains-append_cases members rest u cu)

glued_permits : (c : Closed) (members rest : List ℕ) (f g : ℕ → ℕ) → Separate c members rest → Permits c members f → Permits c rest g →
    Permits c (members ++ rest) (glued members f g)
glued_permits c members rest f g s p q = record {
  required = All-append (λ v. glued members f g (slice_index c.group v) ≡ glued members f g v) members rest
      (All-weaker (Contains members) (λ v. glued members f g (slice_index c.group v) ≡ glued members f g v)
      (tied_first c members rest f g s p) members (All-contains_itself members))
      (All-weaker (Contains rest) (λ v. glued members f g (slice_index c.group v) ≡ glued members f g v)
      (tied_rest c members rest f g s q) rest (All-contains_itself rest));
  forbidden = λ k d l. split_pair members rest f g _ _ s.apart (p.forbidden k d l) (q.forbidden k d l);
}

-- ---- what divides one list differently divides the two together differently
differ_first : (members rest : List ℕ) (f h g k : ℕ → ℕ) → Differ members f h → Differ (members ++ rest) (glued members f g) (glued members h k)
differ_first members rest f h g k d = record {
  u = d.u;
  v = d.v;
  first = Contains-append_left members rest d.u d.first;
  second = Contains-append_left members rest d.v d.second;
  tells = ⊎_elim (λ t. inl (same f g t.0, other h k t.1)) (λ t. inr (other f g t.0, same h k t.1)) d.tells;
}
  where
    same : (a b : ℕ → ℕ) → a d.u ≡ a d.v → glued members a b d.u ≡ glued members a b d.v
    same a b e = let i = glued_first members a b d.u d.first in let j = glued_first members a b d.v d.second in omega (arith, i, j, e)

    other : (a b : ℕ → ℕ) → a d.u ≢ a d.v → glued members a b d.u ≢ glued members a b d.v
    other a b n e = let i = glued_first members a b d.u d.first in let j = glued_first members a b d.v d.second in n (omega (arith, i, j, e))

differ_rest : (members rest : List ℕ) (f h g k : ℕ → ℕ) → ((v : ℕ) → Contains rest v → Contains members v → ⊥) → Differ rest g k →
    Differ (members ++ rest) (glued members f g) (glued members h k)
differ_rest members rest f h g k apart d = record {
  u = d.u;
  v = d.v;
  first = Contains-append_right members rest d.u d.first;
  second = Contains-append_right members rest d.v d.second;
  tells = ⊎_elim (λ t. inl (same f g t.0, other h k t.1)) (λ t. inr (other f g t.0, same h k t.1)) d.tells;
}
  where
    same : (a b : ℕ → ℕ) → b d.u ≡ b d.v → glued members a b d.u ≡ glued members a b d.v
    same a b e =
        let i = glued_rest members a b d.u (apart d.u d.first) in
        let j = glued_rest members a b d.v (apart d.v d.second) in
        omega (arith, i, j, e)

    other : (a b : ℕ → ℕ) → b d.u ≢ b d.v → glued members a b d.u ≢ glued members a b d.v
    other a b n e =
        let i = glued_rest members a b d.u (apart d.u d.first) in
        let j = glued_rest members a b d.v (apart d.v d.second) in
        n (omega (arith, i, j, e))

-- ---- each of the first with each of the rest
products : List ℕ → List (ℕ → ℕ) → List (ℕ → ℕ) → List (ℕ → ℕ)
products members [] gs = []
products members (f ∷ fs) gs = map (λ g. glued members f g) gs ++ products members fs gs

products_length : (members : List ℕ) (fs gs : List (ℕ → ℕ)) → length (products members fs gs) ≡ length fs * length gs
unfolding products
products_length members [] gs = grind arith
products_length members (f ∷ fs) gs =
    let h = length-append (map (λ g. glued members f g) gs) (products members fs gs) in
    let k = length-map gs (λ g. glued members f g) in
    let n = products_length members fs gs in
    let t = suc-mul (length fs) (length gs) in
    omega (arith, h, k, n, t)

products_each : (P Q R : (ℕ → ℕ) → Type 0) (members : List ℕ) (fs gs : List (ℕ → ℕ)) →
    ((f g : ℕ → ℕ) → P f → Q g → R (glued members f g)) → Each P fs → Each Q gs → Each R (products members fs gs)
unfolding products
products_each P Q R members [] gs h a b = tt
products_each P Q R members (f ∷ fs) gs h a b = each_append R (map (λ g. glued members f g) gs) (products members fs gs)
    (each_mapped R (λ g. glued members f g) gs (each_map Q (λ g. R (glued members f g)) gs (λ g q. h f g a.0 q) b))
    (products_each P Q R members fs gs h a.1 b)

products_differ : (members rest : List ℕ) (fs gs : List (ℕ → ℕ)) → ((v : ℕ) → Contains rest v → Contains members v → ⊥) →
    Pairwise (Differ members) fs → Pairwise (Differ rest) gs → Pairwise (Differ (members ++ rest)) (products members fs gs)
unfolding products
products_differ members rest [] gs apart p q = tt
products_differ members rest (f ∷ fs) gs apart p q =
    pairwise_append (Differ (members ++ rest)) (map (λ g. glued members f g) gs) (products members fs gs)
    (pairwise_mapped (Differ rest) (Differ (members ++ rest)) (λ g. glued members f g) gs (λ g k d. differ_rest members rest f f g k apart d) q)
    (products_differ members rest fs gs apart p.1 q)
    (each_mapped (λ a. Each (Differ (members ++ rest) a) (products members fs gs)) (λ g. glued members f g) gs
    (each_map (λ _. Unit {0}) (λ g. Each (Differ (members ++ rest) (glued members f g)) (products members fs gs)) gs
    (λ g _. products_each (Differ members f) (λ _. Unit {0}) (Differ (members ++ rest) (glued members f g)) members fs gs
    (λ h k d _. differ_first members rest f h g k d) p.0 (every gs))
    (every gs)))

pub permitted_product : (c : Closed) (members rest : List ℕ) (a b : ℕ) → Separate c members rest → Permitted c members a → Permitted c rest b →
    Permitted c (members ++ rest) (a * b)
permitted_product c members rest a b s p q = record {
  labellings = products members p.labellings q.labellings;
  many_are = products_length members p.labellings q.labellings ∙ ap (λ n. n * length q.labellings) p.many_are ∙ ap (λ n. a * n) q.many_are;
  within = products_each (Permits c members) (Permits c rest) (Permits c (members ++ rest)) members p.labellings q.labellings
      (λ f g x y. glued_permits c members rest f g s x y) p.within q.within;
  differ = products_differ members rest p.labellings q.labellings s.apart p.differ q.differ;
}
