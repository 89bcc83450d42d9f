-- Labels that are linked and stable divide the members: each label's vertices are a part.
use Rattle.std.proofs.Common.{◌≡◌, ◌≢◌, inl, inr, ⊎_elim, ℕ, ◌<◌, ◌≤◌, List, [], ◌∷◌, ◌++◌, slice_index, map, true, ◌==◌, All, Contains, refl, sym, ap, ◌∙◌, subst, arith}
use Rattle.std.proofs.lemmas.Bool.{eq-eqb, eqb-true}
use Rattle.std.proofs.lemmas.List.Elements.{All-nil, All-cons, All-contains, All-map, Contains-append_cases, Contains-append_right}
use Rattle.clu_partition.specs.Groups.{leaders, group_members}
use Rattle.clu_partition.proofs.StartLaws.{all_from}
use Rattle.clu_partition.proofs.SumLaws.{Each, Among, Rising}
use Rattle.clu_partition.proofs.ListLaws.{rising_at}
use Rattle.clu_partition.proofs.Regroup.{rising_filter, among_filter, each_passes, leaders_lead}
use Rattle.clu_partition.proofs.PartLaws.{not_before}
use Rattle.clu_state.specs.State.{State, IsState}
use Rattle.clu_state.proofs.Bridge.{each_from, each_here, among_from, contains_from, rising_from_index}
use Rattle.clu_state.proofs.Class.{among_filtered}
use Rattle.clu_reduce.specs.Components.{AreLabels, AreStable}
use Rattle.clu_reduce.specs.Parts.{Rises, IsOutside, IsPart, AllParts, Cover, IsConnected, AreParts}
use Rattle.clu_reduce.proofs.PartsLaw.{parts_law}
use Rattle.clu_reduce.proofs.ComponentLaws.{settled, connected}

-- the parts by the labels
abbrev pub parts_by : (ℕ → ℕ) → List ℕ → List (List ℕ)
parts_by label members = map (group_members label members) (leaders label members)

rises : (xs : List ℕ) → Rising xs → Rises xs
rises xs up i j l k = rising_at xs i j up l k

mapped : {A : Type 0} (f : ℕ → A) (xs : List ℕ) (x : ℕ) → Among x xs → Contains (map f xs) (f x)
mapped f [] x m = absurd m
mapped f (y ∷ ys) x m = ⊎_elim
    (λ e. (0, omega arith, ap f (sym e)))
    (λ n. Contains-append_right (f y ∷ []) (map f ys) (f x) (mapped f ys x n))
    m

-- the least number of a list that rises is its first
first : (xs : List ℕ) → Rising xs → {x : ℕ} → Contains xs x → ((v : ℕ) → Contains xs v → x ≤ v) → slice_index xs 0 ≡ x
first [] up {x} c l = absurd (let k = c.1 in omega (arith, k))
first (y ∷ ys) up {x} c l =
    let low = not_before x y ys up.0 (among_from (y ∷ ys) x c) in
    let high = l y (0, omega arith, refl) in
    omega (arith, low, high)

module _ (s : State) (i : IsState s) (label : ℕ → ℕ) (a : AreLabels s label) (t : AreStable s label) where
  up : Rising s.members
  up = rising_from_index s.members i.members.rising

  in_block : (x v : ℕ) → Contains s.members v → label v ≡ x → Contains (group_members label s.members x) v
  in_block x v c e = contains_from (group_members label s.members x) v (among_filter (λ u. label u == x) v s.members (eq-eqb (label v) x e) (among_from s.members v c))

  block_member : (x v : ℕ) → Contains (group_members label s.members x) v → Contains s.members v
  block_member x v c = contains_from s.members v (among_filtered (λ u. label u == x) v s.members (among_from (group_members label s.members x) v c))

  block_label : (x v : ℕ) → Contains (group_members label s.members x) v → label v ≡ x
  block_label x v c = eqb-true (label v) x (each_here (λ u. (label u == x) ≡ true) v (group_members label s.members x)
      (each_passes (λ u. label u == x) s.members) (among_from (group_members label s.members x) v c))

  -- the label leads its part
  record Leads (x : ℕ) : Type 0 where
    member : Contains s.members x
    own : label x ≡ x

  is_part : (earlier : List (List ℕ)) (x : ℕ) → Leads x
      → ((other : List ℕ) → Contains earlier other → (v : ℕ) → Contains other v → label v ≢ x) → IsPart s earlier (group_members label s.members x)
  is_part earlier x l new = record {
    nonempty = let c = in_block x x l.member l.own in let m = c.1 in omega (arith, m);
    rising = rises (group_members label s.members x) (rising_filter (λ u. label u == x) s.members up);
    members = all_from (Contains s.members) (group_members label s.members x) (block_member x);
    new = all_from (λ other. All (IsOutside other) (group_members label s.members x)) earlier (λ other co.
        all_from (IsOutside other) (group_members label s.members x) (λ v c n. new other co v n (block_label x v c)));
    undivided = λ u v cu cv e. in_block x v cv (sym (a.whole u v (block_member x u cu) cv e) ∙ block_label x u cu);
    settled = λ u v cu cv n. settled s label t u v (block_member x u cu) cv (λ e. n (in_block x v cv (sym e ∙ block_label x u cu)));
  }

  all_parts : (earlier : List (List ℕ)) (xs : List ℕ) → Rising xs → Each Leads xs
      → ((other : List ℕ) → Contains earlier other → (v : ℕ) → Contains other v → (x : ℕ) → Among x xs → label v ≢ x)
      → AllParts s earlier (map (group_members label s.members) xs)
  all_parts earlier [] r l new = tt
  all_parts earlier (x ∷ xs) r l new = (
    is_part earlier x l.0 (λ other co v c. new other co v c x (inl refl)),
    all_parts (earlier ++ group_members label s.members x ∷ []) xs r.1 l.1 (λ other co v c y m e. ⊎_elim
        (λ k. new other k v c y (inr m) e)
        (λ k. let h = each_here (λ z. x < z) y xs r.0 m in
        let f = block_label x v (subst (λ p. Contains p v) (last other k) c) in
        absurd (omega (arith, h, e, f)))
        (Contains-append_cases earlier (group_members label s.members x ∷ []) other co)),
  )
    where
      last : (other : List ℕ) → Contains (group_members label s.members x ∷ []) other → other ≡ group_members label s.members x
      last other k = sym (All-contains (λ p. group_members label s.members x ≡ p) (group_members label s.members x ∷ []) other
          (All-cons (λ p. group_members label s.members x ≡ p) (group_members label s.members x) [] refl (All-nil (λ p. group_members label s.members x ≡ p))) k)

  leads_all : Each Leads (leaders label s.members)
  leads_all = each_from Leads (leaders label s.members) (λ x c.
      let m = among_from (leaders label s.members) x c in
      record {
        member = contains_from s.members x (among_filtered (λ u. label u == u) x s.members m);
        own = each_here (λ u. label u ≡ u) x (leaders label s.members) (leaders_lead label s.members) m;
      })

  leaders_up : Rising (leaders label s.members)
  leaders_up = rising_filter (λ u. label u == u) s.members up

  none_before : (other : List ℕ) → Contains {X = List ℕ} [] other → (v : ℕ) → Contains other v → (x : ℕ) → Among x (leaders label s.members) → label v ≢ x
  none_before other c = absurd (let l = c.1 in omega (arith, l))

  pub parts_each : AllParts s [] (parts_by label s.members)
  parts_each = all_parts [] (leaders label s.members) leaders_up leads_all none_before

  cover : Cover s (parts_by label s.members)
  cover = all_from (λ v. (part : List ℕ) × Contains (parts_by label s.members) part × Contains part v) s.members (λ v c. (
    group_members label s.members (label v),
    mapped (group_members label s.members) (leaders label s.members) (label v)
        (among_filter (λ u. label u == u) (label v) s.members (eq-eqb (label (label v)) (label v) (a.least.idem v c)) (among_from s.members (label v) (a.least.into v c))),
    in_block (label v) v c refl,
  ))

  connected_each : (xs : List ℕ) → All (IsConnected s) (map (group_members label s.members) xs)
  connected_each xs = All-map (IsConnected s) (group_members label s.members) xs (all_from (λ x. IsConnected s (group_members label s.members x)) xs (λ x _ u v cu cv.
      connected s label a.linked u v (block_member x u cu) (block_member x v cv) (block_label x u cu ∙ sym (block_label x v cv))))

  -- the label is the first vertex of its part
  first_is : (x : ℕ) → Leads x → slice_index (group_members label s.members x) 0 ≡ x
  first_is x l = first (group_members label s.members x) (rising_filter (λ u. label u == x) s.members up) (in_block x x l.member l.own) (λ v c.
      let h = a.least.low v (block_member x v c) in let e = block_label x v c in omega (arith, h, e))

  firsts : (xs : List ℕ) → Each Leads xs → map (λ part. slice_index part 0) (map (group_members label s.members) xs) ≡ xs
  firsts [] l = refl
  firsts (x ∷ xs) l = (λ i. first_is x l.0 i ∷ firsts xs l.1 i)

  pub parts_are : AreParts s (parts_by label s.members)
  parts_are = record {
    each = parts_each;
    cover = cover;
    connected = connected_each (leaders label s.members);
    order = subst Rises (sym (firsts (leaders label s.members) leads_all)) (rises (leaders label s.members) leaders_up);
    bound = λ other c. parts_law s i (parts_by label s.members) parts_each cover other c;
  }
