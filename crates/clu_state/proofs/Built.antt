-- The tables of a state without decisions agree with it.
use Rattle.std.proofs.Common.{◌≡◌, ◌⊎◌, inl, inr, ⊎_elim, ℕ, ◌<◌, ◌≤◌, ◌^◌, ℤ, pos, ◌≤ℤ◌, List, [], ◌∷◌, length, slice_index, true, false, ◌||◌, refl, sym, ap, ◌∙◌, subst, arith, All, Contains, append-nil}
use Rattle.std.proofs.lemmas.Int.{ints}
use Rattle.std.proofs.lemmas.Grind.{get_or_default_zero}
use Rattle.std.proofs.lemmas.List.Elements.{All-contains, All-head, All-tail}
use Rattle.clu_partition.specs.Closed.{Closed, IsClosed, joins}
use Rattle.clu_partition.specs.Grids.{IsGrid}
use Rattle.clu_partition.specs.Groups.{between}
use Rattle.clu_partition.specs.Pairs.{Pairs, weight_of, total_of, are_pair}
use Rattle.clu_partition.specs.Sums.{pair_total}
use Rattle.clu_partition.specs.Values.{value_on}
use Rattle.clu_partition.proofs.TableLaws.{weight_sym}
use Rattle.clu_state.specs.declared.decision.Decision.{Decision}
use Rattle.clu_state.specs.State.{IsState, AreMembers, undecided}
use Rattle.clu_state.specs.Rebuilt.{TablesAgree}
use Rattle.clu_partition.specs.PairSets.{Chosen, has, with_pair}
use Rattle.clu_partition.proofs.PairMerges.{put_here, put_other, has_turn}
use Rattle.clu_state.proofs.Bridge.{each_from, rising_from_index}
use Rattle.clu_state.proofs.Bounds.{members_small}
use Rattle.clu_state.specs.Building.{ArePlaces, GrownBy, MarkedBy, home, weight_between, weight_within, size_between, HasHome, HasRoom}
use Rattle.clu_state.proofs.Joined.{place_is, places_differ}
use Rattle.clu_state.proofs.Gathered.{share_is, between_places, kept_is}
use Rattle.clu_partition.proofs.PairLaws.{is_pair, not_pair, pair_cases}
use Rattle.clu_partition.proofs.ListLaws.{few_rising}
use Rattle.clu_partition.proofs.BoolLaws.{or_false}

-- one more pair of members
pub marked_pair : (members place : List ℕ) (old new : Chosen) (u v p q x z : ℕ) → IsGrid old → old.n ≡ length members → ArePlaces members place →
    Contains members u → Contains members v → p ≡ slice_index place u → q ≡ slice_index place v → new ≡ with_pair old p q → x < length members → z < length members →
    has new x z ≡ (are_pair u v (slice_index members x) (slice_index members z) || has old x z)
marked_pair members place old new u v p q x z a n at' cu cv ep eq' en lx lz = ap (λ (m : Chosen). has m x z) en ∙ ⊎_elim
    (λ h. ⊎_elim
    (λ s. here s.0 s.1 ∙ ap (λ k. k || has old x z) (sym (is_pair u v (slice_index members x) (slice_index members z) (inl (sym mp ∙ ap (slice_index members) s.0, sym mq ∙ ap (slice_index members) s.1)))))
    (λ s. has_turn (with_pair old p q) x z ∙ turned s.0 s.1 ∙ ap (λ k. k || has old x z) (sym (is_pair u v (slice_index members x) (slice_index members z) (inr (sym mp ∙ ap (slice_index members) s.0, sym mq ∙ ap (slice_index members) s.1)))))
    h.1)
    (λ h. put_other old p q x z lp lq (omega (arith, n, lx)) (omega (arith, n, lz)) h.1 ∙
    ap (λ k. k || has old x z) (sym (not_pair u v (slice_index members x) (slice_index members z)
    (λ k. no h.0 (inl (back u p x ep k.0 lx, back v q z eq' k.1 lz)))
    (λ k. no h.0 (inr (back u p z ep k.0 lz, back v q x eq' k.1 lx))))))
    (pair_cases p q x z)
  where
    mp : slice_index members p ≡ u
    mp = ap (slice_index members) ep ∙ (place_is members place u at' cu).1

    mq : slice_index members q ≡ v
    mq = ap (slice_index members) eq' ∙ (place_is members place v at' cv).1

    lp : p < old.n
    lp = let l = (place_is members place u at' cu).0 in omega (arith, n, l, ep)

    lq : q < old.n
    lq = let l = (place_is members place v at' cv).0 in omega (arith, n, l, eq')

    back : (w r y : ℕ) → r ≡ slice_index place w → w ≡ slice_index members y → y < length members → r ≡ y
    back w r y e f l = e ∙ ap (slice_index place) f ∙ at' y l

    no : are_pair p q x z ≡ false → ((p ≡ x) × (q ≡ z)) ⊎ ((p ≡ z) × (q ≡ x)) → ⊥
    no e h = let t = is_pair p q x z h in cc

    here : p ≡ x → q ≡ z → has (with_pair old p q) x z ≡ true
    here s t = subst (λ x. has (with_pair old p q) x z ≡ true) s (subst (λ z. has (with_pair old p q) p z ≡ true) t (put_here old p q a lp lq))

    turned : p ≡ z → q ≡ x → has (with_pair old p q) z x ≡ true
    turned s t = subst (λ z. has (with_pair old p q) z x ≡ true) s (subst (λ x. has (with_pair old p q) p x ≡ true) t (put_here old p q a lp lq))

-- ---- what the members give
all_from : (P : ℕ → Type 0) (xs : List ℕ) → ((x : ℕ) → Contains xs x → P x) → All P xs
all_from P xs f = λ k d l. subst P (sym (get_or_default_zero xs k d l)) (f (slice_index xs k) (k, l, get_or_default_zero xs k (slice_index xs k) l))

member_low : (start : Closed) (members : List ℕ) (v : ℕ) → AreMembers start members → Contains members v → v < length start.group
member_low start members v m c = All-contains (λ x. x < length start.group) members v m.below c

into : (start : Closed) (members : List ℕ) (v : ℕ) → AreMembers start members → Contains members v → Contains members (slice_index start.group v)
into start members v m c = All-contains (λ x. Contains members (slice_index start.group x)) members v m.whole c

pub few_members : (start : Closed) (members : List ℕ) → AreMembers start members → length members ≤ length start.group
few_members start members m = few_rising members (length start.group) (rising_from_index members m.rising) (each_from (λ v. v < length start.group) members (λ v c. member_low start members v m c))

pub homes : (start : Closed) (members group place : List ℕ) (n m : ℕ) → AreMembers start members → n ≡ length start.group → group ≡ start.group → length place ≡ length start.group →
    ArePlaces members place → m ≡ length members → All (HasHome n m group place) members
homes start members group place n m am en eg lp at' em = subst (λ (g : List ℕ). All (HasHome n m g place) members) (sym eg) (all_from (HasHome n m start.group place) members (λ v c. record {
  vertex = let l = member_low start members v am c in omega (arith, l, en);
  grouped = member_low start members v am c;
  placed = let l = member_low start members (slice_index start.group v) am (into start members v am c) in omega (arith, l, lp);
  low = let l = (place_is members place (slice_index start.group v) at' (into start members v am c)).0 in omega (arith, l, em);
}))

pub sizes_small : (pairs : Pairs) (start : Closed) (members : List ℕ) → AreMembers start members → pairs.n ≡ length start.group → total_of pairs ≤ℤ pos (2 ^ 88) → pair_total (size_between pairs) members ≤ℤ pos (2 ^ 88)
sizes_small pairs start members m en t =
    let h = members_small (weight_of pairs) members pairs.n (rising_from_index members m.rising) (each_from (λ v. v < pairs.n) members (λ v c. let l = member_low start members v m c in omega (arith, l, en))) in
    omega (arith, ints, h, t)

pub empty_room : (t : Pairs) (more : ℤ) → ((u v : ℕ) → weight_of t u v ≡ pos 0) → more ≤ℤ pos (2 ^ 88) → HasRoom t more
empty_room t more z l = record { cells = λ x z' lx lz d. let e = z x z' in omega (arith, ints, e, l) }

-- ---- the state
pub undecided_state : (pairs : Pairs) (start : Closed) (members : List ℕ) → pairs.n ≡ length start.group → pairs.n ≤ 1000 → total_of pairs ≤ℤ pos (2 ^ 88) → IsClosed start → AreMembers start members → IsState (undecided pairs start members)
undecided_state pairs start members en s t c m = record {
  one_size = en;
  small = s;
  total = t;
  closed = c;
  members = m;
  made = tt;
}

joins_least : (group : ℕ → ℕ) (ps : List (ℕ × ℕ)) (a b : ℕ) → All (λ p. (group p.0 ≡ p.0) × (group p.1 ≡ p.1)) ps → group a ≡ a → group b ≡ b → joins (λ v. v) ps a b ≡ joins group ps a b
joins_least group [] a b l ea eb = refl
joins_least group (p ∷ ps) a b l ea eb =
    let q = All-head (λ (p : ℕ × ℕ). (group p.0 ≡ p.0) × (group p.1 ≡ p.1)) p ps l in
    ap (λ k. are_pair p.0 p.1 a b || k) (joins_least group ps a b (All-tail (λ (p : ℕ × ℕ). (group p.0 ≡ p.0) × (group p.1 ≡ p.1)) p ps l) ea eb) ∙
    ap (λ k. are_pair k p.1 a b || joins group ps a b) (sym q.0) ∙
    ap (λ k. are_pair (group p.0) k a b || joins group ps a b) (sym q.1) ∙
    ap (λ k. are_pair (group p.0) (group p.1) k b || joins group ps a b) (sym ea) ∙
    ap (λ k. are_pair (group p.0) (group p.1) (group a) k || joins group ps a b) (sym eb)

pub built : (pairs : Pairs) (start : Closed) (members group place : List ℕ) (blank weights : Pairs) (none apart : Chosen) (fixed : ℤ) → IsState (undecided pairs start members) →
    group ≡ start.group → length place ≡ length start.group → ArePlaces members place →
    blank.n ≡ length members → ((u v : ℕ) → weight_of blank u v ≡ pos 0) → weights.n ≡ blank.n →
    GrownBy (λ x z. pair_total (weight_between (weight_of pairs) (home group place) x z) members) blank weights →
    fixed ≡ pair_total (weight_within (weight_of pairs) (home group place)) members →
    none.n ≡ length members → ((u v : ℕ) → has none u v ≡ false) → apart.n ≡ none.n →
    MarkedBy (joins (λ v. v) start.forbidden) members none apart →
    TablesAgree (undecided pairs start members) group place weights apart fixed
built pairs start members group place blank weights none apart fixed s eg lp at' zn zs wn sums inside nn ns an marks = record {
  state = s;
  few = let f = few_members start members s.members in let a = s.one_size in let b = s.small in omega (arith, f, a, b);
  group_size = ap length eg;
  leaders = λ v l. ap (λ (g : List ℕ). slice_index g v) eg;
  place_size = lp;
  places = at';
  table_size = wn ∙ zn;
  contracted = λ a b la lb d.
      let pa = place_is members place a at' la.member in
      let pb = place_is members place b at' lb.member in
      let h = sums (slice_index place a) (slice_index place b) (omega (arith, pa.0, zn)) (omega (arith, pb.0, zn)) (places_differ members place a b at' la.member lb.member d) in
      let z = zs (slice_index place a) (slice_index place b) in
      let g = share_is (weight_of pairs) (weight_sym pairs) (home group place) (slice_index place a) (slice_index place b) members (places_differ members place a b at' la.member lb.member d) in
      let k = between_places (weight_of pairs) group place members a b at' inner la.member lb.member in
      let e = ap (λ (g : List ℕ). between (weight_of pairs) (slice_index g) members a b) eg in
      omega (arith, ints, h, z, g, k, e);
  marks_size = an ∙ nn;
  separated = λ a b la lb d.
      let pa = place_is members place a at' la.member in
      let pb = place_is members place b at' lb.member in
      marks (slice_index place a) (slice_index place b) pa.0 pb.0 ∙
      ap (λ k. joins (λ v. v) start.forbidden k (slice_index members (slice_index place b)) || has none (slice_index place a) (slice_index place b)) pa.1 ∙
      ap (λ k. joins (λ v. v) start.forbidden a k || has none (slice_index place a) (slice_index place b)) pb.1 ∙
      ap (λ k. joins (λ v. v) start.forbidden a b || k) (ns (slice_index place a) (slice_index place b)) ∙
      or_false (joins (λ v. v) start.forbidden a b) ∙
      joins_least (slice_index start.group) start.forbidden a b s.closed.least_pairs la.least lb.least ∙
      ap (λ ps. joins (slice_index start.group) ps a b) (sym (append-nil start.forbidden));
  inside = inside ∙ kept_is (weight_of pairs) group place members at' inner ∙ ap (λ (g : List ℕ). value_on (weight_of pairs) (slice_index g) members) eg;
}
  where
    inner : (v : ℕ) → Contains members v → Contains members (slice_index group v)
    inner v c = subst (λ (g : List ℕ). Contains members (slice_index g v)) (sym eg) (into start members v s.members c)

pub built_as : (pairs : Pairs) (start : Closed) (members members' : List ℕ) (decisions : List Decision) (group group' place place' : List ℕ) (weights : Pairs) (apart : Chosen) (fixed fixed' : ℤ) → TablesAgree (undecided pairs start members) group place weights apart fixed →
    members' ≡ members → decisions ≡ [] → group ≡ group' → place ≡ place' → fixed' ≡ fixed → TablesAgree (record { pairs = pairs; start = start; members = members'; decisions = decisions }) group' place' weights apart fixed'
built_as pairs start members members' decisions group group' place place' weights apart fixed fixed' a em ed eg ep ef =
    subst (λ ms. TablesAgree (record { pairs = pairs; start = start; members = ms; decisions = decisions }) group' place' weights apart fixed') (sym em)
    (subst (λ ds. TablesAgree (record { pairs = pairs; start = start; members = members; decisions = ds }) group' place' weights apart fixed') (sym ed)
    (subst (λ (g : List ℕ). TablesAgree (undecided pairs start members) g place' weights apart fixed') eg
    (subst (λ (p : List ℕ). TablesAgree (undecided pairs start members) group p weights apart fixed') ep
    (subst (TablesAgree (undecided pairs start members) group place weights apart) (sym ef) a))))
