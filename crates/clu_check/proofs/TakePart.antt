-- When a list is a part, by the tests of the checker, and whose the vertices are then.
use Rattle.std.proofs.Common.{◌≡◌, ◌≢◌, ℕ, ◌+◌, ◌-◌, ◌<◌, ◌≤◌, ◌⊎◌, inl, inr, ⊎_elim, List, [], ◌∷◌, ◌++◌, true, false, length, slice_index, get_or, Contains, All, sym, ◌∙◌, ap, arith, if◌then◌else◌, length-append, subst}
use Rattle.std.proofs.Math.Seq.{get_or-append_seam}
use Rattle.std.proofs.lemmas.List.{get_or_append_left}
use Rattle.std.proofs.lemmas.Bool.{cases_eq}
use Rattle.std.proofs.lemmas.List.Elements.{All-contains, All-from_get_or, All-get_or, All-push, Contains-get_or}
use Rattle.clu_partition.specs.Partition.{below}
use Rattle.clu_state.specs.State.{State}
use Rattle.clu_cert.specs.Valid.{is_in, IsPart, IsOutside}
use Rattle.clu_check.specs.Parts.{AreOwned, TakesNumber, MayBePart, GainNothing, GainNothingWith}
use Rattle.clu_check.proofs.Membership.{IsInOrNot, inside, outside, in_or_not, below_from, below_member}

-- a vertex with a number is in a part
pub part_of : (earlier : List (List ℕ)) (owner : List ℕ) → AreOwned earlier owner → (v : ℕ) → v < length owner → slice_index owner v ≢ 0 →
    (part : List ℕ) × Contains earlier part × Contains part v
part_of earlier owner owned v l d =
    let k = owned.numbers v l in (
      get_or earlier (slice_index owner v - 1) [],
      Contains-get_or earlier (slice_index owner v - 1) [] (omega (arith, d, k)),
      owned.given v l d,
    )

pub members_of : (s : State) (part owner : List ℕ) → s.members ≡ below (length owner) → MayBePart owner part → All (Contains s.members) part
members_of s part owner members may = All-from_get_or (Contains s.members) part 0 (λ i l.
    let h = All-get_or (λ v. (v < length owner) × (slice_index owner v ≡ 0)) part i 0 l may.free in
    below_member s.members (length owner) (get_or part i 0) members h.0)

module _ (s : State) (earlier : List (List ℕ)) (part owner : List ℕ) (number : ℕ) (members : s.members ≡ below (length owner))
    (owned : AreOwned earlier owner) where
  owner_none : IsPart s earlier part → (v : ℕ) → Contains part v → v < length owner → slice_index owner v ≡ 0
  owner_none is v c l = ⊎_elim (λ e. e) (λ d.
      let p = part_of earlier owner owned v l d in
      absurd (All-contains (IsOutside p.0) part v (All-contains (λ other. All (IsOutside other) part) earlier p.0 is.new p.1) c p.2))
      (cases_eq (slice_index owner v) 0)

  pub may_of_part : IsPart s earlier part → MayBePart owner part
  may_of_part is = record {
    nonempty = is.nonempty;
    rising = is.rising;
    free = All-from_get_or (λ v. (v < length owner) × (slice_index owner v ≡ 0)) part 0 (λ i l.
        let c = Contains-get_or part i 0 l in
        let m = All-contains (Contains s.members) part (get_or part i 0) is.members c in
        let b = below_from s.members (length owner) (get_or part i 0) members m in
        (b, owner_none is (get_or part i 0) c b));
  }

  module _ (new : List ℕ) (may : MayBePart owner part) (given : TakesNumber part number owner new) (count : number ≡ length earlier + 1) where
    free_at : (v : ℕ) → Contains part v → (v < length owner) × (slice_index owner v ≡ 0)
    free_at v c = All-contains (λ v. (v < length owner) × (slice_index owner v ≡ 0)) part v may.free c

    number_in : (v : ℕ) → v < length owner → is_in part v ≡ true → slice_index new v ≡ number
    number_in v l is = given.cells v l ∙ ap (λ b. if b then number else slice_index owner v) is

    number_out : (v : ℕ) → v < length owner → is_in part v ≡ false → slice_index new v ≡ slice_index owner v
    number_out v l is = given.cells v l ∙ ap (λ b. if b then number else slice_index owner v) is

    other_number : (v : ℕ) → v < length owner → is_in part v ≡ false → slice_index new v ≡ number → ⊥
    other_number v l is e = let h = number_out v l is in let k = owned.numbers v l in omega (arith, h, e, k, count)

    settled_or_in : (u v : ℕ) → All (GainNothingWith s new number) part → Contains part u → Contains s.members v → Contains part v ⊎ GainNothing s u v
    settled_or_in u v all cu cv = by (in_or_not part v)
      where
        here : (slice_index new v ≡ number) ⊎ GainNothing s u v
        here = All-contains (λ w. (slice_index new w ≡ number) ⊎ GainNothing s u w) s.members v
            (All-contains (GainNothingWith s new number) part u all cu) cv

        by : IsInOrNot part v → Contains part v ⊎ GainNothing s u v
        by (inside is c) = inl c
        by (outside is n) = ⊎_elim (λ e. absurd (other_number v (below_from s.members (length owner) v members cv) is e)) (λ h. inr h) here

    pub is_part : All (GainNothingWith s new number) part → IsPart s earlier part
    is_part all = record {
      nonempty = may.nonempty;
      rising = may.rising;
      members = members_of s part owner members may;
      new = All-from_get_or (λ other. All (IsOutside other) part) earlier [] (λ i l. All-from_get_or (IsOutside (get_or earlier i [])) part 0 (λ j m.
          let f = free_at (get_or part j 0) (Contains-get_or part j 0 m) in
          All-get_or (λ other. IsOutside other (get_or part j 0)) earlier i [] l (owned.without (get_or part j 0) f.0 f.1)));
      undivided = λ u v cu cv e. ⊎_elim (λ c. c) (λ h. absurd (h.differ e)) (settled_or_in u v all cu cv);
      settled = λ u v cu cv lacks. ⊎_elim (λ c. absurd (lacks c)) (λ h. h.idle) (settled_or_in u v all cu cv);
    }

    pub settled_of : IsPart s earlier part → All (GainNothingWith s new number) part
    settled_of is = All-from_get_or (GainNothingWith s new number) part 0 (λ i l.
        All-from_get_or (λ w. (slice_index new w ≡ number) ⊎ GainNothing s (get_or part i 0) w) s.members 0 (λ j m.
        by (get_or part i 0) (get_or s.members j 0) (Contains-get_or part i 0 l) (Contains-get_or s.members j 0 m)
        (in_or_not part (get_or s.members j 0))))
      where
        by : (u v : ℕ) → Contains part u → Contains s.members v → IsInOrNot part v → (slice_index new v ≡ number) ⊎ GainNothing s u v
        by u v cu cv (inside t c) = inl (number_in v (below_from s.members (length owner) v members cv) t)
        by u v cu cv (outside t n) = inr (record { differ = λ e. n (is.undivided u v cu cv e); idle = is.settled u v cu cv n })

    -- ---- whose the vertices are then
    later_without : (v : ℕ) → v < length owner → slice_index new v ≡ 0 → IsInOrNot part v → All (λ p. IsOutside p v) (earlier ++ part ∷ [])
    later_without v l z (inside t c) = absurd (let e = number_in v l t in omega (arith, e, z, count))
    later_without v l z (outside t n) = All-push (λ p. IsOutside p v) earlier part (owned.without v l (sym (number_out v l t) ∙ z)) n

    later_given : (v : ℕ) → v < length owner → slice_index new v ≢ 0 → IsInOrNot part v →
        Contains (get_or (earlier ++ part ∷ []) (slice_index new v - 1) []) v
    later_given v l d (inside t c) =
        let e = number_in v l t in
        let place : slice_index new v - 1 ≡ length earlier = omega (arith, e, count) in
        subst (λ (j : ℕ). Contains (get_or (earlier ++ part ∷ []) j []) v) (sym place)
        (subst (λ (p : List ℕ). Contains p v) (sym (get_or-append_seam earlier part [] [])) c)
    later_given v l d (outside t n) =
        let e = number_out v l t in
        let k = owned.numbers v l in
        let place : slice_index new v - 1 ≡ slice_index owner v - 1 = omega (arith, e) in
        subst (λ (j : ℕ). Contains (get_or (earlier ++ part ∷ []) j []) v) (sym place)
        (subst (λ (p : List ℕ). Contains p v) (sym (get_or_append_left earlier (part ∷ []) [] (slice_index owner v - 1) (omega (arith, d, e, k))))
        (owned.given v l (λ z. d (e ∙ z))))

    later_number : (v : ℕ) → v < length owner → IsInOrNot part v → slice_index new v ≤ length (earlier ++ part ∷ [])
    later_number v l (inside t c) = let e = number_in v l t in omega (arith, e, count, length-append earlier (part ∷ []))
    later_number v l (outside t n) = let e = number_out v l t in let k = owned.numbers v l in omega (arith, e, k, length-append earlier (part ∷ []))

    within : (v : ℕ) → v < length new → v < length owner
    within v l = let h = given.size in omega (arith, h, l)

    pub owned_then : AreOwned (earlier ++ part ∷ []) new
    owned_then = record {
      without = λ v l z. later_without v (within v l) z (in_or_not part v);
      given = λ v l d. later_given v (within v l) d (in_or_not part v);
      numbers = λ v l. later_number v (within v l) (in_or_not part v);
    }
