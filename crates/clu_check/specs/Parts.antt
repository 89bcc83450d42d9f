-- Which vertices the parts have, as a table says it: each vertex has the number of its part, or 0. And which steps.
use Rattle.std.specs.Prelude.{◌≡◌, ◌≢◌, ◌⊎◌, ℕ, ◌<◌, ◌≤◌, ◌+◌, ◌-◌, pos, ◌≤ℤ◌, List, [], ◌∷◌, ◌++◌, true, ◌==◌, ◌&&◌, length, slice_index, filter, All, Contains, if◌then◌else◌}
use Rattle.std.proofs.Common.{get_or}
use Rattle.clu_state.specs.State.{State, leader, are_apart, group_weight}
use Rattle.clu_reduce.specs.declared.step.Step.{Step}
use Rattle.clu_cert.specs.Valid.{IsOutside, Rises, is_in}

-- the vertices without a number are in no part, each other one is in the part with its number, from 1, and no number passes that of the parts
pub record AreOwned (earlier : List (List ℕ)) (owner : List ℕ) : Type 0 where
  pub without : (v : ℕ) → v < length owner → slice_index owner v ≡ 0 → All (λ part. IsOutside part v) earlier
  pub given : (v : ℕ) → v < length owner → slice_index owner v ≢ 0 → Contains (get_or earlier (slice_index owner v - 1) []) v
  pub numbers : (v : ℕ) → v < length owner → slice_index owner v ≤ length earlier

-- the vertices of the part have this number, and the others what they had
pub record TakesNumber (part : List ℕ) (number : ℕ) (old new : List ℕ) : Type 0 where
  pub size : length new ≡ length old
  pub cells : (v : ℕ) → v < length old → slice_index new v ≡ (if is_in part v then number else slice_index old v)

-- u and v are of two groups, and these are apart or gain nothing from sharing a block
pub record GainNothing (s : State) (u v : ℕ) : Type 0 where
  pub differ : leader s u ≢ leader s v
  pub idle : (are_apart s u v ≡ true) ⊎ (group_weight s u v ≤ℤ pos 0)

-- u gains nothing from each member without the number
abbrev pub GainNothingWith : State → List ℕ → ℕ → ℕ → Type 0
GainNothingWith s owner number u = All (λ v. (slice_index owner v ≡ number) ⊎ GainNothing s u v) s.members

-- the part isn't empty, rises, and has vertices without a number alone
pub record MayBePart (owner part : List ℕ) : Type 0 where
  pub nonempty : 0 < length part
  pub rising : Rises part
  pub free : All (λ v. (v < length owner) × (slice_index owner v ≡ 0)) part

-- ---- all parts
-- each vertex has the number of the one part that it is in, from 1
pub record HavePartNumbers (parts : List (List ℕ)) (owner : List ℕ) : Type 0 where
  pub positive : (v : ℕ) → v < length owner → 0 < slice_index owner v
  pub within : (v : ℕ) → v < length owner → slice_index owner v ≤ length parts
  pub same : (v k : ℕ) → v < length owner → k < length parts → is_in (get_or parts k []) v ≡ (slice_index owner v == k + 1)

-- the steps on two vertices of the part
abbrev pub steps_within : List ℕ → List Step → List Step
steps_within part steps = filter (λ step. is_in part step.u && is_in part step.v) steps

-- the list at the place of the part that has both vertices has the step more
pub record AddsStep (owner : List ℕ) (step : Step) (old new : List (List Step)) : Type 0 where
  pub size : length new ≡ length old
  pub each : (k : ℕ) → k < length old → get_or new k []
      ≡ get_or old k [] ++ (if (slice_index owner step.u == k + 1) && (slice_index owner step.v == k + 1) then step ∷ [] else [])
