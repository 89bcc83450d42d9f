-- How the tables of a state without decisions are built.
use Rattle.std.specs.Prelude.{◌≡◌, ◌≢◌, ℕ, ◌<◌, ◌^◌, ℤ, pos, ◌+ℤ◌, ◌≤ℤ◌, List, length, slice_index, Bool, ◌==◌, ◌||◌, unsigned_abs}
use Rattle.clu_partition.specs.Sums.{only_if}
use Rattle.clu_partition.specs.Pairs.{Pairs, weight_of, are_pair}
use Rattle.clu_partition.specs.PairSets.{Chosen, has}

-- the place of the least vertex of the group of v
abbrev pub home : List ℕ → List ℕ → ℕ → ℕ
home group place v = slice_index place (slice_index group v)

-- v is one of n vertices, and its group has one of m places
pub record HasHome (n m : ℕ) (group place : List ℕ) (v : ℕ) : Type 0 where
  pub vertex : v < n
  pub grouped : v < length group
  pub placed : slice_index group v < length place
  pub low : home group place v < m

-- the weight of u and v, where their groups have the places x and z, in either order
abbrev pub weight_between : (ℕ → ℕ → ℤ) → (ℕ → ℕ) → ℕ → ℕ → ℕ → ℕ → ℤ
weight_between weight at' x z u v = only_if (are_pair (at' u) (at' v) x z) (weight u v)

-- the weight of u and v, where their groups have one place
abbrev pub weight_within : (ℕ → ℕ → ℤ) → (ℕ → ℕ) → ℕ → ℕ → ℤ
weight_within weight at' u v = only_if (at' u == at' v) (weight u v)

-- the absolute weight of u and v
abbrev pub size_between : Pairs → ℕ → ℕ → ℤ
size_between t u v = pos (unsigned_abs (weight_of t u v))

-- no weight passes the limit of a table, when as much as `more` is still added to it
pub record HasRoom (t : Pairs) (more : ℤ) : Type 0 where
  pub cells : (x z : ℕ) → x < t.n → z < t.n → x ≢ z → (pos (unsigned_abs (weight_of t x z)) +ℤ more) ≤ℤ pos (2 ^ 88)

-- the weight of each two places has grown by what `more` has for them
abbrev pub GrownBy : (ℕ → ℕ → ℤ) → Pairs → Pairs → Type 0
GrownBy more old new = (x z : ℕ) → x < old.n → z < old.n → x ≢ z → weight_of new x z ≡ weight_of old x z +ℤ more x z

-- each member has its place
abbrev pub ArePlaces : List ℕ → List ℕ → Type 0
ArePlaces members place = (i : ℕ) → i < length members → slice_index place (slice_index members i) ≡ i

-- the places of the members that the test names are marked beside those that were
abbrev pub MarkedBy : (ℕ → ℕ → Bool) → List ℕ → Chosen → Chosen → Type 0
MarkedBy test members old new = (x z : ℕ) → x < length members → z < length members
    → has new x z ≡ (test (slice_index members x) (slice_index members z) || has old x z)
