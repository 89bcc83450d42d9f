-- What a sink has taken, and what a write does to it.
use Rattle.std.specs.Prelude.{◌≡◌, ℕ, ◌<◌, ◌≤◌, List, ◌++◌, length, take, Option, Some, None, Result, IfOk, OnOk, OnErr, IsErrOf}
use Rattle.clu_outside.specs.Counts.{Rose}
use Rattle.clu_outside.specs.declared.sink.WriteErr.{WriteErr}
use Rattle.clu_outside.specs.declared.sink.WriteErr.TheVariants.{Failed}

-- what is told after these bytes were taken
abbrev pub with_bytes : Option (List ℕ) → List ℕ → Option (List ℕ)
with_bytes None bytes = None
with_bytes (Some before) bytes = Some (before ++ bytes)

-- a prefix of the bytes was taken, and no more
pub record TakesSome (old new : Option (List ℕ)) (bytes : List ℕ) : Type 0 where
  pub count : ℕ
  pub within : count ≤ length bytes
  pub taken : new ≡ with_bytes old (take count bytes)

-- a write takes as many of the bytes as it says, at least one where there is one, and none with an error
pub record TakesPrefix (old new : Option (List ℕ)) (bytes : List ℕ) (result : Result ℕ WriteErr) : Type 0 where
  pub within : IfOk result (λ count. count ≤ length bytes)
  pub some : 0 < length bytes → IfOk result (λ count. 0 < count)
  pub taken : IfOk result (λ count. new ≡ with_bytes old (take count bytes))
  pub refused : OnErr result (new ≡ old)

-- a prefix of the bytes is taken, and without an error all of them
pub record TakesWhole {T : Type 0} (old new : Option (List ℕ)) (bytes : List ℕ) (result : Result T WriteErr) : Type 0 where
  pub some : TakesSome old new bytes
  pub whole : OnOk result (new ≡ with_bytes old bytes)

-- the count of faults rises with the answer `Failed`, and with no other
pub record WriteCause {T : Type 0} (before now : ℕ) (result : Result T WriteErr) : Type 0 where
  pub failed : IsErrOf result Failed → Rose before now
  pub stays : (IsErrOf result Failed → ⊥) → now ≡ before
