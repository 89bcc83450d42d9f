-- What the calls of a folder that tells have stored.
use Rattle.std.proofs.Common.{◌≡◌, ℕ, List, [], refl, Some, Result, Ok, Err, inl, arith}
use Rattle.std.specs.Prelude.{IsErr, OnErr}
use Rattle.std.proofs.lemmas.Bool.{false≢true}
use Rattle.clu_outside.specs.declared.sink.WriteErr.{WriteErr}
use Rattle.clu_outside.specs.Counts.{next_count}
use Rattle.clu_outside.specs.Folder.{Told, HoldsPartly, CreateTells, AppendTells}

-- P of an error, where there is one
pub on_error : {T E P : Type 0} (result : Result T E) → IsErr result → P → OnErr result P
on_error (Ok _) e p = absurd (false≢true e)
on_error (Err _) e p = p

-- the same, where P may use that there is one
pub on_error_if : {T E P : Type 0} (result : Result T E) → (IsErr result → P) → OnErr result P
on_error_if (Ok _) p = tt
on_error_if (Err _) p = p refl

-- P, where there is an error and it comes with P
pub from_error : {T E P : Type 0} (result : Result T E) → OnErr result P → IsErr result → P
from_error (Ok _) p e = absurd (false≢true e)
from_error (Err _) p e = p

-- where each name holds what it held, one of them holds it in part
pub still_held : (before now : Told) (name first more : List ℕ) → ((other : List ℕ) → now.held other ≡ before.held other) → now.loads ≡ before.loads
    → HoldsPartly before now name first more
still_held before now name first more same loads =
    record { count = 0; within = omega arith; partly = inl (same name); others = λ other differ. same other; loads = loads }

-- a create that is refused and changes no file
pub refused_create : {T : Type 0} (before now : Told) (name : List ℕ) (result : Result T WriteErr) → IsErr result → now.calls ≡ next_count before.calls
    → ((other : List ℕ) → now.held other ≡ before.held other) → now.loads ≡ before.loads → CreateTells (Some before) (Some now) name result
refused_create before now name (Ok _) e calls same loads = absurd (false≢true e)
refused_create before now name (Err _) e calls same loads =
    record { later = calls; created = tt; refused = still_held before now name [] [] same loads }

-- an append that is refused and changes no file
pub refused_append : {T : Type 0} (before now : Told) (name bytes : List ℕ) (result : Result T WriteErr) → IsErr result → now.calls ≡ next_count before.calls
    → ((other : List ℕ) → now.held other ≡ before.held other) → now.loads ≡ before.loads → AppendTells (Some before) (Some now) name bytes result
refused_append before now name bytes (Ok _) e calls same loads = absurd (false≢true e)
refused_append before now name bytes (Err _) e calls same loads =
    record { later = calls; appended = tt; refused = still_held before now name _ bytes same loads }
