-- What a folder tells of its content, and what its calls tell of the folder.
use Rattle.std.specs.Prelude.{◌≡◌, ◌≢◌, ◌⊎◌, ⊤, ℕ, ◌<◌, ◌≤◌, ◌+◌, ◌/◌, List, [], ◌∷◌, ◌++◌, length, take, Option, Some, None, unwrap_or, Result, IfOk, OnOk, OnErr, IsErrOf, IfSome, IsSomeAnd}
use Rattle.std.specs.Global.{Vec}
use Rattle.clu_outside.specs.Counts.{Rose, next_count, last_count, later_count}
use Rattle.clu_outside.specs.declared.sink.WriteErr.{WriteErr}
use Rattle.clu_outside.specs.declared.folder.LoadErr.{LoadErr}
use Rattle.clu_outside.specs.declared.folder.LoadErr.TheVariants.{Failed, Missing, TooLong, Memory}

-- the bytes under each name, how many calls the folder has had, and the names of its loads, the first one first
pub record Told : Type 0 where
  pub held : List ℕ → Option (List ℕ)
  pub calls : ℕ
  pub loads : List (List ℕ)

-- what is told after a load of this name
abbrev pub after_load : List ℕ → Option Told → Option Told
after_load name None = None
after_load name (Some told) = Some (record { held = told.held; calls = next_count told.calls; loads = told.loads ++ name ∷ [] })

-- where the folder tells, it has these bytes under the name
abbrev pub Holds : Option Told → List ℕ → List ℕ → Type 0
Holds told name bytes = IfSome told (λ folder. folder.held name ≡ Some bytes)

-- where the folder tells, it has no such file
abbrev pub Lacks : Option Told → List ℕ → Type 0
Lacks told name = IfSome told (λ folder. folder.held name ≡ None)

-- where the folder tells, it has more bytes than the limit under the name
abbrev pub HoldsMore : Option Told → List ℕ → ℕ → Type 0
HoldsMore told name limit = IfSome told (λ folder. IsSomeAnd (folder.held name) (λ bytes. limit < length bytes))

-- A load is one call, is noted under its name and changes no file; want of memory may come before it is noted. It gives the
-- bytes under the name where they are within the limit, and else says that there is no such file or that it is too long. The
-- last value of a `u64` is no limit.
pub record LoadTells (old new : Option Told) (name : List ℕ) (limit : ℕ) (result : Result (Vec ℕ) LoadErr) : Type 0 where
  pub later : (IsErrOf result Memory → ⊥) → new ≡ after_load name old
  pub memory : IsErrOf result Memory → (new ≡ old) ⊎ (new ≡ after_load name old)
  pub found : IfOk result (λ bytes. Holds old name bytes.items)
  pub within : limit < last_count → IfOk result (λ bytes. length bytes.items ≤ limit)
  pub missing : IsErrOf result Missing → Lacks old name
  pub limited : IsErrOf result TooLong → limit < last_count
  pub too_long : IsErrOf result TooLong → HoldsMore old name limit

-- the count of faults rises with the answer `Failed`, and with no other
pub record LoadCause (before now : ℕ) (result : Result (Vec ℕ) LoadErr) : Type 0 where
  pub failed : IsErrOf result Failed → Rose before now
  pub stays : (IsErrOf result Failed → ⊥) → now ≡ before

-- the two tell, and the fact holds of what they tell, or neither tells
abbrev pub BothTell : Option Told → Option Told → (Told → Told → Type 0) → Type 0
BothTell None None Fact = ⊤
BothTell None (Some now) Fact = ⊥
BothTell (Some before) None Fact = ⊥
BothTell (Some before) (Some now) Fact = Fact before now

-- the bytes under a name, and none where there is no such file
abbrev pub bytes_under : Told → List ℕ → List ℕ
bytes_under told name = unwrap_or (told.held name) []

-- all other names hold what they held
abbrev pub SameElsewhere : Told → Told → List ℕ → Type 0
SameElsewhere before now name = (other : List ℕ) → other ≢ name → now.held other ≡ before.held other

-- the name holds these bytes, other names what they held, and nothing was loaded
pub record HoldsWhole (before now : Told) (name bytes : List ℕ) : Type 0 where
  pub whole : now.held name ≡ Some bytes
  pub others : SameElsewhere before now name
  pub loads : now.loads ≡ before.loads

-- the name holds what it held, or the first bytes and a prefix of more, other names what they held, and nothing was loaded
pub record HoldsPartly (before now : Told) (name first more : List ℕ) : Type 0 where
  pub count : ℕ
  pub within : count ≤ length more
  pub partly : (now.held name ≡ before.held name) ⊎ (now.held name ≡ Some (first ++ take count more))
  pub others : SameElsewhere before now name
  pub loads : now.loads ≡ before.loads

-- where the folder tells, the name holds the bytes and nothing else has changed
abbrev pub IsStored : Option Told → Option Told → List ℕ → List ℕ → Type 0
IsStored old new name bytes = BothTell old new (λ before now. HoldsWhole before now name bytes)

-- where the folder tells, the name holds what it held or a prefix of the bytes, and nothing else has changed
abbrev pub IsStoredPartly : Option Told → Option Told → List ℕ → List ℕ → Type 0
IsStoredPartly old new name bytes = BothTell old new (λ before now. HoldsPartly before now name [] bytes)

-- where the folder tells, the name holds what it held and then the bytes, and nothing else has changed
abbrev pub IsAppended : Option Told → Option Told → List ℕ → List ℕ → Type 0
IsAppended old new name bytes =
    BothTell old new (λ before now. HoldsWhole before now name (bytes_under before name ++ bytes))

-- where the folder tells, the name holds what it held, or that and then a prefix of the bytes, and nothing else has changed
abbrev pub IsAppendedPartly : Option Told → Option Told → List ℕ → List ℕ → Type 0
IsAppendedPartly old new name bytes =
    BothTell old new (λ before now. HoldsPartly before now name (bytes_under before name) bytes)

-- where the folder tells, it has had so many calls more
abbrev pub CallsLater : ℕ → Option Told → Option Told → Type 0
CallsLater more old new = BothTell old new (λ before now. now.calls ≡ later_count more before.calls)

-- where the folder tells, it has had one call more at least, and at most so many
abbrev pub CallsWithin : ℕ → Option Told → Option Told → Type 0
CallsWithin most old new =
    BothTell old new (λ before now. Rose before.calls now.calls × now.calls ≤ later_count most before.calls)

-- A create is one call. Then the name holds no bytes. After a refusal it holds what it held, or no bytes.
pub record CreateTells {T : Type 0} (old new : Option Told) (name : List ℕ) (result : Result T WriteErr) : Type 0 where
  pub later : CallsLater 1 old new
  pub created : OnOk result (IsStored old new name [])
  pub refused : OnErr result (IsStoredPartly old new name [])

-- An append is one call. It adds the bytes to what the name holds, and after a refusal a prefix of them or nothing.
pub record AppendTells {T : Type 0} (old new : Option Told) (name bytes : List ℕ) (result : Result T WriteErr) : Type 0 where
  pub later : CallsLater 1 old new
  pub appended : OnOk result (IsAppended old new name bytes)
  pub refused : OnErr result (IsAppendedPartly old new name bytes)

-- how many calls store a file of so many bytes: a create, and an append for each piece of 4,096 bytes or fewer
abbrev pub stores_of : ℕ → ℕ
stores_of size = 1 + (size + 4095) / 4096

-- A file is stored whole, or it is refused. In each case its name holds what it held, or a prefix of the bytes.
pub record StoresWhole {T : Type 0} (old new : Option Told) (name bytes : List ℕ) (result : Result T WriteErr) : Type 0 where
  pub stored : OnOk result (IsStored old new name bytes)
  pub partly : IsStoredPartly old new name bytes
  pub calls : OnOk result (CallsLater (stores_of (length bytes)) old new)
  pub at_most : CallsWithin (stores_of (length bytes)) old new
