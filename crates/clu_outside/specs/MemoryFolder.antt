-- What a folder in memory tells.
use Rattle.std.specs.Prelude.{◌≡◌, ℕ, List, Option, String, map, string_bytes}
use Rattle.std.specs.Global.{Global, Vec}
use Rattle.std.specs.Option.{option_map}
use Rattle.std.specs.BTreeMap.{BTreeMap, get_by_text}
use Rattle.clu_outside.specs.Folder.{Told}
use Rattle.clu_outside.specs.declared.memory_folder.MemoryFolder.{MemoryFolder}

-- the bytes under each name
abbrev pub content : BTreeMap (String Global) (Vec ℕ) → List ℕ → Option (List ℕ)
content files name = option_map (λ bytes. bytes.items) (get_by_text files name)

-- the content, the number of calls and the names of the loads
abbrev pub told_by : MemoryFolder → Told
told_by folder = record { held = content folder.files; calls = folder.calls; loads = map string_bytes folder.loaded.items }

-- how many loads have met a fault
abbrev pub load_faults_of : MemoryFolder → ℕ
load_faults_of folder = folder.load_faults

-- how many creates and appends have
abbrev pub store_faults_of : MemoryFolder → ℕ
store_faults_of folder = folder.store_faults

-- the numbers of the calls that are to fail
abbrev pub failing_calls_of : MemoryFolder → List ℕ
failing_calls_of folder = folder.failing.items

-- the calls so far, the names of the loads, the faults and the calls that are to fail are the same
pub record SameCalls (old new : MemoryFolder) : Type 0 where
  pub calls : new.calls ≡ old.calls
  pub loads : (told_by new).loads ≡ (told_by old).loads
  pub load_faults : load_faults_of new ≡ load_faults_of old
  pub store_faults : store_faults_of new ≡ store_faults_of old
  pub failing : failing_calls_of new ≡ failing_calls_of old

-- each name holds what it held
abbrev pub SameFiles : MemoryFolder → MemoryFolder → Type 0
SameFiles old new = (name : List ℕ) → (told_by new).held name ≡ (told_by old).held name
