-- What a folder holds under a name is what it held before the loads of other files.
use Rattle.std.proofs.Common.{◌≡◌, ℕ, List, [], ◌∷◌, ◌++◌, refl, Option, Some, None}
use Rattle.clu_outside.specs.Folder.{Told, after_load, Holds, HoldsMore, Lacks}
use Rattle.clu_cli.specs.Headline.{after_loads}

-- ---- over one load
pub lacks_over : (told : Option Told) (file name : List ℕ) → Lacks (after_load file told) name → Lacks told name
lacks_over None file name h = tt
lacks_over (Some before) file name h = h

pub holds_over : (told : Option Told) (file name bytes : List ℕ) → Holds (after_load file told) name bytes → Holds told name bytes
holds_over None file name bytes h = tt
holds_over (Some before) file name bytes h = h

pub more_over : (told : Option Told) (file name : List ℕ) (limit : ℕ) → HoldsMore (after_load file told) name limit → HoldsMore told name limit
more_over None file name limit h = tt
more_over (Some before) file name limit h = h

-- ---- over several
pub lacks_before : (files : List (List ℕ)) (told : Option Told) (name : List ℕ) → Lacks (after_loads files told) name → Lacks told name
lacks_before [] told name h = h
lacks_before (file ∷ files) told name h = lacks_over told file name (lacks_before files (after_load file told) name h)

pub holds_before : (files : List (List ℕ)) (told : Option Told) (name bytes : List ℕ) → Holds (after_loads files told) name bytes → Holds told name bytes
holds_before [] told name bytes h = h
holds_before (file ∷ files) told name bytes h = holds_over told file name bytes (holds_before files (after_load file told) name bytes h)

-- one load more behind them
pub loads_behind : (files : List (List ℕ)) (name : List ℕ) (told : Option Told) → after_loads (files ++ name ∷ []) told ≡ after_load name (after_loads files told)
loads_behind [] name told = refl
loads_behind (file ∷ files) name told = loads_behind files name (after_load file told)
