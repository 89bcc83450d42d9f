-- What a reader of one field or one line gives.
use Rattle.std.specs.Prelude.{◌≡◌, Option, Some, None, Result, Ok, Err}
use Rattle.clu_cert.specs.declared.fault.Fault.{Fault}
use Rattle.clu_cert.specs.declared.fault.Fault.TheVariants.{Memory, Bad}

-- x has the spelling, and no other value that fits has it; nothing is read only where no value that fits has it
abbrev pub ReadsSpelling : {X T : Type 0} → (X → T) → (X → Type 0) → T → Option X → Type 0
ReadsSpelling spell Fits text None = (x : _) → Fits x → text ≡ spell x → ⊥
ReadsSpelling spell Fits text (Some x) = Fits x × (text ≡ spell x) × ((y : _) → Fits y → text ≡ spell y → y ≡ x)

-- the same of a reader that takes memory
abbrev pub ReadsOr : {X T : Type 0} → (X → T) → (X → Type 0) → T → Result X Fault → Type 0
ReadsOr spell Fits text (Err Memory) = Unit {0}
ReadsOr spell Fits text (Err Bad) = (x : _) → Fits x → text ≡ spell x → ⊥
ReadsOr spell Fits text (Ok x) = Fits x × (text ≡ spell x) × ((y : _) → Fits y → text ≡ spell y → y ≡ x)
