use Rattle.std.proofs.Common.{arith}
use Rattle.std.proofs.lemmas.Map.Text.{text_keys}
use Rattle.clu_outside.proofs.memory_folder.MemoryFolder.put_at.Goals as goal

pub returns-clause-others : goal.returns-clause-others
returns-clause-others c = λ other differ. grind (arith, text_keys)
