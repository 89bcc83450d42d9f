use Rattle.clu_network.proofs.NameLaws.{no_names}
use Rattle.clu_network.proofs.names.NameTable.new.Goals as goal

pub invariant_of-result : goal.invariant_of-result
invariant_of-result c = no_names c.new.result.keys c.new.ensures.empty
