use Rattle.std.proofs.Common.{bytes_eq, sym, ◌∙◌}
use Rattle.clu_network.proofs.NameLaws.{none_passes}
use Rattle.clu_network.proofs.reader.read_name.Goals as goal

pub returns-clause-number : goal.returns-clause-number
returns-clause-number c = c.len-number.ensures.len ∙ sym (none_passes (bytes_eq c.args.field.now) c.args.names.now (sym c.in_default.ensures.found))
