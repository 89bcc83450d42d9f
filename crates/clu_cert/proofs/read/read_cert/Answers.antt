use Rattle.clu_cert.proofs.Bridge.{found_in, only_in, bad_in}
use Rattle.clu_cert.proofs.read.read_cert.Goals as goal

pub returns-clause-found : goal.returns-clause-found
returns-clause-found c = found_in c.args.bytes.now c.read_table.result c.read_table.ensures.found

pub returns-clause-only : goal.returns-clause-only
returns-clause-only c = only_in c.args.bytes.now c.read_table.result c.read_table.ensures.only

pub returns-clause-bad : goal.returns-clause-bad
returns-clause-bad c = bad_in c.args.bytes.now c.read_table.result c.read_table.ensures.bad
