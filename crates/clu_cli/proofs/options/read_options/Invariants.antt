use Rattle.std.proofs.Common.{◌≡◌, length}
use Rattle.std.specs.Prelude.{map, string_bytes}
use Rattle.clu_cli.specs.Options.{given_by, given_of, nothing}
use Rattle.clu_cli.proofs.options.read_options.Given as goal

abbrev pub invariant-loop-rest : goal.invariant-loop-rest
invariant-loop-rest l = given_of (map string_bytes l.rest) (given_by l.options) ≡ given_of (map string_bytes l.fn.words) nothing

abbrev pub decreases-loop-rest : goal.decreases-loop-rest
decreases-loop-rest l = length l.rest
