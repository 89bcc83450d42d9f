use Rattle.std.proofs.Common.{◌≡◌, ◌++◌, take}
use Rattle.std.specs.List.{flat_map}
use Rattle.clu_cert.specs.Text.{text_of, proof_lines}
use Rattle.clu_cert.proofs.write.push_proofs.Given as goal

abbrev pub invariant-loop-proof : goal.invariant-loop-proof
invariant-loop-proof l = l.out.items ≡ l.fn.out.items ++ text_of (flat_map proof_lines (take l.proof-index l.proofs))
