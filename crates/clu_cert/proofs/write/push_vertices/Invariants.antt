use Rattle.std.proofs.Common.{◌≡◌, ◌++◌, take}
use Rattle.clu_cert.specs.Numbers.{numbers_text}
use Rattle.clu_cert.proofs.write.push_vertices.Given as goal

abbrev pub invariant-loop-v : goal.invariant-loop-v
invariant-loop-v l = l.out.items ≡ l.fn.out.items ++ numbers_text (take l.v-index l.vertices)
