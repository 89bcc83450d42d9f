use Rattle.std.proofs.Common.{◌≡◌, ◌++◌, take}
use Rattle.clu_cert.specs.Numbers.{numbers_text}
use Rattle.clu_cert.proofs.write.push_labels.Given as goal

abbrev pub invariant-loop-label : goal.invariant-loop-label
invariant-loop-label l = l.out.items ≡ l.fn.out.items ++ numbers_text (take l.label-index l.labels)
