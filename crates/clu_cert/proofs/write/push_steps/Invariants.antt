use Rattle.std.proofs.Common.{◌≡◌, ◌++◌, take, map}
use Rattle.clu_cert.specs.Text.{text_of, step_line}
use Rattle.clu_cert.proofs.write.push_steps.Given as goal

abbrev pub invariant-loop-step : goal.invariant-loop-step
invariant-loop-step l = l.out.items ≡ l.fn.out.items ++ text_of (map step_line (take l.step-index l.steps))
