use Rattle.std.proofs.Common.{◌≡◌, ◌≤◌, ◌-◌, length, take}
use Rattle.clu_outside.specs.Sink.{with_bytes}
use Rattle.clu_outside.proofs.sink.write_whole.Given as goal

abbrev pub invariant-loop-done : goal.invariant-loop-done
invariant-loop-done g l = record {
  within : l.done ≤ length l.bytes;
  stays : g.O.Sink.faults l.sink ≡ g.O.Sink.faults l.initial.sink;
  taken : g.O.Sink.written l.sink ≡ with_bytes (g.O.Sink.written l.initial.sink) (take l.done l.bytes);
}

abbrev pub decreases-loop-done : goal.decreases-loop-done
decreases-loop-done g l = length l.bytes - l.done
