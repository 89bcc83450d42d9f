-- What a sink in memory tells.
use Rattle.std.specs.Prelude.{ℕ, List}
use Rattle.clu_outside.specs.declared.memory_sink.MemorySink.{MemorySink}

-- the bytes that it has taken
abbrev pub bytes_of : MemorySink → List ℕ
bytes_of sink = sink.bytes.items

-- how many writes it has had
abbrev pub calls_of : MemorySink → ℕ
calls_of sink = sink.calls

-- how many writes have met a fault
abbrev pub faults_of : MemorySink → ℕ
faults_of sink = sink.faults

-- the numbers of the writes that are to fail
abbrev pub failing_writes_of : MemorySink → List ℕ
failing_writes_of sink = sink.failing.items
