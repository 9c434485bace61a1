-- What a sink in memory is to contracts.
use Rattle.std.specs.Prelude.{ℕ, List}
use Rattle.mem_outside.specs.declared.mem_sink.MemSink.{MemSink}
use Rattle.mem_outside.specs.Calls.{Calls, calls_in}

-- the bytes that it has taken
abbrev pub bytes_of : MemSink → List ℕ
bytes_of sink = sink.bytes.items

-- its calls
abbrev pub calls_of : MemSink → Calls
calls_of sink = calls_in sink.calls
