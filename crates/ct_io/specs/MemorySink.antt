-- A sink in memory, some of whose calls fail.
use Rattle.std.specs.Prelude.{ℕ, List, ◌++◌, Option, Some}
use Rattle.ct_io.specs.Calls.{Calls, with_call, with_fault}

-- the bytes so far, the most bytes that a write takes, and its calls of `write`
pub record MemorySink : Type 0 where
  pub bytes : List ℕ
  pub piece : ℕ
  pub calls : Calls

-- the bytes so far
abbrev pub written_to : MemorySink → Option (List ℕ)
written_to sink = Some sink.bytes

-- after a call that takes these bytes
abbrev pub sink_after : MemorySink → List ℕ → MemorySink
sink_after sink taken = record sink { bytes = sink.bytes ++ taken; calls = with_call sink.calls }

-- after a call that fails
abbrev pub sink_after_fault : MemorySink → MemorySink
sink_after_fault sink = record sink { calls = with_fault (with_call sink.calls) }

-- after a call for which there is no memory
abbrev pub sink_after_no_memory : MemorySink → MemorySink
sink_after_no_memory sink = record sink { calls = with_call sink.calls }
