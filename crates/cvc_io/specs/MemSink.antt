-- What is seen of the sink in memory.
use Rattle.std.specs.Prelude.{ℕ, ◌-◌, min, List, length}
use Rattle.cvc_io.specs.declared.mem_sink.MemSink.{MemSink}

abbrev pub taken_of : MemSink → List ℕ
taken_of s = s.taken.items

abbrev pub room_of : MemSink → ℕ
room_of s = s.room

abbrev pub faults_of : MemSink → ℕ
faults_of s = s.faults

-- how many bytes of a piece still fit
abbrev pub fitting : ℕ → List ℕ → List ℕ → ℕ
fitting room taken piece = min (length piece) (room - length taken)
