-- What is seen of the sink that counts.
use Rattle.std.specs.Prelude.{ℕ, ◌+◌, ◌-◌, ◌^◌, min}
use Rattle.cvc_io.specs.declared.count_sink.CountSink.{CountSink}

-- how many bytes it took
abbrev pub count_of : CountSink → ℕ
count_of s = s.count

-- so many more, up to the last value of the counter
abbrev pub count_with : ℕ → ℕ → ℕ
count_with count more = min (count + more) (2 ^ 64 - 1)
