use Rattle.std.proofs.Common.{◌-◌, ◌≤◌, length, take}
use Rattle.cvc_text.specs.Putting.{HasPut, stand}
use Rattle.cvc_text.proofs.buffer.TextBuffer.put.Given as goal

abbrev pub invariant-loop-done : goal.invariant-loop-done
invariant-loop-done g l = record {
  within : l.done ≤ length l.text;
  put : HasPut (stand (g.K.Sink.written l.fn.sink) l.fn.self (g.K.Sink.faults l.fn.sink)) (stand (g.K.Sink.written l.sink) l.self (g.K.Sink.faults l.sink)) (take l.done l.text);
}

abbrev pub decreases-loop-done : goal.decreases-loop-done
decreases-loop-done g l = length l.text - l.done
