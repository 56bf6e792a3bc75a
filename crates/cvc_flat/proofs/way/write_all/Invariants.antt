use Rattle.std.proofs.Common.{◌≡◌, ◌≤◌, ◌-◌, length, take}
use Rattle.std.specs.Io.KnownBytes.{append_known}
use Rattle.cvc_flat.proofs.way.write_all.Given as goal

abbrev pub invariant-loop-done : goal.invariant-loop-done
invariant-loop-done g l = record {
  counts : g.K.Sink.faults l.initial.sink ≤ g.K.Sink.faults l.sink;
  inside : l.done ≤ length l.text;
  written : g.K.Sink.written l.sink ≡ append_known (g.K.Sink.written l.initial.sink) (take l.done l.text);
}

abbrev pub decreases-loop-done : goal.decreases-loop-done
decreases-loop-done g l = length l.text - l.done
