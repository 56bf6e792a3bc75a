use Rattle.std.proofs.Common.{◌≡◌, ◌≤◌, max, List, false}
use Rattle.cvc_field.specs.declared.view.Entry.{Entry}
use Rattle.cvc_field.specs.Turns.{IsScan, grown, tray_of}
use Rattle.cvc_field.specs.Seats.{IsSeatOf}
use Rattle.cvc_field.proofs.field.Field.scan.Given as goal

abbrev pub invariant-loop-d : goal.invariant-loop-d
invariant-loop-d l = record {
  seat : IsSeatOf l.self l.seat;
  low : l.from ≤ l.d;
  high : l.d ≤ max l.from l.to;
  scanned : (es : List Entry) × (l.seat.me.0 ≡ grown l.fn.seat.me.0 es) × IsScan l.self.circuit.now l.from l.d false es × (l.tray.items ≡ tray_of es);
}
