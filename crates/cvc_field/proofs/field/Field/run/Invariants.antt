use Rattle.std.proofs.Common.{◌≤◌, length}
use Rattle.std.specs.Prelude.{None}
use Rattle.cvc_field.specs.Runs.{GoesNoting, IsGiving}
use Rattle.cvc_field.specs.Seats.{IsSeatOf}
use Rattle.cvc_field.proofs.field.Field.run.Given as goal

abbrev pub invariant-loop-slot : goal.invariant-loop-slot
invariant-loop-slot l = record {
  seat : IsSeatOf l.self l.seat;
  giving : IsGiving l.self.circuit.now l.d l.reads l.slot None l.spare l.seat.me.0.actor;
  room : length l.tray.items ≤ 32;
  goes : GoesNoting l.fn.seat.me.0 l.seat.me.0 l.fn.tray.items l.tray.items;
}
