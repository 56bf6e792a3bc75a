use Rattle.std.proofs.Common.{◌≡◌}
use Rattle.cvc_core.specs.declared.actor.Actor.TheVariants.{Running}
use Rattle.cvc_core.specs.State.{run_of}
use Rattle.cvc_field.specs.Runs.{GoesNoting, debt_from, with_debt}
use Rattle.cvc_field.specs.Seats.{IsSeatOf}
use Rattle.cvc_field.proofs.field.Field.mark_fan.Given as goal

abbrev pub invariant-loop-d : goal.invariant-loop-d
invariant-loop-d l = record {
  seat : IsSeatOf l.self l.seat;
  actor : l.seat.me.0.actor ≡ Running (with_debt (debt_from l.self.circuit.now l.fn.net.0 l.d-index) l.spare (run_of l.fn.seat.me.0.actor));
  goes : GoesNoting l.fn.seat.me.0 l.seat.me.0 l.fn.tray.items l.tray.items;
}
