use Rattle.std.proofs.Common.{[]}
use Rattle.cvc_field.specs.Runs.{Goes, IsLoading}
use Rattle.cvc_field.specs.Seats.{IsSeatOf}
use Rattle.cvc_field.proofs.field.Field.load_all.Given as goal

abbrev pub invariant-loop-read : goal.invariant-loop-read
invariant-loop-read l = record {
  seat : IsSeatOf l.self l.seat;
  loaded : IsLoading l.self.circuit.now l.d l.read l.bounds l.seat.me.0.actor;
  goes : Goes l.fn.seat.me.0 l.seat.me.0 [];
}
