use Rattle.std.proofs.Common.{[]}
use Rattle.cvc_field.proofs.Going.{goes_on}
use Rattle.cvc_field.proofs.Giving.{still_owing, marked_next}
use Rattle.cvc_field.proofs.field.Field.mark_next.Goals as goal

pub mark-was_queued-requires-clause-owing : goal.mark-was_queued-requires-clause-owing
mark-was_queued-requires-clause-owing c = still_owing c.args.self.now.circuit.now c.args.d.0 c.args.spare c.args.seat.now.me.0.actor c.take_credit.new.seat.me.0.actor c.requires.owing c.take_credit.ensures.actor

pub returns-clause-actor : goal.returns-clause-actor
returns-clause-actor c = marked_next c.args.self.now.circuit.now c.args.seat.now.me.0.actor c.take_credit.new.seat.me.0.actor c.mark-was_queued.new.seat.me.0.actor c.mark-was_queued.result c.take_credit.ensures.actor c.mark-was_queued.ensures.actor

pub returns-clause-goes : goal.returns-clause-goes
returns-clause-goes c = (_, goes_on c.args.seat.now.me.0 c.take_credit.new.seat.me.0 c.mark-was_queued.new.seat.me.0 [] _ c.take_credit.ensures.goes c.mark-was_queued.ensures.goes, c.note.ensures)
