use Rattle.std.proofs.Common.{[], ◌∷◌, refl}
use Rattle.cvc_field.specs.declared.view.Entry.TheVariants.{Looked}
use Rattle.cvc_field.proofs.Turning.{was_taken, was_missed, was_run}
use Rattle.cvc_field.proofs.field.Field.exchange.Goals as goal

pub returns-then-found-ne-PLAIN_QUEUED-clause-done : goal.returns-then-found-ne-PLAIN_QUEUED-clause-done
returns-then-found-ne-PLAIN_QUEUED-clause-done c = let r = c.take-found.result in let ne = c.if-found-ne-PLAIN_QUEUED.true in
    (Looked c.args.d.0 r ∷ [], (was_missed c.args.self.now.circuit.now c.args.d r c.args.seat.now.me.0 c.take-found.new.seat.me.0 c.requires.idle c.take-found.ensures.step ne).1, (r, ne, refl), c.requires.empty)

pub run-requires-clause-taken : goal.run-requires-clause-taken
run-requires-clause-taken c = (was_taken c.args.self.now.circuit.now c.args.d c.take-found.result c.args.seat.now.me.0 c.take-found.new.seat.me.0 c.requires.idle c.take-found.ensures.step c.if-found-ne-PLAIN_QUEUED.false).0

pub returns-clause-done : goal.returns-clause-done
returns-clause-done c = was_run c.args.self.now.circuit.now c.args.d c.args.seat.now.me.0 c.take-found.new.seat.me.0 c.run.new.seat.me.0 c.args.tray.now.items c.run.new.tray.items c.requires.seat.2 c.requires.device c.requires.idle
    (was_taken c.args.self.now.circuit.now c.args.d c.take-found.result c.args.seat.now.me.0 c.take-found.new.seat.me.0 c.requires.idle c.take-found.ensures.step c.if-found-ne-PLAIN_QUEUED.false).1 c.requires.empty c.run.ensures.idle c.run.ensures.goes
