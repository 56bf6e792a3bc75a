use Rattle.std.proofs.Common.{[], ◌∷◌}
use Rattle.cvc_field.specs.declared.view.Entry.TheVariants.{Looked}
use Rattle.cvc_field.proofs.Turning.{looked, grown_idle, look_away, look_then}
use Rattle.cvc_field.proofs.field.Field.try_one.Goals as goal

pub returns-then-mark-ne-PLAIN_QUEUED-clause-done : goal.returns-then-mark-ne-PLAIN_QUEUED-clause-done
returns-then-mark-ne-PLAIN_QUEUED-clause-done c = look_away c.args.self.now.circuit.now c.args.d c.look-mark.result c.args.seat.now.me.0 c.look-mark.new.seat.me.0 c.args.tray.now.items c.if-mark-ne-PLAIN_QUEUED.true
    (looked c.args.d c.look-mark.result c.args.seat.now.me.0 c.look-mark.new.seat.me.0 c.look-mark.ensures.step) c.requires.empty

pub exchange-requires-clause-idle : goal.exchange-requires-clause-idle
exchange-requires-clause-idle c = grown_idle c.args.seat.now.me.0 c.look-mark.new.seat.me.0 (Looked c.args.d.0 c.look-mark.result ∷ []) (looked c.args.d c.look-mark.result c.args.seat.now.me.0 c.look-mark.new.seat.me.0 c.look-mark.ensures.step) c.requires.idle

pub returns-clause-done : goal.returns-clause-done
returns-clause-done c = look_then c.args.self.now.circuit.now c.args.d c.look-mark.result c.args.seat.now.me.0 c.look-mark.new.seat.me.0 c.exchange.new.seat.me.0 c.exchange.new.tray.items c.exchange.result
    (looked c.args.d c.look-mark.result c.args.seat.now.me.0 c.look-mark.new.seat.me.0 c.look-mark.ensures.step) c.exchange.ensures.done
