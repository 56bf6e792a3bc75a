use Rattle.std.proofs.Common.{List, refl, subst}
use Rattle.cvc_law.specs.declared.interval.Interval.{Interval}
use Rattle.cvc_law.specs.Reach.{device_at}
use Rattle.cvc_serial.specs.Widening.{IsWidening}
use Rattle.cvc_serial.proofs.Settles.{widened}
use Rattle.cvc_serial.proofs.engine.Engine.widen.Goals as goal

pub returns : goal.returns
returns c =
    let wide = subst (λ (f : List Interval). IsWidening c.args.circuit.now f (device_at c.args.circuit.now c.args.d.0) c.args.slot c.in-Some.found) c.deref.ensures.value c.in-Some.ensures.some in
    widened c.args.circuit.now c.args.self.now c.args.d.0 c.args.slot c.in-Some.found c.requires.device c.requires.slot c.requires.settling wide _ refl refl c.in_ok-note.ensures
