use Rattle.std.proofs.Common.{Option, ap, ◌∙◌}
use Rattle.cvc_law.specs.declared.interval.Fixed.{Fixed}
use Rattle.cvc_law.specs.Reach.{bound_on, declared_interval}
use Rattle.cvc_core.proofs.Openings.{declared_high_above}
use Rattle.cvc_core.proofs.opening.opening_high.Goals as goal

pub high_reach-requires : goal.high_reach-requires
high_reach-requires c = declared_high_above c.args.circuit.now c.args.n.0 _ _ c.nets-circuit.ensures.circuit c.floor.ensures.floor (c.declared_high.ensures ∙ ap (λ (o : Option Fixed). bound_on 1 (declared_interval o)) c.fixed.ensures)
