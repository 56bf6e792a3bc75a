use Rattle.std.proofs.Common.{Option, ap, ◌∙◌}
use Rattle.cvc_law.specs.declared.interval.Fixed.{Fixed}
use Rattle.cvc_law.specs.Reach.{bound_on, declared_interval}
use Rattle.cvc_core.proofs.Openings.{declared_low_below}
use Rattle.cvc_core.proofs.opening.opening_low.Goals as goal

pub low_reach-requires : goal.low_reach-requires
low_reach-requires c = declared_low_below c.args.circuit.now c.args.n.0 _ _ c.nets-circuit.ensures.circuit c.ceiling.ensures.ceiling (c.declared_low.ensures ∙ ap (λ (o : Option Fixed). bound_on 0 (declared_interval o)) c.fixed.ensures)
