use Rattle.std.proofs.Common.{refl, sym, ◌∙◌}
use Rattle.cvc_core.specs.declared.actor.Actor.TheVariants.{Idle, Running}
use Rattle.cvc_core.specs.declared.actor.Intent.TheVariants.{GiveCredit}
use Rattle.cvc_core.specs.Store.{machine_of}
use Rattle.cvc_core.proofs.Trying.{done_at}
use Rattle.cvc_core.proofs.store.Store.try_give_credit.Goals as goal

pub returns-in-Idle : goal.returns-in-Idle
returns-in-Idle c = done_at c.args.circuit.now (machine_of c.args.self.now) _ c.args.k GiveCredit (Idle c.in-Idle.credits) (sym c.actor.ensures ∙ c.in-Idle.is) c.if-credits-gt0.true (rw c.from.ensures refl)

pub returns-in-Running : goal.returns-in-Running
returns-in-Running c = done_at c.args.circuit.now (machine_of c.args.self.now) _ c.args.k GiveCredit (Running c.in-Running.run') (sym c.actor.ensures ∙ c.in-Running.is) (c.if-has_spare_credit.ensures.0 refl) (rw (c.from-in-Running.ensures, c.with_credits.ensures) refl)
