use Rattle.std.proofs.Common.{arith, refl, ap, ◌∙◌}
use Rattle.std.specs.Prelude.{not}
use Rattle.cvc_core.specs.declared.actor.Intent.TheVariants.{TakeCredit}
use Rattle.cvc_core.specs.Store.{machine_of}
use Rattle.cvc_core.proofs.Quiet.{count-le}
use Rattle.cvc_core.proofs.Trying.{run_done}
use Rattle.cvc_core.proofs.store.Store.try_take_credit.Goals as goal

pub overflow_add-self : goal.overflow_add-self
overflow_add-self c = let most = count-le c.args.circuit.now (machine_of c.args.self.now) c.requires in let few = c.requires.form.few_actors in let devices = c.requires.form.circuit.few_devices in omega arith

pub returns : goal.returns
returns c = run_done c.args.circuit.now (machine_of c.args.self.now) _ c.args.k TakeCredit c.in-Some.run' c.in-Some.ensures (c.is_none.ensures ∙ ap not c.if-is_none.false, c.if-run-ne1.false)
    (rw (c.from.ensures, c.with_credits.ensures) refl)
