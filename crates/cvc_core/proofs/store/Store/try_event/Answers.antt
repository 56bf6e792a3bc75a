use Rattle.std.proofs.Common.{sym, subst}
use Rattle.cvc_core.specs.declared.event.Event.{Event}
use Rattle.cvc_core.specs.Store.{machine_of}
use Rattle.cvc_core.specs.Tried.{IsEventTried}
use Rattle.cvc_core.proofs.Dispatching.{load_tried, add_tried, queue_tried, take_tried, drop_tried, subtract_tried}
use Rattle.cvc_core.proofs.store.Store.try_event.Goals as goal

pub returns-in-ReadCount : goal.returns-in-ReadCount
returns-in-ReadCount c = subst (λ (e : Event). IsEventTried c.args.circuit.now (machine_of c.args.self.now) (machine_of c.args.self.now) e c.try_ask.result) (sym c.in-ReadCount.is) (c.try_ask.ensures c.args.circuit.now)

pub returns-in-Split : goal.returns-in-Split
returns-in-Split c = subst (λ (e : Event). IsEventTried c.args.circuit.now (machine_of c.args.self.now) (machine_of c.try_split.new.self) e c.try_split.result) (sym c.in-Split.is) (c.try_split.ensures c.args.circuit.now)

pub returns-in-Join : goal.returns-in-Join
returns-in-Join c = subst (λ (e : Event). IsEventTried c.args.circuit.now (machine_of c.args.self.now) (machine_of c.try_join.new.self) e c.try_join.result) (sym c.in-Join.is) (c.try_join.ensures c.args.circuit.now)

pub returns-in-Load : goal.returns-in-Load
returns-in-Load c = load_tried c.args.circuit.now (machine_of c.args.self.now) (machine_of c.try_read.new.self) c.in-Load.actor c.args.event c.try_read.result c.in-Load.read c.in-Load.is c.try_read.ensures

pub returns-in-Add : goal.returns-in-Add
returns-in-Add c = add_tried c.args.circuit.now (machine_of c.args.self.now) (machine_of c.try_take_credit.new.self) c.in-Add.actor c.args.event c.try_take_credit.result c.in-Add.is c.try_take_credit.ensures

pub returns-in-SetQueued : goal.returns-in-SetQueued
returns-in-SetQueued c = queue_tried c.args.circuit.now (machine_of c.args.self.now) (machine_of c.try_queue.new.self) c.in-SetQueued.actor c.args.event c.try_queue.result c.in-SetQueued.is c.try_queue.ensures

pub returns-in-Take : goal.returns-in-Take
returns-in-Take c = take_tried c.args.circuit.now (machine_of c.args.self.now) (machine_of c.try_claim.new.self) c.in-Take.actor c.args.event c.try_claim.result c.in-Take.device c.in-Take.is c.try_claim.ensures

pub returns-in-DropRunning : goal.returns-in-DropRunning
returns-in-DropRunning c = drop_tried c.args.circuit.now (machine_of c.args.self.now) (machine_of c.try_release.new.self) c.in-DropRunning.actor c.args.event c.try_release.result c.in-DropRunning.is c.try_release.ensures

pub returns-in-Subtract : goal.returns-in-Subtract
returns-in-Subtract c = subtract_tried c.args.circuit.now (machine_of c.args.self.now) (machine_of c.try_give_credit.new.self) c.in-Subtract.actor c.args.event c.try_give_credit.result c.in-Subtract.is c.try_give_credit.ensures

pub returns-in-Lower : goal.returns-in-Lower
returns-in-Lower c = subst (λ (e : Event). IsEventTried c.args.circuit.now (machine_of c.args.self.now) (machine_of c.try_lower.new.self) e c.try_lower.result) (sym c.in-Lower.is) c.try_lower.ensures

pub returns-in-Raise : goal.returns-in-Raise
returns-in-Raise c = subst (λ (e : Event). IsEventTried c.args.circuit.now (machine_of c.args.self.now) (machine_of c.try_raise.new.self) e c.try_raise.result) (sym c.in-Raise.is) c.try_raise.ensures

pub returns-in-Look : goal.returns-in-Look
returns-in-Look c = subst (λ (e : Event). IsEventTried c.args.circuit.now (machine_of c.args.self.now) (machine_of c.args.self.now) e c.try_look.result) (sym c.in-Look.is) c.try_look.ensures
