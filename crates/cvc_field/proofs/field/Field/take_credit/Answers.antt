use Rattle.std.proofs.Common.{Bool, subst}
use Rattle.cvc_field.specs.Runs.{IsOwing}
use Rattle.cvc_field.proofs.Giving.{credit_spared, credit_taken, may_add}
use Rattle.cvc_field.proofs.field.Field.take_credit.Goals as goal

pub returns-then-spare-clause-actor : goal.returns-then-spare-clause-actor
returns-then-spare-clause-actor c = credit_spared c.args.self.now.circuit.now c.args.d.0 c.args.seat.now.me.0.actor (subst (λ (b : Bool). IsOwing c.args.self.now.circuit.now c.args.d.0 b c.args.seat.now.me.0.actor) c.if-spare.true c.requires.owing)

pub add-requires-clause-allowed : goal.add-requires-clause-allowed
add-requires-clause-allowed c = may_add c.args.self.now.circuit.now c.args.d.0 c.args.seat.now.me.0.actor (subst (λ (b : Bool). IsOwing c.args.self.now.circuit.now c.args.d.0 b c.args.seat.now.me.0.actor) c.if-spare.false c.requires.owing)

pub returns-clause-actor : goal.returns-clause-actor
returns-clause-actor c = credit_taken c.args.self.now.circuit.now c.args.d.0 c.args.seat.now.me.0 c.add.new.seat.me.0 c.add.result c.requires.seat.2 c.add.ensures.step (subst (λ (b : Bool). IsOwing c.args.self.now.circuit.now c.args.d.0 b c.args.seat.now.me.0.actor) c.if-spare.false c.requires.owing)
