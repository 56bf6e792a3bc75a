use Rattle.std.proofs.Common.{ap, ◌∙◌, Bool}
use Rattle.std.specs.Prelude.{if◌then◌else◌}
use Rattle.cvc_core.specs.declared.actor.Actor.TheVariants.{Idle}
use Rattle.cvc_field.proofs.Giving.{gave_back, may_give_back}
use Rattle.cvc_field.proofs.field.Field.give_spare.Goals as goal

pub returns-then-not-spare-clause-idle : goal.returns-then-not-spare-clause-idle
returns-then-not-spare-clause-idle c = c.requires.idle ∙ ap (λ (b : Bool). Idle (if b then 2 else 1)) c.if-not-spare.true

pub subtract-requires-clause-allowed : goal.subtract-requires-clause-allowed
subtract-requires-clause-allowed c = may_give_back c.args.self.now.circuit.now 1 c.args.seat.now.me.0.actor (c.requires.idle ∙ ap (λ (b : Bool). Idle (if b then 2 else 1)) c.if-not-spare.false)

pub returns-clause-idle : goal.returns-clause-idle
returns-clause-idle c = gave_back c.args.self.now.circuit.now 1 c.args.seat.now.me.0 c.subtract.new.seat.me.0 c.subtract.result c.requires.seat.2 c.subtract.ensures.step (c.requires.idle ∙ ap (λ (b : Bool). Idle (if b then 2 else 1)) c.if-not-spare.false)
