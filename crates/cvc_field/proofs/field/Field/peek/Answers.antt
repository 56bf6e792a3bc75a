use Rattle.cvc_field.proofs.Stepping.{asks}
use Rattle.std.proofs.Common.{subst}
use Rattle.cvc_law.specs.Network.{Network}
use Rattle.cvc_core.specs.State.{BoundWord}
use Rattle.cvc_field.specs.Views.{Told}
use Rattle.cvc_field.proofs.Meaning.{peeks}
use Rattle.cvc_field.proofs.field.Field.peek.Goals as goal

pub load_as-requires-clause-moves : goal.load_as-requires-clause-moves
load_as-requires-clause-moves c = asks c.args.self.now c.args.seat.now c.requires.seat _ _ _
    (peeks c.args.self.now.circuit.now c.args.self.now.table.shared.key.hands c.args.seat.now.me.0 c.args.bound _ c.bound_word-word.ensures.0 c.requires.bound c.requires.idle)

pub returns-clause-told : goal.returns-clause-told
returns-clause-told c = subst (λ (z : Network). Told z c.args.seat.now.me.0.trail (BoundWord c.args.bound) c.load_as.result) c.requires.seat.2 c.load_as.ensures.told
