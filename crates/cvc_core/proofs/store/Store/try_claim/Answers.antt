use Rattle.std.proofs.Common.{◌≡◌, ◌<◌, refl, sym, ◌∙◌, arith}
use Rattle.cvc_law.specs.Network.{devices}
use Rattle.cvc_core.specs.declared.actor.Actor.TheVariants.{Idle}
use Rattle.cvc_core.specs.declared.actor.Intent.TheVariants.{Claim}
use Rattle.cvc_core.specs.State.{actor_at}
use Rattle.cvc_core.specs.Store.{machine_of}
use Rattle.cvc_core.proofs.Trying.{done_at}
use Rattle.cvc_core.proofs.MarkWords.{claim_effect}
use Rattle.cvc_core.proofs.store.Store.try_claim.Goals as goal

pub returns : goal.returns
returns c = let free : actor_at (machine_of c.args.self.now) c.args.k ≡ Idle 0 = c.if-not-is_free.ensures.0 refl in let lt : c.args.d.0 < devices c.args.circuit.now = let count = c.devices.ensures.count in omega arith in
    done_at c.args.circuit.now (machine_of c.args.self.now) _ c.args.k (Claim c.args.d) (Idle 0) free (lt, refl, sym c.mark-mark.ensures ∙ c.if-not-is_plain_queued.ensures.0 refl)
    (rw (c.from.ensures, c.begun.ensures) (claim_effect c.args.circuit.now c.args.self.now.bounds.items c.args.self.now.marks.items c.args.self.now.count c.args.self.now.actors.items c.args.k c.args.d 0))
