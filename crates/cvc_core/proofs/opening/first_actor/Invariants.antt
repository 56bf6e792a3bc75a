use Rattle.std.proofs.Common.{◌≡◌, ◌∷◌, replicate}
use Rattle.cvc_core.specs.declared.actor.Actor.TheVariants.{Absent, Idle}
use Rattle.cvc_core.proofs.opening.first_actor.Given as goal

abbrev pub invariant-loop : goal.invariant-loop
invariant-loop l = l.actors.items ≡ Idle 0 ∷ replicate l.counter Absent
