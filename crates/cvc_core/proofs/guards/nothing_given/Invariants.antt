use Rattle.std.proofs.Common.{◌≡◌, ℕ, ◌<◌, false}
use Rattle.cvc_core.specs.State.{given_at}
use Rattle.cvc_core.proofs.guards.nothing_given.Given as goal

abbrev pub invariant-loop-slot : goal.invariant-loop-slot
invariant-loop-slot l = (k : ℕ) → k < l.slot → given_at l.run k ≡ false
