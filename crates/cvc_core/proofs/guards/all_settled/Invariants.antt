use Rattle.std.proofs.Common.{ℕ, ◌<◌}
use Rattle.cvc_core.specs.Steps.{IsSettled}
use Rattle.cvc_core.proofs.guards.all_settled.Given as goal

abbrev pub invariant-loop-slot : goal.invariant-loop-slot
invariant-loop-slot l = (k : ℕ) → k < l.slot → IsSettled l.circuit l.run k
