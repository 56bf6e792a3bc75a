use Rattle.std.proofs.Common.{◌≡◌, map, take}
use Rattle.cvc_law.specs.Reach.{declared_interval}
use Rattle.cvc_law.specs.ReachLeast.{reaches}
use Rattle.cvc_core.proofs.opening.opening_bounds.Given as goal

abbrev pub invariant-loop-n : goal.invariant-loop-n
invariant-loop-n l = l.bounds.items ≡ reaches l.circuit (map declared_interval (take l.n l.circuit.fixed))
