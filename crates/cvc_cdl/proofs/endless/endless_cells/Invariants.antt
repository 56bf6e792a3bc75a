use Rattle.std.proofs.Common.{◌-◌, length}
use Rattle.cvc_cdl.specs.Chains.{all_numbers}
use Rattle.cvc_cdl.specs.Peeling.{IsPeeled}
use Rattle.cvc_cdl.proofs.endless.endless_cells.Given as goal

abbrev pub invariant-loop-taken : goal.invariant-loop-taken
invariant-loop-taken l = IsPeeled (all_numbers l.uses) l.taken l.left.items l.finite.items

abbrev pub decreases-loop-taken : goal.decreases-loop-taken
decreases-loop-taken l = length l.uses - l.taken
