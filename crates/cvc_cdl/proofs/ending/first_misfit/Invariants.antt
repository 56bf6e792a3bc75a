use Rattle.std.proofs.Common.{◌≡◌, drop}
use Rattle.cvc_cdl.specs.Ending.{first_instance_fault}
use Rattle.cvc_cdl.specs.Placed.{insts_placed}
use Rattle.cvc_cdl.proofs.ending.first_misfit.Given as goal

-- the instances that are left decide
abbrev pub invariant-loop-placed : goal.invariant-loop-placed
invariant-loop-placed l = first_instance_fault l.library.cells.now (insts_placed l.instances) ≡ first_instance_fault l.library.cells.now (insts_placed (drop l.placed-index l.instances))
