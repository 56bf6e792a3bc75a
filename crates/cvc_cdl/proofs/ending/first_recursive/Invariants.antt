use Rattle.std.proofs.Common.{◌≡◌, drop}
use Rattle.cvc_cdl.specs.Finishing.{endless_fault_in}
use Rattle.cvc_cdl.specs.Placed.{insts_placed}
use Rattle.cvc_cdl.proofs.ending.first_recursive.Given as goal

-- the instances that are left decide
abbrev pub invariant-loop-placed : goal.invariant-loop-placed
invariant-loop-placed l = endless_fault_in l.library.cells.now (insts_placed l.instances) ≡ endless_fault_in l.library.cells.now (insts_placed (drop l.placed-index l.instances))
