use Rattle.std.proofs.Common.{subst, sym}
use Rattle.cvc_cdl.specs.Finishing.{endless_fault_in}
use Rattle.cvc_cdl.specs.Placed.{IsPlaced, insts_placed}
use Rattle.cvc_cdl.proofs.Endings.{none_recursive, recursive_here, recursive_later}
use Rattle.cvc_cdl.proofs.ending.first_recursive.Goals as goal

pub returns-then-is_endless : goal.returns-then-is_endless
returns-then-is_endless c =
    recursive_here c.args.instances.now c.loop-placed.placed-index c.args.library.now.cells.now (endless_fault_in c.args.library.now.cells.now (insts_placed c.args.instances.now)) c.loop-placed.invariant
    c.placed-item.result c.loop-placed-test.true c.placed-item.is c.if-is_endless.ensures c.fault_at.result c.fault_at.ensures

pub loop-placed-preserved : goal.loop-placed-preserved
loop-placed-preserved c =
    recursive_later c.args.instances.now c.loop-placed.placed-index c.args.library.now.cells.now (endless_fault_in c.args.library.now.cells.now (insts_placed c.args.instances.now)) c.loop-placed.invariant
    c.placed-item.result c.loop-placed-test.true c.placed-item.is c.if-is_endless.ensures

pub returns : goal.returns
returns c = none_recursive c.args.instances.now c.loop-placed.placed-index c.args.library.now.cells.now (endless_fault_in c.args.library.now.cells.now (insts_placed c.args.instances.now)) c.loop-placed.invariant c.loop-placed-test.false

pub is_endless-requires-clause-placed : goal.is_endless-requires-clause-placed
is_endless-requires-clause-placed c = subst (IsPlaced c.args.library.now.cells.now) (sym c.placed-item.is) (c.requires.placed c.loop-placed.placed-index c.placed-item.result c.loop-placed-test.true)
