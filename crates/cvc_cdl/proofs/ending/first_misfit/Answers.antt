use Rattle.std.proofs.Common.{subst, sym}
use Rattle.cvc_cdl.specs.Ending.{first_instance_fault}
use Rattle.cvc_cdl.specs.Placed.{IsPlaced, insts_placed}
use Rattle.cvc_cdl.proofs.Endings.{misfit_here, misfit_later, no_misfit}
use Rattle.cvc_cdl.proofs.ending.first_misfit.Goals as goal

pub returns-in-Some : goal.returns-in-Some
returns-in-Some c =
    misfit_here c.args.instances.now c.loop-placed.placed-index c.args.library.now.cells.now (first_instance_fault c.args.library.now.cells.now (insts_placed c.args.instances.now)) c.loop-placed.invariant
    c.placed-item.result c.loop-placed-test.true c.placed-item.is c.in-Some.cause c.in-Some.ensures c.fault_at.result c.fault_at.ensures

pub loop-placed-preserved : goal.loop-placed-preserved
loop-placed-preserved c =
    misfit_later c.args.instances.now c.loop-placed.placed-index c.args.library.now.cells.now (first_instance_fault c.args.library.now.cells.now (insts_placed c.args.instances.now)) c.loop-placed.invariant
    c.placed-item.result c.loop-placed-test.true c.placed-item.is c.in_default.ensures

pub returns : goal.returns
returns c = no_misfit c.args.instances.now c.loop-placed.placed-index c.args.library.now.cells.now (first_instance_fault c.args.library.now.cells.now (insts_placed c.args.instances.now)) c.loop-placed.invariant c.loop-placed-test.false

pub cause-requires : goal.cause-requires
cause-requires c = subst (IsPlaced c.args.library.now.cells.now) (sym c.placed-item.is) (c.requires c.loop-placed.placed-index c.placed-item.result c.loop-placed-test.true)
