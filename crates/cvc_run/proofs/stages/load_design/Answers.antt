use Rattle.cvc_cdl.specs.Builder.{named_top}
use Rattle.cvc_run.proofs.Runs.{stops_by_file}
use Rattle.cvc_run.proofs.stages.load_design.Goals as goal

pub returns-in-Err-clause-design : goal.returns-in-Err-clause-design
returns-in-Err-clause-design g c =
    rw c.load_fault.ensures
    (stops_by_file (g.S.Shelf.files c.args.shelf.now) (named_top c.args.top) c.args.netlist.now c.args.models.now c.in-Err.stop c.in-Err.ensures.design)
