use Rattle.std.proofs.lemmas.Result.{err_from_is_err_and}
use Rattle.cvc_cdl.specs.Builder.{named_top}
use Rattle.cvc_run.proofs.Runs.{list_of}
use Rattle.cvc_run.proofs.Contents.{flat_at_netlist, flat_loaded}
use Rattle.cvc_run.proofs.stages.load_flat.Goals as goal

pub returns-in_err-netlist-clause-flat : goal.returns-in_err-netlist-clause-flat
returns-in_err-netlist-clause-flat g c =
    let p = err_from_is_err_and c.from_residual.result c.from_residual.ensures.1 in
    rw (p.1, p.2)
    (flat_at_netlist list_of (named_top c.args.top) (g.S.Shelf.files c.args.shelf.now) c.args.name.now c.in_err-netlist.field-0.0 (rw c.bytes.ensures at c.in_err-netlist.ensures.netlist))

pub returns-clause-flat : goal.returns-clause-flat
returns-clause-flat g c =
    rw c.as_load.ensures
    (flat_loaded list_of (named_top c.args.top) c.in_ok-netlist.netlist c.flatten_netlist.result c.flatten_netlist.ensures (g.S.Shelf.files c.args.shelf.now) c.args.name.now
    (rw c.bytes.ensures at c.in_ok-netlist.ensures.netlist))
