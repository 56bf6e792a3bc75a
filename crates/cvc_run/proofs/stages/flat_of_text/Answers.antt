use Rattle.std.proofs.Common.{None}
use Rattle.std.proofs.lemmas.Result.{err_from_is_err_and}
use Rattle.cvc_run.proofs.Runs.{list_of}
use Rattle.cvc_run.proofs.Contents.{flat_of_text_read, flat_of_text_stopped}
use Rattle.cvc_run.proofs.stages.flat_of_text.Goals as goal

pub returns-in_err-netlist : goal.returns-in_err-netlist
returns-in_err-netlist c =
    let p = err_from_is_err_and c.from_residual.result c.from_residual.ensures.1 in
    rw (p.1, p.2) (flat_of_text_stopped list_of None c.args.text.now c.in_err-netlist.field-0.0 (rw c.bytes.ensures at c.in_err-netlist.ensures.netlist))

pub returns : goal.returns
returns c = flat_of_text_read list_of None c.in_ok-netlist.netlist c.flatten_netlist.result c.flatten_netlist.ensures c.args.text.now (rw c.bytes.ensures at c.in_ok-netlist.ensures.netlist)
