use Rattle.std.proofs.lemmas.Result.{err_from_is_err_and}
use Rattle.cvc_cdl.specs.Builder.{named_top}
use Rattle.cvc_run.proofs.Feeding.{text_stopped}
use Rattle.cvc_run.proofs.netlist.netlist_of.Goals as goal

pub returns-in_err-feed_text-clause-netlist : goal.returns-in_err-feed_text-clause-netlist
returns-in_err-feed_text-clause-netlist c =
    let p = err_from_is_err_and c.from_residual-in_err-feed_text.result c.from_residual-in_err-feed_text.ensures.1 in
    rw (p.1, p.2) (text_stopped c.args.bytes.now (named_top c.args.top) c.in_err-feed_text.field-0.0 c.in_err-feed_text.ensures.decided)
