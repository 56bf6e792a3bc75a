use Rattle.std.proofs.lemmas.Result.{err_from_is_err_and}
use Rattle.cvc_cdl.specs.Builder.{named_top}
use Rattle.cvc_cdl.specs.declared.netlist.Netlist.{Netlist}
use Rattle.cvc_run.proofs.Loading.{read_through}
use Rattle.cvc_run.proofs.Netlists.{at_this_top, netlist_loaded}
use Rattle.cvc_run.proofs.netlist.load_netlist.Goals as goal

pub returns-in_err-feed_file-clause-netlist : goal.returns-in_err-feed_file-clause-netlist
returns-in_err-feed_file-clause-netlist g c =
    let p = err_from_is_err_and c.from_residual-in_err-feed_file.result c.from_residual-in_err-feed_file.ensures.1 in
    rw (p.1, p.2)
    (at_this_top (g.S.Shelf.files c.args.shelf.now) c.args.name.now (named_top c.args.top) c.in_err-feed_file.field-0.0 c.in_err-feed_file.ensures.decided)

pub returns-in_err-feed_file-clause-cause : goal.returns-in_err-feed_file-clause-cause
returns-in_err-feed_file-clause-cause g c =
    let p = err_from_is_err_and c.from_residual-in_err-feed_file.result c.from_residual-in_err-feed_file.ensures.1 in
    rw (p.1, p.2) (read_through (Unit {0}) Netlist c.in_err-feed_file.field-0.0 _ _ (λ rose. rose) c.in_err-feed_file.ensures.cause)

pub returns-clause-netlist : goal.returns-clause-netlist
returns-clause-netlist g c =
    rw c.as_load.ensures
    (netlist_loaded (g.S.Shelf.files c.args.shelf.now) c.args.name.now (named_top c.args.top) c.feed_file.new.reader c.finish.result c.in_ok-feed_file.ensures.read c.finish.ensures.netlist)
