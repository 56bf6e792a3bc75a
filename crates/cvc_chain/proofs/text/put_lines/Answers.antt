use Rattle.std.proofs.Common.{sym}
use Rattle.std.proofs.lemmas.List.{take_all}
use Rattle.std.proofs.lemmas.Result.{err_from_is_err_and}
use Rattle.cvc_text.proofs.Putting.{item_put, item_stopped}
use Rattle.cvc_chain.specs.Text.{log_line}
use Rattle.cvc_chain.proofs.text.put_lines.Goals as goal

pub returns-in_err-put_line : goal.returns-in_err-put_line
returns-in_err-put_line g c =
    let p = err_from_is_err_and c.from_residual.result c.from_residual.ensures.1 in
    rw p.1 (item_stopped log_line c.args.log.now c.loop-line.line-index c.line-item.result _ _ p.0 _ _ _ c.line-item.is c.loop-line-test.true c.loop-line.invariant c.in_err-put_line.ensures)

pub loop-line-preserved : goal.loop-line-preserved
loop-line-preserved g c = item_put log_line c.args.log.now c.loop-line.line-index c.line-item.result _ _ _ _ _ c.line-item.is c.loop-line-test.true c.loop-line.invariant c.in_ok-put_line.ensures

pub returns : goal.returns
returns g c = rw (sym (take_all c.loop-line.line-index c.args.log.now c.loop-line-test.false)) c.loop-line.invariant
