use Rattle.std.proofs.lemmas.Result.{err_from_is_err_and}
use Rattle.cvc_text.proofs.Putting.{item_put, item_stopped, nothing_put}
use Rattle.cvc_expect.specs.Text.{missed_line}
use Rattle.cvc_expect.proofs.text.put_each.Goals as goal

pub returns-in_err-put_missed : goal.returns-in_err-put_missed
returns-in_err-put_missed g c =
    let p = err_from_is_err_and c.from_residual.result c.from_residual.ensures.1 in
    rw p.1 (item_stopped (missed_line c.args.expected.now) c.args.list.now c.loop-missed.missed-index c.missed-item.result c.missed-item.result c.in_err-put_missed.field-0.0 p.0 _ _ _ c.missed-item.is c.loop-missed-test.true c.loop-missed.invariant c.in_err-put_missed.ensures)

pub loop-missed-preserved : goal.loop-missed-preserved
loop-missed-preserved g c = item_put (missed_line c.args.expected.now) c.args.list.now c.loop-missed.missed-index c.missed-item.result c.missed-item.result c.in_ok-put_missed.field-0 _ _ _ c.missed-item.is c.loop-missed-test.true c.loop-missed.invariant c.in_ok-put_missed.ensures

pub loop-missed-init : goal.loop-missed-init
loop-missed-init g c = nothing_put _
