use Rattle.std.proofs.Common.{get_or, refl}
use Rattle.std.proofs.lemmas.Result.{err_from_is_err_and}
use Rattle.cvc_text.proofs.Putting.{item_put, item_stopped, nothing_put}
use Rattle.cvc_top.specs.declared.rechecks.Found.TheVariants.{Errors}
use Rattle.cvc_top.specs.declared.rechecks.Recheck.{Recheck}
use Rattle.cvc_top.specs.Rechecks.{recheck_line}
use Rattle.cvc_top.proofs.rechecks.put_each.Goals as goal

-- what stands at a place behind the rechecks
abbrev none : Recheck
none = record { number = 0; found = Errors 0 }

pub returns-in_err-put_recheck : goal.returns-in_err-put_recheck
returns-in_err-put_recheck g c =
    let p = err_from_is_err_and c.from_residual.result c.from_residual.ensures.1 in
    let list = c.args.rechecks.now in
    let i = c.loop-recheck.recheck-index in
    rw p.1 (item_stopped recheck_line list i (get_or list i none) none c.in_err-put_recheck.field-0.0 p.0 _ _ _ refl c.loop-recheck-test.true c.loop-recheck.invariant c.in_err-put_recheck.ensures)

pub loop-recheck-preserved : goal.loop-recheck-preserved
loop-recheck-preserved g c =
    let list = c.args.rechecks.now in
    let i = c.loop-recheck.recheck-index in
    item_put recheck_line list i (get_or list i none) none c.in_ok-put_recheck.field-0 _ _ _ refl c.loop-recheck-test.true c.loop-recheck.invariant c.in_ok-put_recheck.ensures

pub loop-recheck-init : goal.loop-recheck-init
loop-recheck-init g c = nothing_put _
