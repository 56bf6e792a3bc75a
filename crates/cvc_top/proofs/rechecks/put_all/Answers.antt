use Rattle.std.proofs.Common.{◌++◌, Ok, Err}
use Rattle.std.specs.List.{flat_map}
use Rattle.std.proofs.lemmas.Result.{err_from_is_err_and}
use Rattle.cvc_text.proofs.Putting.{puts_then, puts_stopped}
use Rattle.cvc_top.specs.Rechecks.{head_line, last_ending, recheck_line, session_text}
use Rattle.cvc_top.proofs.rechecks.put_all.Goals as goal

pub returns-in_err-put_line : goal.returns-in_err-put_line
unfolding session_text
returns-in_err-put_line g c =
    let p = err_from_is_err_and c.from_residual.result c.from_residual.ensures.1 in
    let lines = flat_map recheck_line c.args.finished.now.rechecks in
    let last = (last_ending c.args.finished.now).text in
    rw p.1 (puts_stopped {T = Unit {0}} p.0 p.0 _ _ (head_line ++ lines) last (puts_stopped {T = Unit {0}} _ p.0 _ _ head_line lines c.in_err-put_line.ensures))

pub returns-in_err-put_each : goal.returns-in_err-put_each
unfolding session_text
returns-in_err-put_each g c =
    let p = err_from_is_err_and c.from_residual-in_err-put_each.result c.from_residual-in_err-put_each.ensures.1 in
    let lines = flat_map recheck_line c.args.finished.now.rechecks in
    let last = (last_ending c.args.finished.now).text in
    rw p.1 (puts_stopped {T = Unit {0}} c.in_err-put_each.field-0.0 p.0 _ _ (head_line ++ lines) last (puts_then _ (Err c.in_err-put_each.field-0.0) _ _ _ head_line lines c.in_ok-put_line.ensures (rw c.as_slice.ensures at c.in_err-put_each.ensures)))

pub returns : goal.returns
unfolding session_text
returns g c =
    let lines = flat_map recheck_line c.args.finished.now.rechecks in
    let last = (last_ending c.args.finished.now).text in
    puts_then _ c.put_last.result _ _ _ (head_line ++ lines) last (puts_then _ (Ok c.in_ok-put_each.field-0) _ _ _ head_line lines c.in_ok-put_line.ensures (rw c.as_slice.ensures at c.in_ok-put_each.ensures)) c.put_last.ensures
