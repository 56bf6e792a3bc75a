use Rattle.std.proofs.Common.{◌++◌, Ok, Err}
use Rattle.std.specs.List.{flat_map, zip}
use Rattle.std.proofs.lemmas.Result.{err_from_is_err_and}
use Rattle.cvc_text.proofs.Putting.{puts_then, puts_stopped}
use Rattle.cvc_modes.specs.Text.{head_line, mode_text, modes_text, total_line}
use Rattle.cvc_modes.proofs.text.put_modes.Goals as goal

pub returns-in_err-put_line : goal.returns-in_err-put_line
unfolding modes_text
returns-in_err-put_line g c =
    let p = err_from_is_err_and c.from_residual.result c.from_residual.ensures.1 in
    let head = head_line c.args.rows.now in
    let each = flat_map (mode_text c.args.flat.now.list) (zip c.args.rows.now c.args.modes.now) in
    let total = total_line c.args.modes.now in
    rw p.1 (puts_stopped {T = Unit {0}} p.0 p.0 _ _ (head ++ each) total (puts_stopped {T = Unit {0}} _ p.0 _ _ head each c.in_err-put_line.ensures))

pub returns-in_err-put_each : goal.returns-in_err-put_each
unfolding modes_text
returns-in_err-put_each g c =
    let p = err_from_is_err_and c.from_residual-in_err-put_each.result c.from_residual-in_err-put_each.ensures.1 in
    let head = head_line c.args.rows.now in
    let each = flat_map (mode_text c.args.flat.now.list) (zip c.args.rows.now c.args.modes.now) in
    let total = total_line c.args.modes.now in
    rw p.1 (puts_stopped {T = Unit {0}} _ p.0 _ _ (head ++ each) total (puts_then _ (Err _) _ _ _ head each c.in_ok-put_line.ensures c.in_err-put_each.ensures))

pub returns : goal.returns
unfolding modes_text
returns g c =
    let head = head_line c.args.rows.now in
    let each = flat_map (mode_text c.args.flat.now.list) (zip c.args.rows.now c.args.modes.now) in
    let total = total_line c.args.modes.now in
    puts_then _ c.put_line-2.result _ _ _ (head ++ each) total (puts_then _ (Ok _) _ _ _ head each c.in_ok-put_line.ensures c.in_ok-put_each.ensures) (rw c.count_all.ensures at c.put_line-2.ensures)
