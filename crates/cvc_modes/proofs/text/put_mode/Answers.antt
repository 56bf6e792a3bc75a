use Rattle.std.proofs.Common.{[], ◌∷◌, false, codes, Ok, Err}
use Rattle.std.proofs.lemmas.Result.{err_from_is_err_and}
use Rattle.cvc_report.specs.Report.{report}
use Rattle.cvc_text.specs.Lines.{line}
use Rattle.cvc_text.proofs.Putting.{puts_then, puts_stopped}
use Rattle.cvc_modes.proofs.text.put_mode.Goals as goal

pub returns-in_err-put_line : goal.returns-in_err-put_line
returns-in_err-put_line g c =
    let p = err_from_is_err_and c.from_residual.result c.from_residual.ensures.1 in
    let name = line (codes "mode" ∷ c.args.row.now.name ∷ []) in
    let told = report c.args.mode.now.circuit c.args.flat.now.list c.args.mode.now.family false in
    rw p.1 (puts_stopped {T = Unit {0}} _ p.0 _ _ name told (rw c.bytes.ensures at c.in_err-put_line.ensures))

pub returns : goal.returns
returns g c =
    let name = line (codes "mode" ∷ c.args.row.now.name ∷ []) in
    let told = report c.args.mode.now.circuit c.args.flat.now.list c.args.mode.now.family false in
    puts_then _ c.put_report.result _ _ _ name told (rw c.bytes.ensures at c.in_ok-put_line.ensures) c.put_report.ensures
