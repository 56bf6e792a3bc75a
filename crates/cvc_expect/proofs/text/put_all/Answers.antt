use Rattle.std.proofs.Common.{[], ◌∷◌, ◌++◌}
use Rattle.std.specs.Prelude.{Ok, Err, codes}
use Rattle.std.specs.List.{flat_map}
use Rattle.std.proofs.lemmas.Result.{err_from_is_err_and}
use Rattle.cvc_text.specs.Lines.{line}
use Rattle.cvc_text.proofs.Putting.{puts_then, puts_stopped}
use Rattle.cvc_expect.specs.Text.{count_line, missed_line, missed_text}
use Rattle.cvc_expect.proofs.text.put_all.Goals as goal

pub returns-in_err-put_line : goal.returns-in_err-put_line
unfolding missed_text
returns-in_err-put_line g c =
    let p = err_from_is_err_and c.from_residual.result c.from_residual.ensures.1 in
    let head = line (codes "CVC expectations" ∷ []) in
    let lines = flat_map (missed_line c.args.expected.now) c.args.list.now in
    rw p.1 (puts_stopped {T = Unit {0}} p.0 p.0 _ _ (head ++ lines) (count_line c.args.list.now) (puts_stopped {T = Unit {0}} _ p.0 _ _ head lines c.in_err-put_line.ensures))

pub returns-in_err-put_each : goal.returns-in_err-put_each
unfolding missed_text
returns-in_err-put_each g c =
    let p = err_from_is_err_and c.from_residual-in_err-put_each.result c.from_residual-in_err-put_each.ensures.1 in
    let head = line (codes "CVC expectations" ∷ []) in
    let lines = flat_map (missed_line c.args.expected.now) c.args.list.now in
    rw p.1 (puts_stopped {T = Unit {0}} _ p.0 _ _ (head ++ lines) (count_line c.args.list.now) (puts_then _ (Err _) _ _ _ head lines c.in_ok-put_line.ensures c.in_err-put_each.ensures))

pub returns : goal.returns
unfolding missed_text
returns g c =
    let head = line (codes "CVC expectations" ∷ []) in
    let lines = flat_map (missed_line c.args.expected.now) c.args.list.now in
    puts_then _ c.put_count.result _ _ _ (head ++ lines) (count_line c.args.list.now) (puts_then _ (Ok _) _ _ _ head lines c.in_ok-put_line.ensures c.in_ok-put_each.ensures) c.put_count.ensures
