use Rattle.std.proofs.Common.{sym, ap, ◌∙◌}
use Rattle.cvc_delta.specs.Edits.{after_all, has_row}
use Rattle.cvc_delta.proofs.Editing.{after_all_push}
use Rattle.cvc_delta.proofs.reading.EditsJudgeJudge.judge.Goals as goal

pub returns-clause-knows : goal.returns-clause-knows
returns-clause-knows c edits left name =
    let power = c.args.self.now.power.now in
    c.in_ok-edit_names.ensures.left (after_all power edits) left name ∙ ap (λ rows. has_row rows name) (sym (after_all_push power edits c.in_ok-edit.edit))
