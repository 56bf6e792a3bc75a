use Rattle.std.proofs.Common.{Ok, ap, sym, ◌∙◌}
use Rattle.cvc_modes.specs.Checked.{IsBoundFrom}
use Rattle.cvc_modes.proofs.Results.{kept_all, results_are}
use Rattle.cvc_modes.proofs.check.check_modes.Goals as goal

pub returns-clause-circuits : goal.returns-clause-circuits
returns-clause-circuits g c =
    let are = results_are c.in_ok-tasks.tasks.items c.in_ok-gather.field-0 c.in_ok-checked.checked.items c.in_ok-checked.ensures.len c.in_ok-gather.ensures c.in_ok-checked.ensures.each in
    c.in_ok-tasks.ensures.circuits ∙ ap (λ cs. Ok cs) (sym are.kept)

pub returns-clause-judged : goal.returns-clause-judged
returns-clause-judged g c =
    let are = results_are c.in_ok-tasks.tasks.items c.in_ok-gather.field-0 c.in_ok-checked.checked.items c.in_ok-checked.ensures.len c.in_ok-gather.ensures c.in_ok-checked.ensures.each in
    are.judged

pub returns-clause-bound : goal.returns-clause-bound
returns-clause-bound g c =
    let are = results_are c.in_ok-tasks.tasks.items c.in_ok-gather.field-0 c.in_ok-checked.checked.items c.in_ok-checked.ensures.len c.in_ok-gather.ensures c.in_ok-checked.ensures.each in
    kept_all (IsBoundFrom c.args.flat.now.list) c.in_ok-tasks.tasks.items c.in_ok-gather.field-0 are.kept c.in_ok-tasks.ensures.bound
