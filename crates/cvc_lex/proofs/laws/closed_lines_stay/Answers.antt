use Rattle.std.proofs.Common.{◌++◌, sym, ap, ◌∙◌}
use Rattle.std.proofs.lemmas.List.{append_assoc}
use Rattle.cvc_lex.specs.Lines.{closed_so_far}
use Rattle.cvc_lex.proofs.Faults.{at_end_stays, so_far_stays}
use Rattle.cvc_lex.proofs.laws.closed_lines_stay.Goals as goal

pub returns-clause-later : goal.returns-clause-later
returns-clause-later c = λ file stream more. let x = so_far_stays file stream more in (x.0, sym x.1)

pub returns-clause-whole : goal.returns-clause-whole
returns-clause-whole c = λ file stream more.
    let x = so_far_stays file stream more in
    let y = at_end_stays file (stream ++ more) in
    (x.0 ++ y.0, sym (y.1 ∙ ap (λ ls. ls ++ y.0) x.1 ∙ append_assoc (closed_so_far file stream) x.0 y.0))
