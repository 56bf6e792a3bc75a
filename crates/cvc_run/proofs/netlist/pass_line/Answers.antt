use Rattle.std.proofs.lemmas.Result.{err_from_is_err_and}
use Rattle.cvc_run.proofs.Passing.{passes_by, stops_at_line}
use Rattle.cvc_run.proofs.netlist.pass_line.Goals as goal

pub returns-in_err-card-clause-fault : goal.returns-in_err-card-clause-fault
returns-in_err-card-clause-fault c =
    let p = err_from_is_err_and c.from_residual.result c.from_residual.ensures.1 in
    rw (p.1, p.2) (stops_at_line c.args.builder.now c.args.line.now c.in_err-card.field-0.0 c.in_err-card.ensures.fault)

pub returns-clause-passed : goal.returns-clause-passed
returns-clause-passed c =
    (passes_by c.args.builder.now c.add.new.self c.args.line.now c.in_ok-card.card c.in_ok-card.ensures.card c.add.result c.add.ensures.stands c.add.ensures.refuses c.add.ensures.refused).0

pub returns-clause-fault : goal.returns-clause-fault
returns-clause-fault c =
    (passes_by c.args.builder.now c.add.new.self c.args.line.now c.in_ok-card.card c.in_ok-card.ensures.card c.add.result c.add.ensures.stands c.add.ensures.refuses c.add.ensures.refused).1
