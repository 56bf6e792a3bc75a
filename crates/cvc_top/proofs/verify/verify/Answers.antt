use Rattle.cvc_cdl.specs.Builder.{named_top}
use Rattle.cvc_top.specs.Certificates.{verify_files}
use Rattle.cvc_top.proofs.Verifying.{verified_right, verify_answers}
use Rattle.cvc_top.proofs.verify.verify.Goals as goal

pub returns-clause-answer : goal.returns-clause-answer
returns-clause-answer g c =
    let run = c.judge_files-run in
    let x = verify_files c.args.netlist.now c.args.models.now c.args.power.now c.args.log.now c.args.report.now (named_top c.args.top) c.args.nets in
    verify_answers (g.S.Shelf.files c.args.shelf.now) x run.result (g.S.Shelf.faults c.args.shelf.now) (g.S.Shelf.faults run.new.shelf) _ c.tell_run.result run.ensures.told run.ensures.cause c.tell_run.ensures.told

pub returns-clause-right : goal.returns-clause-right
returns-clause-right g c =
    let run = c.judge_files-run in
    let x = verify_files c.args.netlist.now c.args.models.now c.args.power.now c.args.log.now c.args.report.now (named_top c.args.top) c.args.nets in
    verified_right (g.S.Shelf.files c.args.shelf.now) x (g.S.Shelf.faults c.args.shelf.now) (g.S.Shelf.faults run.new.shelf) _ c.tell_run.result
    (verify_answers (g.S.Shelf.files c.args.shelf.now) x run.result (g.S.Shelf.faults c.args.shelf.now) (g.S.Shelf.faults run.new.shelf) _ c.tell_run.result run.ensures.told run.ensures.cause c.tell_run.ensures.told)
