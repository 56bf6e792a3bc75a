use Rattle.cvc_cdl.specs.Builder.{named_top}
use Rattle.cvc_top.specs.Expectations.{expect_files}
use Rattle.cvc_top.proofs.Expecting.{expect_answers}
use Rattle.cvc_top.proofs.expect.expect.Goals as goal

pub returns-clause-answer : goal.returns-clause-answer
returns-clause-answer g c =
    let run = c.compare_files-run in
    let x = expect_files c.args.netlist.now c.args.models.now c.args.power.now c.args.expected.now (named_top c.args.top) in
    expect_answers (g.S.Shelf.files c.args.shelf.now) x run.result (g.S.Shelf.faults c.args.shelf.now) (g.S.Shelf.faults run.new.shelf) _ c.tell_run.result run.ensures.told run.ensures.cause c.tell_run.ensures.told
