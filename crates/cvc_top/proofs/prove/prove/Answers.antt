use Rattle.cvc_cdl.specs.Builder.{named_top}
use Rattle.cvc_top.proofs.Proving.{prove_answers}
use Rattle.cvc_top.proofs.prove.prove.Goals as goal

pub returns-clause-answer : goal.returns-clause-answer
returns-clause-answer g c =
    let run = c.prove_files-run in
    prove_answers (g.S.Shelf.files c.args.shelf.now) (named_top c.args.top) c.args.netlist.now c.args.models.now c.args.power.now run.result (g.S.Shelf.faults c.args.shelf.now) (g.S.Shelf.faults run.new.shelf) _ c.tell_run.result
    run.ensures.told run.ensures.cause c.tell_run.ensures.told
