use Rattle.cvc_cdl.specs.Builder.{named_top}
use Rattle.cvc_top.specs.Sessions.{session_files}
use Rattle.cvc_top.proofs.Sessions.{done_answers, unread_answers}
use Rattle.cvc_top.proofs.session.session.Goals as goal

pub returns-in-Ok-clause-answer : goal.returns-in-Ok-clause-answer
returns-in-Ok-clause-answer g c =
    let x = session_files c.args.netlist.now c.args.models.now c.args.power.now c.args.edits.now (named_top c.args.top) in
    done_answers (g.S.Shelf.files c.args.shelf.now) x c.args.nets c.in-Ok.inputs c.in-Ok.ensures.said c.run_edits.result (g.S.Shelf.faults c.args.shelf.now) (g.S.Shelf.faults c.read_inputs.new.shelf) _
    c.tell_run.result c.run_edits.ensures.never_at c.run_edits.ensures.finished c.run_edits.ensures.unread c.tell_run.ensures.told

pub returns-in-Err-clause-answer : goal.returns-in-Err-clause-answer
returns-in-Err-clause-answer g c =
    let x = session_files c.args.netlist.now c.args.models.now c.args.power.now c.args.edits.now (named_top c.args.top) in
    unread_answers (g.S.Shelf.files c.args.shelf.now) x c.args.nets c.in-Err.stop (g.S.Shelf.faults c.args.shelf.now) (g.S.Shelf.faults c.read_inputs.new.shelf) _ c.tell_run-in-Err.result c.in-Err.ensures.own
    c.in-Err.ensures.said c.in-Err.ensures.cause c.tell_run-in-Err.ensures.told
