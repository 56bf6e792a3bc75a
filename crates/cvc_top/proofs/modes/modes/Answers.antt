use Rattle.cvc_cdl.specs.Builder.{named_top}
use Rattle.cvc_top.specs.ModesHeld.{listed_view}
use Rattle.cvc_top.proofs.ModesTold.{listed_answers, stopped_answers}
use Rattle.cvc_top.proofs.modes.modes.Goals as goal

pub returns-in-Ok-clause-answer : goal.returns-in-Ok-clause-answer
returns-in-Ok-clause-answer g c =
    let same = c.in-Ok.ensures.shelf.files in
    listed_answers (g.S.Shelf.files c.args.shelf.now) (named_top c.args.top) c.args.netlist.now c.args.models.now c.args.list.now (listed_view c.in-Ok.listed) c.in-Ok.ensures.said c.check_listed-run.result
    (g.S.Shelf.faults c.args.shelf.now) (g.S.Shelf.faults c.read_listed.new.shelf) (g.S.Shelf.faults c.check_listed-run.new.shelf) _ c.tell_modes.result c.in-Ok.ensures.shelf.counts
    c.check_listed-run.ensures.judged (rw same at c.check_listed-run.ensures.said) (rw same at c.check_listed-run.ensures.cause) c.tell_modes.ensures.told

pub returns-in-Err-clause-answer : goal.returns-in-Err-clause-answer
returns-in-Err-clause-answer g c =
    stopped_answers (g.S.Shelf.files c.args.shelf.now) (named_top c.args.top) c.args.netlist.now c.args.models.now c.args.list.now c.in-Err.stop
    (g.S.Shelf.faults c.args.shelf.now) (g.S.Shelf.faults c.read_listed.new.shelf) _ c.tell_run.result c.in-Err.ensures.status c.in-Err.ensures.said c.in-Err.ensures.cause c.tell_run.ensures.told
