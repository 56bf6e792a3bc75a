use Rattle.std.proofs.Common.{ap}
use Rattle.cvc_delta.specs.Session.{SessionView}
use Rattle.cvc_top.proofs.Rechecking.{next_done, none_done}
use Rattle.cvc_top.proofs.rechecks.do_edits.Goals as goal

pub loop-edit-init : goal.loop-edit-init
loop-edit-init c = rw c.new-rechecks.ensures (none_done c.args.session.now)

pub loop-edit-preserved : goal.loop-edit-preserved
loop-edit-preserved c =
    let same = c.in_ok-do_edit.ensures.same in
    next_done c.args.session.now c.args.edits.now c.loop-edit.edit-index c.edit-item.result c.edit-item.is c.loop-edit-test.true c.loop-edit.session c.do_edit.new.session c.loop-edit.rechecks
    c.do_edit.new.rechecks c.loop-edit.invariant (ap (λ (s : SessionView). s.flat) same) (ap (λ (s : SessionView). s.models) same) c.in_ok-do_edit.ensures.rows c.in_ok-do_edit.ensures.rechecks
