use Rattle.cvc_cdl.proofs.Peels.{user_noted}
use Rattle.cvc_cdl.proofs.endless.add_user.Goals as goal

pub loop-cell-preserved : goal.loop-cell-preserved
loop-cell-preserved c = user_noted c.args.users.now c.loop-cell.users c.args.used.now c.loop-cell.cell-index c.args.user c.push.new.self c.index-users-cell.result c.loop-cell-test.true c.requires c.loop-cell.auto.users c.in_ok-push.ensures.items c.loop-cell.invariant
