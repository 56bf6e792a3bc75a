use Rattle.cvc_cdl.proofs.Peels.{use_left, use_taken, two_more}
use Rattle.cvc_cdl.proofs.endless.take_uses.Goals as goal

pub take_use-requires-clause-some : goal.take_use-requires-clause-some
take_use-requires-clause-some c = use_left c.args.left.now c.loop-user.left c.args.users.now c.loop-user.user-index c.loop-user-test.true c.requires.enough c.loop-user.invariant.taken

pub loop-user-preserved : goal.loop-user-preserved
loop-user-preserved c = record {
  taken = use_taken c.args.left.now c.loop-user.left c.take_use.new.left c.args.users.now c.loop-user.user-index c.loop-user-test.true c.requires.below c.loop-user.auto.left c.requires.enough c.in_ok-take_use.ensures.left c.loop-user.invariant.taken;
  listed = c.in_ok-take_use.ensures.listed;
  more = two_more _ _ _ c.loop-user.invariant.more c.in_ok-take_use.ensures.more;
}
