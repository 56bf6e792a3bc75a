use Rattle.cvc_core.proofs.Keeping.{credits-le-count}
use Rattle.cvc_core.proofs.Quiet.{count-le}
use Rattle.cvc_core.proofs.laws.the_count_is_bounded.Goals as goal

pub returns : goal.returns
returns c = record {
  credits = credits-le-count;
  most = count-le;
}
