use Rattle.cvc_core.proofs.Moving.{bound_moves, bounds_widen}
use Rattle.cvc_core.proofs.laws.bounds_only_widen.Goals as goal

pub returns : goal.returns
returns c = record {
  moved = bound_moves;
  wider = bounds_widen;
}
