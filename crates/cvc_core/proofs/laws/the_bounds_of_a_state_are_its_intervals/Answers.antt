use Rattle.cvc_core.proofs.InMillivolts.{bounds_are}
use Rattle.cvc_core.proofs.laws.the_bounds_of_a_state_are_its_intervals.Goals as goal

pub returns : goal.returns
returns c = bounds_are
