use Rattle.std.proofs.Common.{◌∙◌}
use Rattle.cvc_core.proofs.Quiet.{quiet-least, quiet-least_intervals, step_stays, event_stays}
use Rattle.cvc_core.proofs.laws.a_quiet_state_is_the_least_family.Goals as goal

pub returns : goal.returns
returns c = record {
  reaches = quiet-least;
  intervals = quiet-least_intervals;
  steps_stay = λ c s k i a ok none e allowed. let same = step_stays c s ok none k i a e allowed in (same.0, same.1, same.2 ∙ none);
  stays = λ c s e ok none enabled. let same = event_stays c s ok none e enabled in (same.0, same.1, same.2 ∙ none);
}
