use Rattle.cvc_core.proofs.InMillivolts.{sound_family, sound_within}
use Rattle.cvc_core.proofs.laws.a_sound_state_is_within_the_least_family.Goals as goal

pub returns : goal.returns
returns c = record {
  family = sound_family;
  closed = sound_within;
  least = λ network s f ok least. sound_within network s f ok least.family least.closed;
}
