use Rattle.cvc_core.proofs.Starting.{start_sound, start_at, start_unknown}
use Rattle.cvc_core.proofs.laws.the_start_is_sound.Goals as goal

pub returns : goal.returns
returns c = record {
  sound = start_sound;
  declared = start_at;
  unknown = start_unknown;
}
