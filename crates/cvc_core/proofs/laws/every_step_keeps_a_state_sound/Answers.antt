use Rattle.cvc_core.proofs.EachStep.{step_keeps, split_keeps, join_keeps}
use Rattle.cvc_core.proofs.laws.every_step_keeps_a_state_sound.Goals as goal

pub returns : goal.returns
returns c = record {
  step = step_keeps;
  comes = split_keeps;
  goes = join_keeps;
}
