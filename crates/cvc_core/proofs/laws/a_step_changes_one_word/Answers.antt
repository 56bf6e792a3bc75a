use Rattle.cvc_core.proofs.Moving.{found-put_same, found-put_other, found-put_actor}
use Rattle.cvc_core.proofs.laws.a_step_changes_one_word.Goals as goal

pub returns : goal.returns
returns c = record {
  same = found-put_same;
  other = found-put_other;
  actor = found-put_actor;
}
