use Rattle.cvc_core.specs.Start.{start}
use Rattle.cvc_core.proofs.EachStep.{events_keep}
use Rattle.cvc_core.proofs.Starting.{start_sound}
use Rattle.cvc_core.proofs.laws.every_reached_state_is_sound.Goals as goal

pub returns : goal.returns
returns c = λ c n es circuit few. events_keep c es (start c n) (start_sound c n circuit few)
