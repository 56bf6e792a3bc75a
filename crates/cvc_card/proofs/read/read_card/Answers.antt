use Rattle.cvc_card.proofs.Formed.{formed}
use Rattle.cvc_card.proofs.read.read_card.Goals as goal

pub returns-in-Ok-clause-formed : goal.returns-in-Ok-clause-formed
returns-in-Ok-clause-formed c = formed c.args.line.now c.in-Ok.card c.in-Ok.ensures
