use Rattle.cvc_run.proofs.Fronts.{front_told}
use Rattle.cvc_run.proofs.telling.tell.Goals as goal

pub returns-in-Err-clause-ends : goal.returns-in-Err-clause-ends
returns-in-Err-clause-ends g c = front_told (g.T.Told.told c.args.told.now) _ _ _ _ c.in-Err.ensures.written c.in-Err.ensures.cause.failed
