use Rattle.cvc_leak.proofs.at.figures_at.Goals as goal

pub returns-in-SureLeak : goal.returns-in-SureLeak
returns-in-SureLeak c = rw c.in-SureLeak.is (c.sure_leak.ensures c.args.circuit.now)
