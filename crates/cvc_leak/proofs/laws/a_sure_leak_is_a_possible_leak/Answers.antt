use Rattle.cvc_law.specs.Network.{gate, end_a, end_b}
use Rattle.cvc_law.specs.Family.{interval_at}
use Rattle.cvc_leak.proofs.Leaks.{sure_is_possible, sure_is_possible_at}
use Rattle.cvc_leak.proofs.laws.a_sure_leak_is_a_possible_leak.Goals as goal

pub returns-clause-device : goal.returns-clause-device
returns-clause-device c = λ n f d. sure_is_possible d (interval_at f (gate d)) (interval_at f (end_a d)) (interval_at f (end_b d))

pub returns-clause-circuit : goal.returns-clause-circuit
returns-clause-circuit c = λ n f i circuit found. sure_is_possible_at n f i circuit found
