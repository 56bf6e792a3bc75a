use Rattle.cvc_bias.proofs.at.excess_at.Goals as goal

pub returns-in-ForwardBias : goal.returns-in-ForwardBias
returns-in-ForwardBias c = λ n. rw c.in-ForwardBias.is (c.forward_bias.ensures n)
