use Rattle.cvc_bias.proofs.at.mos_excess.Goals as goal

pub returns-in-SourceBulk : goal.returns-in-SourceBulk
returns-in-SourceBulk c = λ n. rw c.in-SourceBulk.is (c.junction_bias.ensures n)
