use Rattle.cvc_law.proofs.LawsUnique.{closed_within}
use Rattle.cvc_law.proofs.laws.a_closed_family_within_the_least_is_the_least.Goals as goal

pub returns : goal.returns
returns c = closed_within
