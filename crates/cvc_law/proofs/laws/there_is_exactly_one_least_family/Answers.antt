use Rattle.cvc_law.proofs.LawsUnique.{exactly_one}
use Rattle.cvc_law.proofs.laws.there_is_exactly_one_least_family.Goals as goal

pub returns : goal.returns
returns c = exactly_one
