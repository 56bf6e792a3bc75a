use Rattle.cvc_law.proofs.LawsMonotone.{monotone}
use Rattle.cvc_law.proofs.laws.conduction_is_monotone.Goals as goal

pub returns : goal.returns
returns c = λ network d slot r s v drop first second wider is. monotone network d r s drop first second wider slot v is
