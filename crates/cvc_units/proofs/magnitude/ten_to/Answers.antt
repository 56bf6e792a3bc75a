use Rattle.std.proofs.Common.{refl, arith}
use Rattle.cvc_units.specs.declared.magnitude.TheConstants.{TENS}
use Rattle.cvc_units.proofs.Tens.{are_tens, ten_from_first}
use Rattle.cvc_units.proofs.magnitude.ten_to.Goals as goal

pub returns : goal.returns
unfolding are_tens
returns c = ten_from_first TENS c.args.zeros 0 refl (omega arith)
