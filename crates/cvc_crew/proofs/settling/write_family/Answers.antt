use Rattle.std.proofs.Common.{arith}
use Rattle.std.proofs.lemmas.List.{ext_get_or}
use Rattle.cvc_law.specs.Family.{unknown}
use Rattle.cvc_crew.proofs.settling.write_family.Goals as goal

pub returns : goal.returns
returns c = ext_get_or unknown _ _ (omega arith) (λ i below. c.loop-n.invariant i (omega arith))
