use Rattle.std.proofs.Common.{refl, arith}
use Rattle.cvc_units.proofs.Digits.{large_stays}
use Rattle.cvc_units.proofs.magnitude.append.Goals as goal

pub returns-then-count : goal.returns-then-count
returns-then-count c =
    (refl, large_stays _ _ c.loop-digit.count c.args.digits.now c.loop-digit.digit-index (omega arith) c.loop-digit.invariant.0 (omega arith))
