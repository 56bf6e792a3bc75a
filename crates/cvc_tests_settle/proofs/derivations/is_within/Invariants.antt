use Rattle.std.proofs.Common.{◌<◌, ℕ}
use Rattle.cvc_law.specs.Family.{interval_at}
use Rattle.cvc_law.specs.Monotone.{IsAsWide}
use Rattle.cvc_tests_settle.proofs.derivations.is_within.Given as goal

abbrev pub invariant-loop-n : goal.invariant-loop-n
invariant-loop-n l = (k : ℕ) → k < l.n → IsAsWide (interval_at l.family k) (interval_at l.other k)
