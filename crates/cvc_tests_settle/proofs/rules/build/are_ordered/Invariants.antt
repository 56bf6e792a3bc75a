use Rattle.std.proofs.Common.{◌≡◌, ◌<◌, ℕ, Some, None, get_or}
use Rattle.std.specs.Prelude.{◌≤ℤ◌}
use Rattle.cvc_law.specs.declared.interval.Fixed.{Fixed}
use Rattle.cvc_tests_settle.proofs.rules.build.are_ordered.Given as goal

abbrev pub invariant-loop-declared : goal.invariant-loop-declared
invariant-loop-declared l = (k : ℕ) (w : Fixed) → k < l.declared-index → get_or l.fixed k None ≡ Some w → w.low ≤ℤ w.high
