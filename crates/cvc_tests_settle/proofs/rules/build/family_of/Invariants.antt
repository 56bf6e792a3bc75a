use Rattle.std.proofs.Common.{◌≡◌, vec_len}
use Rattle.cvc_tests_settle.proofs.rules.build.family_of.Given as goal

abbrev pub invariant-loop-bounds : goal.invariant-loop-bounds
invariant-loop-bounds l = vec_len l.intervals ≡ l.bounds-index
