use Rattle.std.proofs.Common.{◌≡◌, vec_len}
use Rattle.cvc_tests_settle.proofs.derivations.declared.Given as goal

abbrev pub invariant-loop-n : goal.invariant-loop-n
invariant-loop-n l = vec_len l.intervals ≡ l.n
