use Rattle.std.proofs.Common.{◌≡◌, ℕ, ◌<◌}
use Rattle.cvc_law.specs.Family.{interval_at}
use Rattle.cvc_field.specs.Closings.{family_of}
use Rattle.cvc_crew.proofs.settling.write_family.Given as goal

abbrev pub invariant-loop-n : goal.invariant-loop-n
invariant-loop-n l = (i : ℕ) → i < l.n → interval_at l.intervals i ≡ interval_at (family_of l.closed) i
