use Rattle.std.proofs.Common.{ℕ, ◌<◌}
use Rattle.std.specs.Prelude.{IsSome}
use Rattle.cvc_core.specs.State.{read_at}
use Rattle.cvc_core.proofs.guards.is_loaded.Given as goal

abbrev pub invariant-loop-read : goal.invariant-loop-read
invariant-loop-read l = (i : ℕ) → i < l.read → IsSome (read_at l.run i)
