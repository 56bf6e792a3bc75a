-- A circuit that is to be settled, and what one mode gives, for proofs.
use Rattle.std.specs.Prelude.{◌≡◌}
use Rattle.cvc_judge.specs.Judged.{IsJudged}
use Rattle.cvc_judge.specs.declared.judged.Judged.{Judged}
use Rattle.cvc_law.specs.Network.{Network}
use Rattle.cvc_modes.specs.declared.check.Task.{Task}

abbrev pub circuit_to_settle : Task → Network
circuit_to_settle task = task.circuit

pub record IsResult (circuit : Network) (r : Judged) : Type 0 where
  pub kept : r.circuit ≡ circuit
  pub judged : IsJudged r
