-- A log that is replayed line by line: its family where each line is justified, or else the first line that isn't.
use Rattle.std.specs.Prelude.{ℕ, zero, suc, ◌≡◌, List, [], ◌∷◌, length}
use Rattle.cvc_law.specs.declared.interval.Interval.{Interval}
use Rattle.cvc_law.specs.Network.{Network, nets}
use Rattle.cvc_serial.specs.declared.log.LogLine.{LogLine}
use Rattle.cvc_serial.specs.Derivation.{IsJustified, AreJustified, declared_family, family_of, with_line}
use Rattle.cvc_chain.specs.declared.replay.Replayed.{Replayed}
use Rattle.cvc_chain.specs.declared.replay.Replayed.TheVariants.{Whole, Line}

-- behind k lines that are justified stands one that isn't
abbrev pub IsUnjustifiedAt : Network → List Interval → List LogLine → ℕ → Type 0
IsUnjustifiedAt c f [] k = ⊥
IsUnjustifiedAt c f (l ∷ ls) zero = IsJustified c f l → ⊥
IsUnjustifiedAt c f (l ∷ ls) (suc k) = IsJustified c f l × IsUnjustifiedAt c (with_line c f l) ls k

-- this is the first line that isn't justified; lines count from 1
abbrev pub StopsAt : Network → List LogLine → ℕ → Type 0
StopsAt c log zero = ⊥
StopsAt c log (suc k) = IsUnjustifiedAt c (declared_family c) log k

abbrev pub IsJustifiedLog : Network → List LogLine → Type 0
IsJustifiedLog c log = AreJustified c (declared_family c) log

-- each line is justified, and this is the log's family
pub record IsReplayed (c : Network) (log : List LogLine) (f : List Interval) : Type 0 where
  pub justified : IsJustifiedLog c log
  pub family : f ≡ family_of c log
  pub every_net : length f ≡ nets c

abbrev pub IsReplay : Network → List LogLine → Replayed → Type 0
IsReplay c log (Whole f) = IsReplayed c log f
IsReplay c log (Line k) = StopsAt c log k
