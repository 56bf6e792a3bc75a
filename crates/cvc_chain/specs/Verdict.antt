-- The verdict on a log and the bytes of a report: the first line that isn't justified, else the first device at which the log's family isn't closed, else the
-- first byte at which the report of that family and the bytes differ, else yes.
use Rattle.std.specs.Prelude.{ℕ, ◌≡◌, ◌<◌, Bool, List}
use Rattle.cvc_flat.specs.Flat.{FlatList}
use Rattle.cvc_law.specs.declared.interval.Interval.{Interval}
use Rattle.cvc_law.specs.Network.{Network, devices}
use Rattle.cvc_law.specs.Least.{IsClosed, IsClosedAtNumber, IsLeast}
use Rattle.cvc_report.specs.Report.{report}
use Rattle.cvc_serial.specs.declared.log.LogLine.{LogLine}
use Rattle.cvc_serial.specs.Derivation.{IsComplete, family_of}
use Rattle.cvc_chain.specs.Differing.{DiffersAt}
use Rattle.cvc_chain.specs.Replay.{IsJustifiedLog, StopsAt}
use Rattle.cvc_chain.specs.declared.verdict.Verdict.{Verdict}
use Rattle.cvc_chain.specs.declared.verdict.Verdict.TheVariants.{Yes, Line, Device, Byte}

-- the device is the first at which the family isn't closed
pub record IsFirstNotClosed (c : Network) (f : List Interval) (i : ℕ) : Type 0 where
  pub inside : i < devices c
  pub not_closed : IsClosedAtNumber c f i → ⊥
  pub before : (j : ℕ) → j < i → IsClosedAtNumber c f j

-- the report of a log's family
abbrev pub report_of : Network → FlatList → List LogLine → Bool → List ℕ
report_of c flat log with_nets = report c flat (family_of c log) with_nets

abbrev pub Says : Network → FlatList → List LogLine → Bool → List ℕ → Verdict → Type 0
Says c flat log with_nets bytes (Line k) = StopsAt c log k
Says c flat log with_nets bytes (Device d) = IsJustifiedLog c log × IsFirstNotClosed c (family_of c log) d.0
Says c flat log with_nets bytes (Byte b) = IsJustifiedLog c log × IsComplete c log × DiffersAt bytes (report_of c flat log with_nets) b
Says c flat log with_nets bytes Yes = IsJustifiedLog c log × IsComplete c log × (bytes ≡ report_of c flat log with_nets)

-- the verdict, where each line is justified and this is the log's family
abbrev pub IsOnReport : Network → FlatList → List Interval → Bool → List ℕ → Verdict → Type 0
IsOnReport c flat f with_nets bytes (Line k) = ⊥
IsOnReport c flat f with_nets bytes (Device d) = IsFirstNotClosed c f d.0
IsOnReport c flat f with_nets bytes (Byte b) = IsClosed c f × DiffersAt bytes (report c flat f with_nets) b
IsOnReport c flat f with_nets bytes Yes = IsClosed c f × (bytes ≡ report c flat f with_nets)

-- the bytes are the report of the least family
pub record IsRightReport (c : Network) (flat : FlatList) (with_nets : Bool) (bytes : List ℕ) : Type 0 where
  pub family : List Interval
  pub least : IsLeast c family
  pub text : bytes ≡ report c flat family with_nets

-- a yes says so
abbrev pub IsRightWhereYes : Network → FlatList → Bool → List ℕ → Verdict → Type 0
IsRightWhereYes c flat with_nets bytes Yes = IsRightReport c flat with_nets bytes
IsRightWhereYes c flat with_nets bytes _ = Unit {0}
