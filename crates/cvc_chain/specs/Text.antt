-- The text of a derivation log: a line for each of its lines, with the device, the slot and the value in millivolts.
use Rattle.std.specs.Prelude.{ℕ, ◌<◌, ◌^◌, pos, neg_ℤ, ◌≤ℤ◌, List, [], ◌∷◌, decimal}
use Rattle.std.specs.Fmt.{signed_decimal}
use Rattle.std.specs.List.{flat_map}
use Rattle.cvc_text.specs.Lines.{line}
use Rattle.cvc_serial.specs.declared.log.LogLine.{LogLine}

abbrev pub log_line : LogLine → List ℕ
log_line l = line (decimal l.device ∷ decimal l.slot ∷ signed_decimal l.value ∷ [])

abbrev pub log_text : List LogLine → List ℕ
log_text log = flat_map log_line log

-- the numbers that a line may have
pub record IsLogLine (l : LogLine) : Type 0 where
  pub device : l.device < 2 ^ 32
  pub slot : l.slot < 4
  pub low : neg_ℤ (pos 1000000) ≤ℤ l.value
  pub high : l.value ≤ℤ pos 1000000
