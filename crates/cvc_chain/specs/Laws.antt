-- What the text of a derivation log says, and that no other bytes are read as one.
use Rattle.std.specs.Prelude.{◌≡◌, ℕ, ◌≤◌, ◌↔◌, List, [], ◌∷◌, ◌++◌, length, All, Some, Ok, Err}
use Rattle.cvc_base.specs.declared.cause.Cause.TheVariants.{BadRow}
use Rattle.cvc_serial.specs.declared.log.LogLine.{LogLine}
use Rattle.cvc_chain.specs.Reading.{judged, limit, line_of, log_of}
use Rattle.cvc_chain.specs.Text.{IsLogLine, log_line, log_text}

-- a log's text is read as that log
abbrev pub LogsAreReadBack : Type 0
LogsAreReadBack = (log : List LogLine) → All IsLogLine log → length (log_text log) ≤ limit → log_of (log_text log) ≡ Ok log

-- and no other bytes are read
abbrev pub OnlyLogsAreRead : Type 0
OnlyLogsAreRead = (bytes : List ℕ) (log : List LogLine) → log_of bytes ≡ Ok log → All IsLogLine log × (bytes ≡ log_text log) × (length bytes ≤ limit)

-- this line, with its LF, is written of that log line
abbrev pub IsWritten : LogLine → List ℕ → Type 0
IsWritten l text = IsLogLine l × (text ++ 10 ∷ [] ≡ log_line l)

-- a line without its LF is read as a log line just where it is written of it
abbrev pub LinesAreWritten : Type 0
LinesAreWritten = (text : List ℕ) (l : LogLine) → (line_of text ≡ Some l) ↔ IsWritten l text

-- a line that ends there is a bad row just where the limit isn't passed and it is written of no log line
abbrev pub BadRowsAreNotWritten : Type 0
BadRowsAreNotWritten = (end : ℕ) (text : List ℕ) → (judged end text ≡ Err BadRow) ↔ ((end ≤ limit) × ((l : LogLine) → ¬ (IsWritten l text)))
