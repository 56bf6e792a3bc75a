-- Reading a log. Its bytes are cut at each LF, which belongs to the line that it ends. A line is read where it is just what is written of a log line: three
-- words with one blank between each two, the device below 2^32, the slot below 4 and the value in millivolts. Bytes behind the last LF are a line that isn't
-- ended, so none of a log's. The first fault is by line; on one line the limit of the file goes first.
use Rattle.std.specs.Prelude.{ℕ, ◌+◌, ◌^◌, ◌==◌, ◌&&◌, Bool, nat_lt, ℤ, pos, neg_ℤ, List, [], ◌∷◌, ◌++◌, length, take, drop, Option, Some, None, Result, Ok, Err, if◌then◌else◌}
use Rattle.std.specs.List.{position, slice_split}
use Rattle.std.specs.Str.Parse.{digits_value}
use Rattle.cvc_base.specs.declared.cause.Cause.{Cause}
use Rattle.cvc_base.specs.declared.cause.Cause.TheVariants.{FileTooLong, BadRow}
use Rattle.cvc_base.specs.Order.{◌>>=◌}
use Rattle.cvc_rows.specs.declared.refused.LineFault.{LineFault}
use Rattle.cvc_rows.specs.Rows.{at_line}
use Rattle.cvc_serial.specs.declared.log.LogLine.{LogLine}
use Rattle.cvc_words.specs.Number.{is_number}

-- ## Words

-- the number that a word writes in decimal, where it is below this one
abbrev pub number_below : ℕ → List ℕ → Option ℕ
number_below end word = if is_number word && nat_lt (digits_value 10 word) end then Some (digits_value 10 word) else None

-- the voltage of that size, above or below 0
abbrev pub above_zero : Option ℕ → Option ℤ
above_zero None = None
above_zero (Some size) = Some (pos size)

abbrev pub below_zero : Option ℕ → Option ℤ
below_zero None = None
below_zero (Some size) = if size == 0 then None else Some (neg_ℤ (pos size))

-- `-` stands only before a number that isn't 0
abbrev pub voltage_of : List ℕ → Option ℤ
voltage_of [] = None
voltage_of (first ∷ digits) = if first == 45 then below_zero (number_below 1000001 digits) else above_zero (number_below 1000001 (first ∷ digits))

abbrev pub line_from : Option ℕ → Option ℕ → Option ℤ → Option LogLine
line_from (Some device) (Some slot) (Some value) = Some (record { device = device; slot = slot; value = value })
line_from _ _ _ = None

abbrev pub line_of_words : List ℕ → List ℕ → List ℕ → Option LogLine
line_of_words device slot value = line_from (number_below (2 ^ 32) device) (number_below 4 slot) (voltage_of value)

-- ## Lines

abbrev pub is_blank : ℕ → Bool
is_blank b = b == 32

abbrev pub is_line_feed : ℕ → Bool
is_line_feed b = b == 10

-- the words at the second blank behind the first one
abbrev pub cut_again : Option ℕ → List ℕ → List ℕ → Option LogLine
cut_again None device others = None
cut_again (Some place) device others = line_of_words device (take place others) (drop (place + 1) others)

abbrev pub cut_first : Option ℕ → List ℕ → Option LogLine
cut_first None text = None
cut_first (Some place) text = cut_again (position is_blank (drop (place + 1) text)) (take place text) (drop (place + 1) text)

-- the log line that a line without its LF writes: its words stand before its first blank, before the next one, and behind that
unfoldable pub line_of : List ℕ → Option LogLine
line_of text = cut_first (position is_blank text) text

-- the most bytes of a log
abbrev pub limit : ℕ
limit = 134217728

abbrev pub or_bad_row : Option LogLine → Result LogLine Cause
or_bad_row None = Err BadRow
or_bad_row (Some line) = Ok line

-- a line that ends there
abbrev pub judged : ℕ → List ℕ → Result LogLine Cause
judged end text = if nat_lt limit end then Err FileTooLong else or_bad_row (line_of text)

-- what stands behind the last LF, and ends there
abbrev pub unended : ℕ → List ℕ → Result (Unit {0}) Cause
unended end [] = Ok tt
unended end text = if nat_lt limit end then Err FileTooLong else Err BadRow

-- these lines, and those of the texts that come behind them from this byte on; or the first fault
unfoldable pub log_behind : List LogLine → ℕ → List (List ℕ) → Result (List LogLine) (LineFault Cause)
log_behind log start [] = Ok log
log_behind log start (text ∷ []) = do
  ended ← at_line (length log + 1) (unended (start + length text) text)
  Ok log
log_behind log start (text ∷ next ∷ texts) = do
  line ← at_line (length log + 1) (judged (start + length text + 1) text)
  log_behind (log ++ line ∷ []) (start + length text + 1) (next ∷ texts)

-- the log of these bytes, or its first fault
unfoldable pub log_of : List ℕ → Result (List LogLine) (LineFault Cause)
log_of bytes = log_behind [] 0 (slice_split is_line_feed bytes)
