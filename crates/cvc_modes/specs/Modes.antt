-- The rows of a list of modes, or its first fault. A row is `MODE POWERFILE`, and the lines are those of a power file. The cause of a line is BadRow where
-- it has not two tokens, then TwiceRow where an earlier row has the same mode, byte by byte, then TooMany where sixteen rows stand before it.
use Rattle.std.specs.Prelude.{ℕ, nat_lt, List, [], ◌∷◌, length, map, Result, Ok, Err, if◌then◌else◌}
use Rattle.cvc_base.specs.declared.cause.Cause.{Cause}
use Rattle.cvc_base.specs.declared.cause.Cause.TheVariants.{BadRow, TwiceRow}
use Rattle.cvc_base.specs.declared.fault.FileKind.TheVariants.{Power}
use Rattle.cvc_base.specs.declared.line.Line.{Line}
use Rattle.cvc_base.specs.Order.{◌>>=◌}
use Rattle.cvc_names.specs.Names.{is_among}
use Rattle.cvc_rows.specs.Rows.{rows_of}
use Rattle.cvc_rows.specs.Tokens.{texts_of}
use Rattle.cvc_rows.specs.declared.refused.LineFault.{LineFault}
use Rattle.cvc_modes.specs.declared.fault.ListCause.{ListCause}
use Rattle.cvc_modes.specs.declared.fault.ListCause.TheVariants.{Text, TooMany}
use Rattle.cvc_modes.specs.declared.row.ModeRow.{ModeRow}

abbrev pub most_modes : ℕ
most_modes = 16

abbrev pub row_with : ℕ → List ℕ → List ℕ → ModeRow
row_with line name file = record { name = name; file = file; line = line }

-- the row of a line with these texts by itself
unfoldable pub row_in : ℕ → List (List ℕ) → Result ModeRow ListCause
row_in line (name ∷ file ∷ []) = Ok (row_with line name file)
row_in line _ = Err (Text BadRow)

abbrev pub row_of : Line → Result ModeRow ListCause
row_of line = row_in line.first (texts_of line.tokens)

abbrev pub name_of : ModeRow → List ℕ
name_of row = row.name

-- the row, unless one of these has its mode
abbrev pub unless_twice : List ModeRow → ModeRow → Result ModeRow ListCause
unless_twice rows row = if is_among (map name_of rows) row.name then Err (Text TwiceRow) else Ok row

-- the row, unless these are as many as a list has at most
abbrev pub unless_full : List ModeRow → ModeRow → Result ModeRow ListCause
unless_full rows row = if nat_lt (length rows) most_modes then Ok row else Err TooMany

-- the verdict on a line behind these rows
abbrev pub verdict : List ModeRow → Line → Result ModeRow ListCause
verdict rows line = do
  row ← row_of line
  new ← unless_twice rows row
  unless_full rows new

-- a cause as any file has it
abbrev pub told : Cause → ListCause
told cause = Text cause

-- the rows of a whole list, or its first fault
abbrev pub modes_of : List ℕ → Result (List ModeRow) (LineFault ListCause)
modes_of bytes = rows_of told verdict Power bytes
