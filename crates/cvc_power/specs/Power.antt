-- The declared rows of a power file, or its first fault: the rows of its lines, judged in order, where TwiceRow comes last on a line and stands where an
-- earlier row has the same name, byte by byte.
use Rattle.std.specs.Prelude.{ℕ, List, [], ◌∷◌, map, Result, Ok, Err, ◌≤ℤ◌, if◌then◌else◌}
use Rattle.cvc_base.specs.declared.cause.Cause.{Cause}
use Rattle.cvc_base.specs.declared.cause.Cause.TheVariants.{BadRow, TwiceRow}
use Rattle.cvc_base.specs.declared.fault.Fault.{Fault}
use Rattle.cvc_base.specs.declared.fault.FileKind.TheVariants.{Power}
use Rattle.cvc_base.specs.declared.line.Line.{Line}
use Rattle.cvc_base.specs.Order.{◌>>=◌}
use Rattle.cvc_names.specs.Names.{is_among}
use Rattle.cvc_rows.specs.Rows.{rows_of_input}
use Rattle.cvc_rows.specs.Tokens.{texts_of}
use Rattle.cvc_power.specs.declared.row.PowerRow.{PowerRow}
use Rattle.cvc_power.specs.declared.row.Span.{Span}
use Rattle.cvc_power.specs.Rows.{span_of}

abbrev pub row_with : ℕ → List ℕ → Span → PowerRow
row_with line name span = record { name = name; low = span.low; high = span.high; line = line }

-- the row of a line with these texts by itself, or its first cause but TwiceRow
unfoldable pub row_in : ℕ → List (List ℕ) → Result PowerRow Cause
row_in line [] = Err BadRow
row_in line (name ∷ texts) = span_of texts >>= λ span. Ok (row_with line name span)

abbrev pub row_of : Line → Result PowerRow Cause
row_of line = row_in line.first (texts_of line.tokens)

abbrev pub name_of : PowerRow → List ℕ
name_of row = row.name

-- the row, unless one of these has its name
abbrev pub unless_twice : List PowerRow → PowerRow → Result PowerRow Cause
unless_twice rows row = if is_among (map name_of rows) row.name then Err TwiceRow else Ok row

-- the verdict on a line behind these rows
abbrev pub verdict : List PowerRow → Line → Result PowerRow Cause
verdict rows line = row_of line >>= unless_twice rows

-- the rows of a whole file, or its first fault
abbrev pub power_of : List ℕ → Result (List PowerRow) Fault
power_of bytes = rows_of_input verdict Power bytes

-- what a row declares is a span
abbrev pub IsOrdered : PowerRow → Type 0
IsOrdered row = row.low ≤ℤ row.high
