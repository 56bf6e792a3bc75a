-- Expected files. A row is `NET LOW HIGH`, where each bound is `*`, which says nothing, `?`, which says that the bound is unknown, or a voltage. The causes
-- of a row are, in this order, BadRow where it has not three tokens, BadVoltage where a bound is none of these, from the left, and TwiceRow where an earlier
-- row has the same name, byte by byte. Its lines, their tokens and the limit of the file are those of a power file.
use Rattle.std.specs.Prelude.{ℕ, ℤ, List, [], ◌∷◌, map, Result, Ok, Err, codes, if◌then◌else◌}
use Rattle.std.specs.Str.{bytes_eq}
use Rattle.cvc_base.specs.declared.cause.Cause.{Cause}
use Rattle.cvc_base.specs.declared.cause.Cause.TheVariants.{BadRow, TwiceRow}
use Rattle.cvc_base.specs.declared.fault.FileKind.TheVariants.{Power}
use Rattle.cvc_base.specs.declared.line.Line.{Line}
use Rattle.cvc_base.specs.Order.{◌>>=◌}
use Rattle.cvc_names.specs.Names.{is_among}
use Rattle.cvc_rows.specs.declared.refused.LineFault.{LineFault}
use Rattle.cvc_rows.specs.Rows.{as_written, rows_of}
use Rattle.cvc_rows.specs.Tokens.{texts_of, voltage_of}
use Rattle.cvc_expect.specs.declared.row.Bound.{Bound}
use Rattle.cvc_expect.specs.declared.row.Bound.TheVariants.{Any, Unknown, At}
use Rattle.cvc_expect.specs.declared.row.ExpectRow.{ExpectRow}

-- ## One row

abbrev pub at_voltage : Result ℤ Cause → Result Bound Cause
at_voltage (Ok v) = Ok (At v)
at_voltage (Err cause) = Err cause

-- what a text says of a bound
abbrev pub bound_of : List ℕ → Result Bound Cause
bound_of text = if bytes_eq text (codes "*") then Ok Any else (if bytes_eq text (codes "?") then Ok Unknown else at_voltage (voltage_of text))

abbrev pub row_with : ℕ → List ℕ → Bound → Bound → ExpectRow
row_with line name low high = record { name = name; low = low; high = high; line = line }

-- the row of a line with these texts by itself, or its first cause but TwiceRow
unfoldable pub row_in : ℕ → List (List ℕ) → Result ExpectRow Cause
row_in line (name ∷ low ∷ high ∷ []) = bound_of low >>= λ l. bound_of high >>= λ h. Ok (row_with line name l h)
row_in line _ = Err BadRow

abbrev pub row_of : Line → Result ExpectRow Cause
row_of line = row_in line.first (texts_of line.tokens)

-- ## A file

abbrev pub name_of : ExpectRow → List ℕ
name_of row = row.name

-- the row, unless one of these has its name
abbrev pub unless_twice : List ExpectRow → ExpectRow → Result ExpectRow Cause
unless_twice rows row = if is_among (map name_of rows) row.name then Err TwiceRow else Ok row

-- the verdict on a line behind these rows
abbrev pub verdict : List ExpectRow → Line → Result ExpectRow Cause
verdict rows line = row_of line >>= unless_twice rows

-- the rows of a whole file, or its first fault
abbrev pub expected_of : List ℕ → Result (List ExpectRow) (LineFault Cause)
expected_of bytes = rows_of as_written verdict Power bytes
