-- Files that are judged line by line. Each logical line has a verdict, by itself and the rows of the lines before it: its row, or the first cause that stands
-- at it. A file has its rows where each line has one and no line has a lexical fault. Else its first fault is by line, and on one line a lexical fault goes
-- first: so only the lines are judged that close before the line of the first lexical fault. A file's causes may be of a type of its own, into which lexical
-- ones are told.
use Rattle.std.specs.Prelude.{ℕ, List, [], ◌∷◌, ◌++◌, Option, Some, None, Result, Ok, Err}
use Rattle.cvc_base.specs.declared.cause.Cause.{Cause}
use Rattle.cvc_base.specs.declared.fault.Fault.{Fault}
use Rattle.cvc_base.specs.declared.fault.FileKind.{FileKind}
use Rattle.cvc_base.specs.declared.line.Line.{Line}
use Rattle.cvc_base.specs.Faults.{fault_on}
use Rattle.cvc_base.specs.Order.{◌>>=◌}
use Rattle.cvc_lex.specs.Lines.{lexical, closed_at_end}
use Rattle.cvc_rows.specs.declared.refused.LineFault.{LineFault}

-- a cause at a line is its fault
abbrev pub at_line : {A C : Type 0} → ℕ → Result A C → Result A (LineFault C)
at_line line (Ok row) = Ok row
at_line line (Err cause) = Err (record { line = line; cause = cause })

-- these rows and those of the lines that come behind them, or the first fault of the lines
unfoldable pub rows_behind : {A C : Type 0} → (List A → Line → Result A C) → List A → List Line → Result (List A) (LineFault C)
rows_behind verdict rows [] = Ok rows
rows_behind verdict rows (line ∷ lines) = do
  row ← at_line line.first (verdict rows line)
  rows_behind verdict (rows ++ row ∷ []) lines

-- the rows, unless there is a lexical fault
abbrev pub unless_lexical : {A C : Type 0} → (Cause → C) → Option Fault → List A → Result (List A) (LineFault C)
unless_lexical told None rows = Ok rows
unless_lexical told (Some fault) rows = Err (record { line = fault.place.line; cause = told fault.cause })

-- the rows of a whole file, or its first fault
unfoldable pub rows_of : {A C : Type 0} → (Cause → C) → (List A → Line → Result A C) → FileKind → List ℕ → Result (List A) (LineFault C)
rows_of told verdict file bytes = rows_behind verdict [] (closed_at_end file bytes) >>= unless_lexical told (lexical file bytes)

-- ## Input files

abbrev pub on_file : {A : Type 0} → FileKind → Result A (LineFault Cause) → Result A Fault
on_file file (Ok rows) = Ok rows
on_file file (Err fault) = Err (fault_on file fault.line fault.cause)

abbrev pub as_written : Cause → Cause
as_written cause = cause

-- the rows of an input file, or its first fault
abbrev pub rows_of_input : {A : Type 0} → (List A → Line → Result A Cause) → FileKind → List ℕ → Result (List A) Fault
rows_of_input verdict file bytes = on_file file (rows_of as_written verdict file bytes)
