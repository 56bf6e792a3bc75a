-- Edits files. A row is `set` and a power row, `unset` and a name, or `recheck`; the words are read without regard to case. The cause of a row is BadRow where
-- it has none of the forms, then BadVoltage from the left, then MinAboveMax, then NotThere where it unsets a name that no row has which the power file and the
-- edits before it leave.
use Rattle.std.specs.Prelude.{◌≡◌, ℕ, Bool, List, [], ◌∷◌, Result, Ok, Err, codes, if◌then◌else◌}
use Rattle.std.specs.Str.{str_eq_ignore_ascii_case}
use Rattle.cvc_base.specs.declared.cause.Cause.{Cause}
use Rattle.cvc_base.specs.declared.cause.Cause.TheVariants.{BadRow}
use Rattle.cvc_base.specs.declared.fault.FileKind.TheVariants.{Power}
use Rattle.cvc_base.specs.declared.line.Line.{Line}
use Rattle.cvc_base.specs.Order.{◌>>=◌}
use Rattle.cvc_power.specs.declared.row.PowerRow.{PowerRow}
use Rattle.cvc_power.specs.declared.row.Span.{Span}
use Rattle.cvc_power.specs.Rows.{span_of}
use Rattle.cvc_rows.specs.declared.refused.LineFault.{LineFault}
use Rattle.cvc_rows.specs.Rows.{rows_of}
use Rattle.cvc_rows.specs.Tokens.{texts_of}
use Rattle.cvc_delta.specs.declared.edit.Edit.{Edit}
use Rattle.cvc_delta.specs.declared.edit.Edit.TheVariants.{Set, Unset, Recheck}
use Rattle.cvc_delta.specs.declared.fault.EditsCause.{EditsCause}
use Rattle.cvc_delta.specs.declared.fault.EditsCause.TheVariants.{Text, NotThere}
use Rattle.cvc_delta.specs.declared.left.NameSet.{NameSet}
use Rattle.cvc_delta.specs.Edits.{after_all, has_row}
use Rattle.cvc_delta.specs.Left.{has_name}

-- the edit that gives the row of this name these voltages
abbrev pub set_with : List ℕ → Result Span Cause → Result Edit EditsCause
set_with name (Ok span) = Ok (Set name span.low span.high)
set_with name (Err cause) = Err (Text cause)

abbrev pub set_of : List (List ℕ) → Result Edit EditsCause
set_of [] = Err (Text BadRow)
set_of (name ∷ form) = set_with name (span_of form)

abbrev pub unset_of : List (List ℕ) → Result Edit EditsCause
unset_of (name ∷ []) = Ok (Unset name)
unset_of _ = Err (Text BadRow)

abbrev pub recheck_of : List (List ℕ) → Result Edit EditsCause
recheck_of [] = Ok Recheck
recheck_of _ = Err (Text BadRow)

-- the edit of a row with these texts, by itself
unfoldable pub edit_of : List (List ℕ) → Result Edit EditsCause
edit_of [] = Err (Text BadRow)
edit_of (word ∷ texts) =
    if str_eq_ignore_ascii_case word (codes "set") then set_of texts
    else (if str_eq_ignore_ascii_case word (codes "unset") then unset_of texts
    else (if str_eq_ignore_ascii_case word (codes "recheck") then recheck_of texts
    else Err (Text BadRow)))

-- what an edit asks of the rows before it
abbrev pub if_there : List PowerRow → Edit → Result (Unit {0}) EditsCause
if_there rows (Unset name) = if has_row rows name then Ok tt else Err NotThere
if_there rows (Set name low high) = Ok tt
if_there rows Recheck = Ok tt

-- how a lexical cause is told
abbrev pub told : Cause → EditsCause
told cause = Text cause

-- the verdict on a line behind these edits of the rows
abbrev pub verdict : List PowerRow → List Edit → Line → Result Edit EditsCause
verdict power edits line = do
  edit ← edit_of (texts_of line.tokens)
  _ ← if_there (after_all power edits) edit
  Ok edit

-- the edits of a file, or its first fault
abbrev pub edits_of : List PowerRow → List ℕ → Result (List Edit) (LineFault EditsCause)
edits_of power bytes = rows_of told (verdict power) Power bytes

-- the names of these rows are those that are left
abbrev pub AreLeft : NameSet → List PowerRow → Type 0
AreLeft left rows = (name : List ℕ) → has_name left name ≡ has_row rows name
