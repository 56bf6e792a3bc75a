-- Verdicts in order: each is a row, or the first fault of what it judges. Together they say all rows, or the first fault among them.
use Rattle.std.specs.Prelude.{List, [], ◌∷◌, Result, Ok, Err}
use Rattle.cvc_base.specs.declared.fault.Fault.{Fault}

abbrev pub in_front : {A : Type 0} → Result A Fault → Result (List A) Fault → Result (List A) Fault
in_front (Err fault) later = Err fault
in_front (Ok row) (Err fault) = Err fault
in_front (Ok row) (Ok rows) = Ok (row ∷ rows)

-- the first fault among the verdicts, else all rows
unfoldable pub rows_or_fault : {A : Type 0} → List (Result A Fault) → Result (List A) Fault
rows_or_fault [] = Ok []
rows_or_fault (verdict ∷ verdicts) = in_front verdict (rows_or_fault verdicts)
