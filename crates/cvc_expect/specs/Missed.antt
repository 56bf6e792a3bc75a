-- All that is missed of a list of rows. The family is looked at only where each row's name finds a net, and none the net of an earlier row; else the first
-- such name is the fault, at its row's line.
use Rattle.std.specs.Prelude.{ℕ, List, map, Result, Ok, Err, slice_index_or}
use Rattle.cvc_base.specs.declared.cause.Cause.{Cause}
use Rattle.cvc_base.specs.Order.{◌>>=◌}
use Rattle.cvc_bind.specs.declared.nets.Misnamed.{Misnamed}
use Rattle.cvc_bind.specs.Nets.{nets_of}
use Rattle.cvc_flat.specs.Flat.{FlatList}
use Rattle.cvc_law.specs.declared.interval.Interval.{Interval}
use Rattle.cvc_rows.specs.declared.refused.LineFault.{LineFault}
use Rattle.cvc_expect.specs.declared.missed.Missed.{Missed}
use Rattle.cvc_expect.specs.declared.row.ExpectRow.{ExpectRow}
use Rattle.cvc_expect.specs.Misses.{missed_from}
use Rattle.cvc_expect.specs.Rows.{name_of}

-- the fault of the name at a place, at its row's line
abbrev pub fault_of_name : List ExpectRow → Misnamed → LineFault Cause
fault_of_name rows bad = record { line = slice_index_or (map (λ (row : ExpectRow). row.line) rows) bad.place 0; cause = bad.cause }

abbrev pub at_lines : {A : Type 0} → List ExpectRow → Result A Misnamed → Result A (LineFault Cause)
at_lines rows (Ok x) = Ok x
at_lines rows (Err bad) = Err (fault_of_name rows bad)

-- all that is missed, or the first fault
abbrev pub missed_of : FlatList → List Interval → List ExpectRow → Result (List Missed) (LineFault Cause)
missed_of f family rows = do
  nets ← at_lines rows (nets_of f (map name_of rows))
  Ok (missed_from family 0 nets rows)
