-- What a family misses: for each row, in order, and for its low before its high, the bound that differs from what the row expects of it.
use Rattle.std.specs.Prelude.{ℕ, ◌+◌, ℤ, Bool, false, true, not, List, [], ◌∷◌, ◌++◌, Option, Some, None, is_some, if◌then◌else◌}
use Rattle.std.specs.Ordering.{int_eq}
use Rattle.cvc_base.specs.declared.ids.NetId.{NetId}
use Rattle.cvc_base.specs.declared.ids.Side.{Side}
use Rattle.cvc_base.specs.declared.ids.Side.TheVariants.{Low, High}
use Rattle.cvc_law.specs.declared.interval.Interval.{Interval}
use Rattle.cvc_law.specs.Family.{interval_at}
use Rattle.cvc_expect.specs.declared.missed.Missed.{Missed}
use Rattle.cvc_expect.specs.declared.row.Bound.{Bound}
use Rattle.cvc_expect.specs.declared.row.Bound.TheVariants.{Any, Unknown, At}
use Rattle.cvc_expect.specs.declared.row.ExpectRow.{ExpectRow}

-- ## One row

-- this bound differs from what is expected of it
abbrev pub misses : Bound → Option ℤ → Bool
misses Any found = false
misses Unknown found = is_some found
misses (At v) None = true
misses (At v) (Some x) = not (int_eq x v)

abbrev pub missed_bound : ℕ → Side → Bound → Option ℤ → List Missed
missed_bound row side bound found = if misses bound found then record { row = row; side = side; found = found } ∷ [] else []

-- what the row of this number misses of an interval
abbrev pub missed_row : ℕ → ExpectRow → Interval → List Missed
missed_row k row i = missed_bound k Low row.low i.low ++ missed_bound k High row.high i.high

-- ## All rows

-- what rows that name these nets miss, the first of which has this number
unfoldable pub missed_from : List Interval → ℕ → List NetId → List ExpectRow → List Missed
missed_from family k (net ∷ nets) (row ∷ rows) = missed_row k row (interval_at family net.0) ++ missed_from family (k + 1) nets rows
missed_from family k _ _ = []
