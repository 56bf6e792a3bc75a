-- The text of missed bounds: a header, a line for each, and their number. A line has the name as its row has it, the side, what is expected and what was
-- found; an unknown bound is `?`.
use Rattle.std.specs.Prelude.{ℕ, ◌<◌, ℤ, List, [], ◌∷◌, ◌++◌, length, Option, Some, None, codes, decimal, slice_index_or}
use Rattle.std.specs.Fmt.{signed_decimal}
use Rattle.std.specs.List.{flat_map}
use Rattle.cvc_base.specs.declared.ids.Side.{Side}
use Rattle.cvc_base.specs.declared.ids.Side.TheVariants.{Low, High}
use Rattle.cvc_text.specs.Lines.{line}
use Rattle.cvc_text.specs.Printed.{bound_text}
use Rattle.cvc_expect.specs.declared.missed.Missed.{Missed}
use Rattle.cvc_expect.specs.declared.row.Bound.{Bound}
use Rattle.cvc_expect.specs.declared.row.Bound.TheVariants.{Any, Unknown, At}
use Rattle.cvc_expect.specs.declared.row.ExpectRow.{ExpectRow}

-- what stands at a place behind the rows
abbrev pub no_row : ExpectRow
no_row = record { name = []; low = Any; high = Any; line = 0 }

abbrev pub row_at : List ExpectRow → ℕ → ExpectRow
row_at rows k = slice_index_or rows k no_row

abbrev pub side_word : Side → List ℕ
side_word Low = codes "low"
side_word High = codes "high"

-- what a row expects on a side
abbrev pub expected_on : Side → ExpectRow → Bound
expected_on Low row = row.low
expected_on High row = row.high

abbrev pub expected_text : Bound → List ℕ
expected_text Any = codes "*"
expected_text Unknown = codes "?"
expected_text (At v) = signed_decimal v

abbrev pub missed_words : ExpectRow → Side → Option ℤ → List ℕ
missed_words row side found = line (codes "missed" ∷ row.name ∷ side_word side ∷ codes "expected" ∷ expected_text (expected_on side row) ∷ codes "found" ∷ bound_text found ∷ [])

abbrev pub missed_line : List ExpectRow → Missed → List ℕ
missed_line rows m = missed_words (row_at rows m.row) m.side m.found

-- the number of the missed bounds
abbrev pub count_line : List Missed → List ℕ
count_line list = line (codes "missed" ∷ decimal (length list) ∷ [])

unfoldable pub missed_text : List ExpectRow → List Missed → List ℕ
missed_text rows list = line (codes "CVC expectations" ∷ []) ++ flat_map (missed_line rows) list ++ count_line list

-- a bound of which something is expected
abbrev pub IsSaid : Bound → Type 0
IsSaid Any = ⊥
IsSaid _ = Unit {0}

-- an item that can be told: its row is there, and says something of its side
pub record IsTellable (rows : List ExpectRow) (m : Missed) : Type 0 where
  pub inside : m.row < length rows
  pub said : IsSaid (expected_on m.side (row_at rows m.row))
