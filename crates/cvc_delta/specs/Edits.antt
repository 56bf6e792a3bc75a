-- Edits of declared rows. The k-th row stands at line k. A set gives the row of a name its bounds, in its place, or puts a new row last; an unset takes the
-- row of a name away, and later rows move up. No two rows have one name, and an edit keeps it so.
use Rattle.std.specs.Prelude.{◌≡◌, false, ℕ, suc, ◌+◌, ℤ, ◌≤ℤ◌, Bool, not, List, [], ◌∷◌, ◌++◌, length, map, Option, Some, None, slice_set}
use Rattle.std.specs.List.{filter}
use Rattle.std.specs.Str.{bytes_eq}
use Rattle.cvc_names.specs.Names.{has_twice, is_among, place_of}
use Rattle.cvc_power.specs.declared.row.PowerRow.{PowerRow}
use Rattle.cvc_power.specs.Power.{name_of, row_with}
use Rattle.cvc_delta.specs.declared.edit.Edit.{Edit}
use Rattle.cvc_delta.specs.declared.edit.Edit.TheVariants.{Set, Unset, Recheck}

abbrev pub names_of : List PowerRow → List (List ℕ)
names_of rows = map name_of rows

-- a row has the name
abbrev pub has_row : List PowerRow → List ℕ → Bool
has_row rows name = is_among (names_of rows) name

-- no two rows have one name
abbrev pub AreApart : List PowerRow → Type 0
AreApart rows = has_twice (names_of rows) ≡ false

-- the rows, each at the line of its place, of which the first has this number
unfoldable pub numbered_from : ℕ → List PowerRow → List PowerRow
numbered_from line [] = []
numbered_from line (row ∷ rows) = record row { line = line } ∷ numbered_from (suc line) rows

abbrev pub numbered : List PowerRow → List PowerRow
numbered rows = numbered_from 1 rows

-- these bounds in the place of the row, where there is one, and else in a new row that stands last
abbrev pub set_at : List PowerRow → List ℕ → ℤ → ℤ → Option ℕ → List PowerRow
set_at rows name low high (Some place) = slice_set rows place (row_with (place + 1) name (record { low = low; high = high }))
set_at rows name low high None = rows ++ row_with (length rows + 1) name (record { low = low; high = high }) ∷ []

abbrev pub set_row : List PowerRow → List ℕ → ℤ → ℤ → List PowerRow
set_row rows name low high = set_at rows name low high (place_of (names_of rows) name)

abbrev pub has_other_name : List ℕ → PowerRow → Bool
has_other_name name row = not (bytes_eq name row.name)

abbrev pub unset_row : List PowerRow → List ℕ → List PowerRow
unset_row rows name = numbered (filter (has_other_name name) rows)

-- a set's bounds are in order
abbrev pub IsOrderedEdit : Edit → Type 0
IsOrderedEdit (Set name low high) = low ≤ℤ high
IsOrderedEdit (Unset name) = Unit {0}
IsOrderedEdit Recheck = Unit {0}

-- the rows behind an edit
abbrev pub after : List PowerRow → Edit → List PowerRow
after rows (Set name low high) = set_row rows name low high
after rows (Unset name) = unset_row rows name
after rows Recheck = rows

unfoldable pub after_all : List PowerRow → List Edit → List PowerRow
after_all rows [] = rows
after_all rows (edit ∷ edits) = after_all (after rows edit) edits
