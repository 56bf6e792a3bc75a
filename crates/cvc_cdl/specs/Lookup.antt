-- Cells by their names, and ports by theirs, as the code looks them up.
use Rattle.std.specs.Prelude.{◌≡◌, ℕ, suc, ◌<◌, List, [], ◌∷◌, length, Option, Some, None, if◌then◌else◌, slice_index_or}
use Rattle.std.specs.Option.{option_map}
use Rattle.std.specs.Str.{bytes_eq}
use Rattle.cvc_cdl.specs.declared.netlist.Cell.{Cell}
use Rattle.cvc_cdl.specs.Building.{is_among}

-- where the name stands first
unfoldable pub place_of : List (List ℕ) → List ℕ → Option ℕ
place_of [] name = None
place_of (n ∷ ns) name = if bytes_eq name n then Some 0 else option_map suc (place_of ns name)

-- the names among these are those of the ports
pub record FindsPorts (ports names : List (List ℕ)) : Type 0 where
  pub at : (name : List ℕ) → is_among names name ≡ is_among ports name

-- the ports of each cell
pub record FindsEachPort (cells : List Cell) (names : List (List (List ℕ))) : Type 0 where
  pub sized : length names ≡ length cells
  pub at : (i : ℕ) (c : Cell) (n : List (List ℕ)) → i < length cells → FindsPorts (slice_index_or cells i c).ports (slice_index_or names i n)
