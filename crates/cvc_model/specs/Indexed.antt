-- What an index of rows says: for each name the place of its first row, and for each row the place of the next row of its name.
use Rattle.std.specs.Prelude.{◌≡◌, ℕ, ◌+◌, List, length, Option, Some, slice_get, Vec, Bool}
use Rattle.std.specs.declared.alloc.Global.{Global}
use Rattle.std.specs.Str.{bytes_eq}
use Rattle.indexmap.specs.IndexMap.{get_by}
use Rattle.cvc_model.specs.declared.index.Index.{Index}
use Rattle.cvc_model.specs.declared.row.ModelRow.{ModelRow}
use Rattle.cvc_model.specs.Chosen.{next_place}

abbrev pub is_key : List ℕ → Vec ℕ Global → Bool
is_key name key = bytes_eq name key.items

abbrev pub place_in : Index → List ℕ → Option ℕ
place_in index name = get_by (is_key name) index.first

pub record IsIndex (index : Index) (rows : List ModelRow) : Type 0 where
  pub count : length index.next.items ≡ length rows
  pub first : (name : List ℕ) → place_in index name ≡ next_place rows name 0
  pub next : (place : ℕ) (row : ModelRow) → slice_get rows place ≡ Some row → slice_get index.next.items place ≡ Some (next_place rows row.name (place + 1))
