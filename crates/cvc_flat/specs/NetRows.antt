-- Nets in a table that has each of them once, and their hashes.
use Rattle.std.specs.Prelude.{◌≡◌, ℕ, ◌+◌, ◌*◌, ◌%◌, ◌^◌, ◌<◌, List, length, map, slice_index_or}
use Rattle.std.specs.List.{position_or_len}
use Rattle.cvc_plan.specs.declared.rows.NetRow.{NetRow}
use Rattle.cvc_flat.specs.Resolving.{is_row}

-- the hash of a net
unfoldable pub row_hash : NetRow → ℕ
row_hash row = (row.instance * 2654435769 + row.name) % 2 ^ 32

-- each net stands first at its own place, so that none is there twice
abbrev pub AreOnce : List NetRow → Type 0
AreOnce rows = (place : ℕ) (d : NetRow) → place < length rows → position_or_len (is_row (slice_index_or rows place d)) rows ≡ place

-- no net is there twice, and these are their hashes
pub record IsNetTable (rows : List NetRow) (hashes : List ℕ) : Type 0 where
  pub once : AreOnce rows
  pub hashed : hashes ≡ map row_hash rows
