-- The choices that were made, one for each group of devices.
use Rattle.std.specs.Prelude.{◌≡◌, ℕ, ◌<◌, List, length, Option, Some, None, slice_index, slice_index_or}
use Rattle.cvc_flat.specs.Held.{Held, device}
use Rattle.cvc_model.specs.declared.models.Choice.{Choice}
use Rattle.cvc_model.specs.declared.row.ModelRow.{ModelRow}
use Rattle.cvc_bind.specs.Devices.{device_choice}

-- a choice that was made for a group is the choice of each of its devices
pub record AreChosen (h : Held) (rows : List ModelRow) (chosen : List (Option Choice)) : Type 0 where
  pub sized : length chosen ≡ h.group_count
  pub right : (e : ℕ) (choice : Choice) → e < length h.list.devices → slice_index_or chosen (slice_index h.groups e) None ≡ Some choice → device_choice rows (device h.list e) ≡ choice
