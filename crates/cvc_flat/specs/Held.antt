-- What a flat list in memory shows: the flat list, and for each device the number of the list of parameters that it shares with others of its model.
use Rattle.std.specs.Prelude.{◌≡◌, ℕ, ◌<◌, List, [], length, slice_index, slice_index_or}
use Rattle.cvc_card.specs.declared.card.Letter.TheVariants.{M}
use Rattle.cvc_cdl.specs.Instances.{printed}
use Rattle.cvc_plan.specs.Nets.{Net, top_net}
use Rattle.cvc_flat.specs.Flat.{FlatDevice, FlatList}

pub record Held : Type 0 where
  pub list : FlatList
  pub groups : List ℕ
  pub group_count : ℕ

abbrev pub no_device : FlatDevice
no_device = record { letter = M; within = []; name = []; pins = []; model = []; params = []; line = 0 }

-- the device and the net at a place
abbrev pub device : FlatList → ℕ → FlatDevice
device f d = slice_index_or f.devices d no_device

abbrev pub net : FlatList → ℕ → Net
net f k = slice_index_or f.nets k (top_net [])

abbrev pub printed_device : FlatDevice → List ℕ
printed_device d = printed d.within d.name

-- its group is a number below their count, and so is that of another device only where both have one model and the same parameters
pub record IsGroup (h : Held) (d group : ℕ) : Type 0 where
  pub listed : group ≡ slice_index h.groups d
  pub below : group < h.group_count
  pub alike : (e : ℕ) → e < length h.list.devices → slice_index h.groups e ≡ group → (device h.list e).model ≡ (device h.list d).model
  pub same : (e : ℕ) → e < length h.list.devices → slice_index h.groups e ≡ group → (device h.list e).params ≡ (device h.list d).params
