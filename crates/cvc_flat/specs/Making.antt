-- A flat list while it is made. The tables are those of a plan with the rows so far; the nets and the devices of the visits that are done stand in them.
-- What is left of the walk is read from the marks: where it stands in the instance that it is in, and in each one above.
use Rattle.std.specs.Prelude.{◌≡◌, ℕ, ◌-◌, ◌<◌, ◌≤◌, List, [], ◌∷◌, ◌++◌, All, Option, Some, nat_le, nat_lt, drop, length, map, if◌then◌else◌, slice_index_or}
use Rattle.cvc_base.specs.declared.cause.Cause.{Cause}
use Rattle.cvc_base.specs.declared.cause.Cause.TheVariants.{TooDeep, TooManyInstances, TooManyDevices, TooManyNets, ParamLoop}
use Rattle.cvc_base.specs.declared.ids.NetId.{NetId}
use Rattle.cvc_card.specs.declared.card.DeviceCard.{DeviceCard}
use Rattle.cvc_cdl.specs.declared.netlist.Netlist.{Netlist}
use Rattle.cvc_cdl.specs.Building.{cause_if}
use Rattle.cvc_cdl.specs.Instances.{Instance, all_cells, cell_at, no_cell}
use Rattle.cvc_params.specs.declared.level.Level.{Level}
use Rattle.cvc_params.specs.Levels.{card_of}
use Rattle.cvc_params.specs.Places.{has_loop}
use Rattle.cvc_plan.specs.declared.cards.Cards.{Cards}
use Rattle.cvc_plan.specs.declared.cards.Plan.{Plan}
use Rattle.cvc_plan.specs.declared.rows.NetRow.{NetRow}
use Rattle.cvc_plan.specs.Nets.{Net, Opening, path_of as path_in}
use Rattle.cvc_flat.specs.declared.rows.DeviceRow.{DeviceRow}
use Rattle.cvc_flat.specs.declared.rows.Group.{Group}
use Rattle.cvc_flat.specs.declared.rows.InstanceRow.{InstanceRow}
use Rattle.cvc_flat.specs.declared.steps.Made.{Made}
use Rattle.cvc_flat.specs.declared.walk.Mark.{Mark}
use Rattle.cvc_flat.specs.Flat.{Limits, devices_behind, flat_device, instances_behind, net_id, nets_behind, nets_once, pins_of}
use Rattle.cvc_flat.specs.Left.{Frame}
use Rattle.cvc_names.specs.Names.{AreApart}
use Rattle.cvc_flat.specs.Tables.{AreWaysApart, IsSound, Tables, device_at, net_at, path_of, way_at, ways_of}
use Rattle.cvc_flat.specs.Walk.{Visit}

-- ## Nets

-- the nets of these rows
abbrev pub known_nets : Cards → List InstanceRow → List NetRow → List Net
known_nets k rows nets = map (net_at k.names k.parts.items (ways_of rows)) nets

abbrev pub net_of_opening : Opening → Net
net_of_opening o = o.net

abbrev pub AreNetsWithin : Plan → List InstanceRow → List NetRow → Type 0
AreNetsWithin p rows nets = All (λ (r : NetRow). (r.instance ≤ length rows) × (r.name < length p.cards.names)) nets

-- rows of nets in tables of which no two names and no two ways are the same
pub record AreRows (p : Plan) (rows : List InstanceRow) (nets : List NetRow) : Type 0 where
  pub apart : AreApart p.cards.names
  pub ways : AreWaysApart p.cards.names p.cards.parts.items rows
  pub within : AreNetsWithin p rows nets

-- the pins have the numbers of these nets, of which those that are new stand last
pub record NumbersPins (p : Plan) (rows : List InstanceRow) (old new : List NetRow) (nets : List Net) (pins : List NetId) : Type 0 where
  pub known : known_nets p.cards rows new ≡ nets_once (known_nets p.cards rows old) nets
  pub within : AreNetsWithin p rows new
  pub numbers : pins ≡ map (net_id (known_nets p.cards rows new)) nets
  pub inside : All (λ (n : NetId). n.0 < length new) pins

-- ## Causes

-- at an instance of so many names behind so many others
abbrev pub instance_cause_in : Limits → ℕ → ℕ → Option Cause
instance_cause_in l count names = if nat_le l.instances count then Some TooManyInstances else cause_if (nat_lt l.names names) TooDeep

-- at a device behind so many others, where these nets are known
abbrev pub device_cause_in : Limits → Netlist → ℕ → List Net → Instance → DeviceCard → Option Cause
device_cause_in l n count known p d =
    if nat_le l.devices count then Some TooManyDevices
    else (if nat_lt l.nets (length (nets_once known (pins_of n p d))) then Some TooManyNets
    else cause_if (has_loop n p d.pairs) ParamLoop)

-- ## Tables

abbrev pub tables_of : Netlist → Plan → List InstanceRow → Made → Tables
tables_of n p rows m = record {
  top = n.top;
  names = p.cards.names;
  globals = p.globals;
  parts = p.cards.parts.items;
  cards = p.cards.devices.items;
  groups = m.groups;
  instances = rows;
  devices = m.devices.items;
  nets = m.nets;
}

-- one more device, with its nets
pub record AddsDevice (n : Netlist) (p : Plan) (rows : List InstanceRow) (old new : Made) (within : Instance) (card : DeviceCard) : Type 0 where
  pub nets : known_nets p.cards rows new.nets ≡ nets_once (known_nets p.cards rows old.nets) (pins_of n within card)
  pub more : List Group
  pub groups : new.groups ≡ old.groups ++ more
  pub row : DeviceRow
  pub devices : new.devices.items ≡ old.devices.items ++ row ∷ []
  pub shown : device_at (tables_of n p rows new) (ways_of rows) row ≡ flat_device n (known_nets p.cards rows new.nets) record { within = within; card = card }
  pub sound : IsSound (tables_of n p rows new)
  pub counted : length new.groups ≤ length new.devices.items

-- the tables show what lies behind these visits
pub record Shows (n : Netlist) (t : Tables) (visits : List Visit) : Type 0 where
  pub instances : map (path_of t.names t.parts) (drop 1 (ways_of t.instances)) ≡ map (path_in n) (instances_behind visits)
  pub nets : map (net_at t.names t.parts (ways_of t.instances)) t.nets ≡ nets_behind n visits
  pub devices : map (device_at t (ways_of t.instances)) t.devices ≡ map (flat_device n (nets_behind n visits)) (devices_behind visits)

-- ## Marks

-- what is left in the instance of these levels, of which the innermost comes first
abbrev pub frame_of : Netlist → List Level → Mark → Frame
frame_of n ls m = record { within = map card_of ls; coming = drop m.next (cell_at n (map card_of ls)).items; levels = 64 - length ls }

-- the frames of a mark and of those above it
abbrev pub frames_of : Netlist → List Level → Mark → List Mark → List Frame
frames_of n ls m [] = frame_of n ls m ∷ []
frames_of n [] m (a ∷ above) = frame_of n [] m ∷ []
frames_of n (l ∷ ls) m (a ∷ above) = frame_of n (l ∷ ls) m ∷ frames_of n ls a above

-- the mark is one in the instance of these levels
pub record IsMark (n : Netlist) (p : Plan) (rows : List InstanceRow) (ls : List Level) (m : Mark) : Type 0 where
  pub inside : m.instance ≤ length rows
  pub path : path_of p.cards.names p.cards.parts.items (way_at (ways_of rows) m.instance) ≡ path_in n (map card_of ls)
  pub cell : m.cell.now ≡ cell_at n (map card_of ls)
  pub known : m.plan ≤ length n.cells
  pub plan : slice_index_or (all_cells n) m.plan no_cell ≡ m.cell.now

abbrev pub AreMarks : Netlist → Plan → List InstanceRow → List Level → Mark → List Mark → Type 0
AreMarks n p rows [] m [] = IsMark n p rows [] m
AreMarks n p rows [] m (a ∷ above) = ⊥
AreMarks n p rows (l ∷ ls) m [] = ⊥
AreMarks n p rows (l ∷ ls) m (a ∷ above) = IsMark n p rows (l ∷ ls) m × AreMarks n p rows ls a above
