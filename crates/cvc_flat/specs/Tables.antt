-- A flat list as tables by numbers. Names stand once and have numbers, the global ones first. An instance has its parent's number, which is less
-- than its own, and the number of its card; so the ways to all instances follow from the first row on.
use Rattle.std.specs.Prelude.{◌≡◌, ℕ, ◌^◌, ◌<◌, ◌≤◌, List, [], ◌∷◌, ◌++◌, map, take, drop, length, Option, All, slice_index_or}
use Rattle.cvc_base.specs.declared.ids.NetId.{NetId}
use Rattle.cvc_card.specs.Card.{net_count}
use Rattle.cvc_plan.specs.declared.rows.DevicePart.{DevicePart}
use Rattle.cvc_plan.specs.declared.rows.InstancePart.{InstancePart}
use Rattle.cvc_plan.specs.declared.rows.NetRow.{NetRow}
use Rattle.cvc_plan.specs.Nets.{Net, Path, names_of, net_within}
use Rattle.cvc_plan.specs.Parts.{IsPart, link_at, part_at, text}
use Rattle.cvc_flat.specs.declared.rows.DeviceRow.{DeviceRow}
use Rattle.cvc_flat.specs.declared.rows.Group.{Group}
use Rattle.cvc_flat.specs.declared.rows.InstanceRow.{InstanceRow}
use Rattle.cvc_names.specs.Names.{AreApart}
use Rattle.cvc_flat.specs.Flat.{FlatDevice}
use Rattle.cvc_flat.specs.Held.{Held}

pub record Tables : Type 0 where
  pub top : Option (List ℕ)
  pub names : List (List ℕ)
  pub globals : ℕ
  pub parts : List InstancePart
  pub cards : List DevicePart
  pub groups : List Group
  pub instances : List InstanceRow
  pub devices : List DeviceRow
  pub nets : List NetRow

-- ## Ways

-- the numbers of the cards on the way to an instance, its own first; the top has none
abbrev pub Way : Type 0
Way = List ℕ

abbrev pub way_at : List Way → ℕ → Way
way_at ways i = slice_index_or ways i []

abbrev pub way_in : List Way → InstanceRow → Way
way_in ways r = r.card ∷ way_at ways r.parent

-- the way to each instance, behind those that are known
unfoldable pub ways_from : List Way → List InstanceRow → List Way
ways_from known [] = known
ways_from known (r ∷ rs) = ways_from (known ++ way_in known r ∷ []) rs

unfoldable pub ways_of : List InstanceRow → List Way
ways_of rows = ways_from ([] ∷ []) rows

-- ## Paths

abbrev pub path_of : List (List ℕ) → List InstancePart → Way → Path
path_of names parts way = map (link_at names parts) way

abbrev pub names_on : List (List ℕ) → List InstancePart → Way → List (List ℕ)
names_on names parts way = names_of (path_of names parts way)

-- ## Rows

abbrev pub net_at : List (List ℕ) → List InstancePart → List Way → NetRow → Net
net_at names parts ways r = net_within (names_on names parts (way_at ways r.instance)) (text names r.name)

abbrev pub no_group : Group
no_group = record { model = 0; params = [] }

abbrev pub group_at : List Group → ℕ → Group
group_at groups k = slice_index_or groups k no_group

abbrev pub device_at : Tables → List Way → DeviceRow → FlatDevice
device_at t ways r = record {
  letter = (part_at t.cards r.card).letter;
  within = names_on t.names t.parts (way_at ways r.instance);
  name = text t.names (part_at t.cards r.card).name;
  pins = r.pins.items;
  model = text t.names (group_at t.groups r.group).model;
  params = (group_at t.groups r.group).params;
  line = (part_at t.cards r.card).line;
}

abbrev pub table_ways : Tables → List Way
table_ways t = ways_of t.instances

abbrev pub held_of : Tables → Held
held_of t = record {
  list = record {
    top = t.top;
    globals = take t.globals t.names;
    nets = map (net_at t.names t.parts (table_ways t)) t.nets;
    devices = map (device_at t (table_ways t)) t.devices;
    instances = map (path_of t.names t.parts) (drop 1 (table_ways t));
  };
  groups = map (λ (r : DeviceRow). r.group) t.devices;
  group_count = length t.groups;
}

-- ## Sound tables

abbrev pub no_row : InstanceRow
no_row = record { parent = 0; card = 0 }

-- the parent of each instance stands before it, and no way is longer than a path may be
pub record IsTree (rows : List InstanceRow) : Type 0 where
  pub parents : (i : ℕ) → i < length rows → (slice_index_or rows i no_row).parent ≤ i
  pub depth : (i : ℕ) → i ≤ length rows → length (way_at (ways_of rows) i) ≤ 64

abbrev pub IsDevice : Tables → DeviceRow → Type 0
IsDevice t r =
    (r.instance ≤ length t.instances) × (r.card < length t.cards) × (r.group < length t.groups)
    × (length r.pins.items ≡ net_count (part_at t.cards r.card).letter) × All (λ (n : NetId). n.0 < length t.nets) r.pins.items

abbrev pub IsNet : Tables → NetRow → Type 0
IsNet t r = (r.instance ≤ length t.instances) × (r.name < length t.names)

-- no two instances have one way by names
abbrev pub AreWaysApart : List (List ℕ) → List InstancePart → List InstanceRow → Type 0
AreWaysApart names parts rows =
    (i j : ℕ) → i ≤ length rows → j ≤ length rows
    → names_on names parts (way_at (ways_of rows) i) ≡ names_on names parts (way_at (ways_of rows) j) → i ≡ j

pub record IsSound (t : Tables) : Type 0 where
  pub names : AreApart t.names
  pub ways : AreWaysApart t.names t.parts t.instances
  pub name_count : length t.names < 2 ^ 32
  pub globals : t.globals ≤ length t.names
  pub parts : All (IsPart t.names) t.parts
  pub cards : All (λ (c : DevicePart). c.name < length t.names) t.cards
  pub groups : All (λ (g : Group). g.model < length t.names) t.groups
  pub tree : IsTree t.instances
  pub instances : All (λ (r : InstanceRow). r.card < length t.parts) t.instances
  pub devices : All (IsDevice t) t.devices
  pub nets : All (IsNet t) t.nets
  pub instance_count : length t.instances ≤ 1000000
  pub group_count : length t.groups ≤ 500000
  pub device_count : length t.devices ≤ 500000
  pub net_count : length t.nets ≤ 1000000
