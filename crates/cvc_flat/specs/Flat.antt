-- The flat list of a netlist: its nets and its devices, in the order of the walk, or the first fault. The nets are the globals, the ports of the
-- top, and the nets of the devices' pins, each where it first comes. What a flat list holds has no netlist behind it: a device has its parts, its
-- pins by their nets' numbers and its resolved parameters, and of the instances their paths are kept, by which a name in any of them finds its
-- net.
use Rattle.std.specs.Prelude.{ℕ, suc, Bool, nat_le, nat_lt, List, [], ◌∷◌, ◌++◌, length, map, Option, Some, None, Result, if◌then◌else◌}
use Rattle.std.specs.List.{list_any, flat_map, filter_map, position_or_len}
use Rattle.std.specs.Option.{option_map, unwrap_or}
use Rattle.cvc_base.specs.declared.cause.Cause.{Cause}
use Rattle.cvc_base.specs.declared.cause.Cause.TheVariants.{TooDeep, TooManyInstances, TooManyDevices, TooManyNets, ParamLoop}
use Rattle.cvc_base.specs.declared.fault.Fault.{Fault}
use Rattle.cvc_base.specs.declared.ids.NetId.{NetId}
use Rattle.cvc_base.specs.declared.param.Param.{Param}
use Rattle.cvc_card.specs.declared.card.DeviceCard.{DeviceCard}
use Rattle.cvc_card.specs.declared.card.Letter.{Letter}
use Rattle.cvc_cdl.specs.declared.netlist.Global.{Global as GlobalNet}
use Rattle.cvc_cdl.specs.declared.netlist.Item.{Item}
use Rattle.cvc_cdl.specs.declared.netlist.Item.TheVariants as items
use Rattle.cvc_cdl.specs.declared.netlist.Netlist.{Netlist}
use Rattle.cvc_cdl.specs.Building.{fault_at, cause_if, or_else}
use Rattle.cvc_cdl.specs.Ending.{unless_fault}
use Rattle.cvc_cdl.specs.Instances.{Instance, cell_at, names_to}
use Rattle.cvc_params.specs.Params.{params_in}
use Rattle.cvc_params.specs.Places.{has_loop}
use Rattle.cvc_plan.specs.Nets.{Net, Opening, Path, same_net, path_of, global_names, net_in, opening_at}
use Rattle.cvc_flat.specs.Walk.{Visit, walk}

-- ## Nets, each once

abbrev pub is_net_among : List Net → Net → Bool
is_net_among nets net = list_any (same_net net) nets

-- those that are known, and then each further one where it first comes
unfoldable pub nets_once : List Net → List Net → List Net
nets_once known [] = known
nets_once known (net ∷ nets) = nets_once (if is_net_among known net then known else known ++ net ∷ []) nets

abbrev pub openings : Netlist → List Opening
openings n = map (λ (g : GlobalNet). opening_at g.line g.name) n.globals ++ map (opening_at (cell_at n []).line) (cell_at n []).ports

abbrev pub opening_nets : Netlist → List Net
opening_nets n = map (λ (o : Opening). o.net) (openings n)

abbrev pub pins_of : Netlist → Instance → DeviceCard → List Net
pins_of n p d = map (net_in n p) d.nets

abbrev pub pins_at : Netlist → Visit → List Net
pins_at n v = pins_in v.within v.item
  where
    pins_in : Instance → Item → List Net
    pins_in p (items.Device d) = pins_of n p d
    pins_in p (items.Inst x) = []

-- the nets behind these visits
unfoldable pub nets_behind : Netlist → List Visit → List Net
nets_behind n visits = nets_once [] (opening_nets n ++ flat_map (pins_at n) visits)

-- ## Devices and instances

-- a device's card in an instance
pub record Placed : Type 0 where
  pub within : Instance
  pub card : DeviceCard

abbrev pub device_at : Visit → Option Placed
device_at v = device_in v.within v.item
  where
    device_in : Instance → Item → Option Placed
    device_in p (items.Device d) = Some record { within = p; card = d }
    device_in p (items.Inst x) = None

abbrev pub instance_at : Visit → Option Instance
instance_at v = instance_in v.within v.item
  where
    instance_in : Instance → Item → Option Instance
    instance_in p (items.Device d) = None
    instance_in p (items.Inst x) = Some (x ∷ p)

unfoldable pub devices_behind : List Visit → List Placed
devices_behind visits = filter_map device_at visits

unfoldable pub instances_behind : List Visit → List Instance
instances_behind visits = filter_map instance_at visits

-- ## The first fault

-- how many instances, names on a path, devices and nets there may be
pub record Limits : Type 0 where
  pub instances : ℕ
  pub names : ℕ
  pub devices : ℕ
  pub nets : ℕ

abbrev pub limits : Limits
limits = record { instances = 1000000; names = 64; devices = 500000; nets = 1000000 }

-- at a global or a port of the top that would be a net too many
unfoldable pub opening_fault : Limits → List Net → List Opening → Option Fault
opening_fault l known [] = None
opening_fault l known (o ∷ os) =
    if nat_lt l.nets (length (nets_once known (o.net ∷ []))) then Some (fault_at o.line TooManyNets)
    else opening_fault l (nets_once known (o.net ∷ [])) os

abbrev pub instance_cause : Limits → List Visit → Instance → Option Cause
instance_cause l earlier p =
    if nat_le l.instances (length (instances_behind earlier)) then Some TooManyInstances
    else cause_if (nat_lt l.names (length p)) TooDeep

abbrev pub device_cause : Limits → Netlist → List Visit → Instance → DeviceCard → Option Cause
device_cause l n earlier p d =
    if nat_le l.devices (length (devices_behind earlier)) then Some TooManyDevices
    else (if nat_lt l.nets (length (nets_once (nets_behind n earlier) (pins_of n p d))) then Some TooManyNets
    else cause_if (has_loop n p d.pairs) ParamLoop)

abbrev pub visit_fault_in : Limits → Netlist → List Visit → Instance → Item → Option Fault
visit_fault_in l n earlier p (items.Device d) = option_map (fault_at d.line) (device_cause l n earlier p d)
visit_fault_in l n earlier p (items.Inst x) = option_map (fault_at x.line) (instance_cause l earlier (x ∷ p))

-- the fault at a visit behind the earlier ones
unfoldable pub visit_fault : Limits → Netlist → List Visit → Visit → Option Fault
visit_fault l n earlier v = visit_fault_in l n earlier v.within v.item

unfoldable pub walk_fault : Limits → Netlist → List Visit → List Visit → Option Fault
walk_fault l n earlier [] = None
walk_fault l n earlier (v ∷ vs) = or_else (visit_fault l n earlier v) (walk_fault l n (earlier ++ v ∷ []) vs)

-- one level more than an instance may have names shows each instance that may be refused
abbrev pub visits_of : Limits → Netlist → List Visit
visits_of l n = walk n (suc l.names) []

unfoldable pub flat_fault : Limits → Netlist → Option Fault
flat_fault l n = or_else (opening_fault l [] (openings n)) (walk_fault l n [] (visits_of l n))

-- ## The flat list

pub record FlatDevice : Type 0 where
  pub letter : Letter
  pub within : List (List ℕ)
  pub name : List ℕ
  pub pins : List NetId
  pub model : List ℕ
  pub params : List Param
  pub line : ℕ

pub record FlatList : Type 0 where
  pub top : Option (List ℕ)
  pub globals : List (List ℕ)
  pub nets : List Net
  pub devices : List FlatDevice
  pub instances : List Path

-- the number of a net, or that of nets where it is not among them
abbrev pub number_of_net : List Net → Net → ℕ
number_of_net nets net = position_or_len (same_net net) nets

abbrev pub net_id : List Net → Net → NetId
net_id nets net = record { 0 = number_of_net nets net }

abbrev pub flat_device : Netlist → List Net → Placed → FlatDevice
flat_device n nets d = record {
  letter = d.card.letter;
  within = names_to d.within;
  name = d.card.name;
  pins = map (net_id nets) (pins_of n d.within d.card);
  model = d.card.model;
  params = unwrap_or (params_in n d.within d.card.pairs) [];
  line = d.card.line;
}

unfoldable pub list_behind : Netlist → List Visit → FlatList
list_behind n visits = record {
  top = n.top;
  globals = global_names n;
  nets = nets_behind n visits;
  devices = map (flat_device n (nets_behind n visits)) (devices_behind visits);
  instances = map (path_of n) (instances_behind visits);
}

-- the flat list of a netlist, or the first fault
unfoldable pub flat_of : Limits → Netlist → Result FlatList Fault
flat_of l n = unless_fault (flat_fault l n) (list_behind n (visits_of l n))
