-- Nets. A net is a name in an instance. The net of a name is found by walking up: a global name is the global net, wherever it is met; else a name
-- that is connected, as a port of the instance's cell, is the net, in the parent, of what it is connected to; else it is a net of the instance
-- itself. What counts of an instance is its path: for each instance on the way its name and its connections.
use Rattle.std.specs.Prelude.{ℕ, Bool, ◌&&◌, List, [], ◌∷◌, map, Option, find, if◌then◌else◌}
use Rattle.std.specs.Option.{option_map, option_map_or}
use Rattle.std.specs.Str.{bytes_eq}
use Rattle.cvc_base.specs.declared.param.Pair.{Pair}
use Rattle.cvc_card.specs.declared.card.InstCard.{InstCard}
use Rattle.cvc_card.specs.declared.card.Ports.{Ports}
use Rattle.cvc_card.specs.declared.card.Ports.TheVariants.{ByOrder, ByName}
use Rattle.cvc_cdl.specs.declared.netlist.Netlist.{Netlist}
use Rattle.cvc_cdl.specs.Netlist.{name_of_global}
use Rattle.cvc_cdl.specs.Building.{is_among}
use Rattle.cvc_cdl.specs.Instances.{Instance, cell_for, same_names}

-- the names on the way to an instance, its own first, and a name there
pub record Net : Type 0 where
  pub within : List (List ℕ)
  pub name : List ℕ

abbrev pub same_net : Net → Net → Bool
same_net a b = bytes_eq a.name b.name && same_names a.within b.within

abbrev pub net_within : List (List ℕ) → List ℕ → Net
net_within within name = record { within = within; name = name }

-- a net of no instance: a global, or a net of the top
abbrev pub top_net : List ℕ → Net
top_net name = net_within [] name

-- ## Paths

-- an instance by its own name, with pairs of a port of its cell and the name that the port is connected to
pub record Link : Type 0 where
  pub name : List ℕ
  pub connections : List Pair

-- an instance as the links on the way to it, its own first
abbrev pub Path : Type 0
Path = List Link

abbrev pub name_of_link : Link → List ℕ
name_of_link l = l.name

abbrev pub names_of : Path → List (List ℕ)
names_of p = map name_of_link p

abbrev pub connected : Link → List ℕ → Option (List ℕ)
connected l name = option_map (λ (c : Pair). c.value) (find (λ (c : Pair). bytes_eq name c.name) l.connections)

-- the net of a name in an instance, where these names are global
unfoldable pub net_of : List (List ℕ) → Path → List ℕ → Net
net_of globals [] name = top_net name
net_of globals (l ∷ up) name =
    if is_among globals name then top_net name
    else option_map_or (net_of globals up) (connected l name) (net_within (names_of (l ∷ up)) name)

-- ## The paths of a netlist

-- by order, each port with its net
abbrev pub paired : List (List ℕ) → List (List ℕ) → List Pair
paired [] nets = []
paired (port ∷ ports) [] = []
paired (port ∷ ports) (net ∷ nets) = record { name = port; value = net } ∷ paired ports nets

abbrev pub connections_of : List (List ℕ) → Ports → List Pair
connections_of ports (ByOrder nets) = paired ports nets
connections_of ports (ByName pairs) = pairs

abbrev pub link_of : Netlist → InstCard → Link
link_of n x = record { name = x.name; connections = connections_of (cell_for n x.cell).ports x.ports }

abbrev pub path_of : Netlist → Instance → Path
path_of n p = map (link_of n) p

abbrev pub global_names : Netlist → List (List ℕ)
global_names n = map name_of_global n.globals

abbrev pub net_in : Netlist → Instance → List ℕ → Net
net_in n p name = net_of (global_names n) (path_of n p) name

-- ## Openings

-- the net of a global or of a port of the top, with the line of the card that names it
pub record Opening : Type 0 where
  pub net : Net
  pub line : ℕ

abbrev pub opening_at : ℕ → List ℕ → Opening
opening_at line name = record { net = top_net name; line = line }
