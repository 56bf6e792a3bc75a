-- The nets of ports while a walk goes. They stand one after the other, those of the innermost instance last, and each mark says where its own begin.
use Rattle.std.specs.Prelude.{◌≡◌, ℕ, ◌≤◌, false, List, [], ◌∷◌, drop, length, map, take}
use Rattle.cvc_cdl.specs.declared.netlist.Netlist.{Netlist}
use Rattle.cvc_cdl.specs.Building.{is_among}
use Rattle.cvc_cdl.specs.Instances.{Instance, cell_at}
use Rattle.cvc_params.specs.declared.level.Level.{Level}
use Rattle.cvc_params.specs.Levels.{card_of}
use Rattle.cvc_plan.specs.declared.cards.Plan.{Plan}
use Rattle.cvc_plan.specs.declared.rows.NetRow.{NetRow}
use Rattle.cvc_plan.specs.Nets.{global_names, names_of, net_in, net_within, path_of as path_in}
use Rattle.cvc_flat.specs.declared.rows.InstanceRow.{InstanceRow}
use Rattle.cvc_flat.specs.declared.steps.Made.{Made}
use Rattle.cvc_flat.specs.declared.walk.Mark.{Mark}
use Rattle.cvc_flat.specs.Making.{AreNetsWithin, known_nets, tables_of}
use Rattle.cvc_flat.specs.Tables.{IsSound, path_of, way_at, ways_of}

-- the rows are the nets of the ports of the instance's cell, in order; a name that is neither global nor a port is a net of the instance itself
pub record HasPorts (n : Netlist) (p : Plan) (rows : List InstanceRow) (within : Instance) (ports : List NetRow) : Type 0 where
  pub nets : known_nets p.cards rows ports ≡ map (net_in n within) (cell_at n within).ports
  pub known : AreNetsWithin p rows ports
  pub own : (name : List ℕ) → is_among (global_names n) name ≡ false → is_among (cell_at n within).ports name ≡ false
      → net_in n within name ≡ net_within (names_of (path_in n within)) name

-- the nets of the ports of the instance of these levels, and below them those of the ones above
abbrev pub ArePorts : Netlist → Plan → List InstanceRow → List Level → List NetRow → Mark → List Mark → Type 0
ArePorts n p rows [] ports m above = (m.first ≤ length ports) × HasPorts n p rows [] (drop m.first ports)
ArePorts n p rows (l ∷ ls) ports m [] = ⊥
ArePorts n p rows (l ∷ ls) ports m (a ∷ above) =
    (m.first ≤ length ports) × HasPorts n p rows (card_of l ∷ map card_of ls) (drop m.first ports) × ArePorts n p rows ls (take m.first ports) a above

-- the number of an instance, and the nets of its ports, in sound tables
pub record IsHost (n : Netlist) (p : Plan) (rows : List InstanceRow) (made : Made) (within : Instance) (i : ℕ) (ports : List NetRow) : Type 0 where
  pub sound : IsSound (tables_of n p rows made)
  pub inside : i ≤ length rows
  pub path : path_of p.cards.names p.cards.parts.items (way_at (ways_of rows) i) ≡ path_in n within
  pub has : HasPorts n p rows within ports
