-- Well formed netlists: no global, no cell and on no level a device or an instance stands twice, no port stands twice on a cell, a device has as many
-- nets as its letter, each instance names a cell that isn't endless and fits its ports, and the top is a cell.
use Rattle.std.specs.Prelude.{◌≡◌, false, List, map, length, None, All, IfSome, IsTrue}
use Rattle.cvc_card.specs.Card.{has_twice, net_count}
use Rattle.cvc_card.specs.Formed.{ConnectsOnce}
use Rattle.cvc_cdl.specs.declared.netlist.Cell.{Cell}
use Rattle.cvc_cdl.specs.declared.netlist.Item.{Item}
use Rattle.cvc_cdl.specs.declared.netlist.Item.TheVariants as items
use Rattle.cvc_cdl.specs.declared.netlist.Netlist.{Netlist}
use Rattle.cvc_cdl.specs.Netlist.{name_of_cell, name_of_global}
use Rattle.cvc_cdl.specs.Building.{is_among, name_of_item}
use Rattle.cvc_cdl.specs.Ending.{instance_cause, is_endless}

abbrev pub IsFormedItem : List Cell → Item → Type 0
IsFormedItem cells (items.Device d) = length d.nets ≡ net_count d.letter
IsFormedItem cells (items.Inst x) = (instance_cause cells x ≡ None) × (is_endless cells x.cell ≡ false) × ConnectsOnce x.ports

pub record IsFormedLevel (cells : List Cell) (c : Cell) : Type 0 where
  pub ports : has_twice c.ports ≡ false
  pub names : has_twice (map name_of_item c.items) ≡ false
  pub items : All (IsFormedItem cells) c.items

pub record IsWellFormed (n : Netlist) : Type 0 where
  pub globals : has_twice (map name_of_global n.globals) ≡ false
  pub cells : has_twice (map name_of_cell n.cells) ≡ false
  pub levels : All (IsFormedLevel n.cells) n.cells
  pub main : IsFormedLevel n.cells n.main
  pub top : IfSome n.top (λ name. IsTrue (is_among (map name_of_cell n.cells) name))
