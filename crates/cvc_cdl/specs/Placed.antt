-- Instances with the places of the cells that they name.
use Rattle.std.specs.Prelude.{◌≡◌, ℕ, ◌<◌, List, length, map, Option, IfSome}
use Rattle.cvc_card.specs.declared.card.InstCard.{InstCard}
use Rattle.cvc_cdl.specs.declared.library.Placed.{Placed}
use Rattle.cvc_cdl.specs.declared.netlist.Cell.{Cell}
use Rattle.cvc_cdl.specs.Netlist.{name_of_cell}
use Rattle.cvc_cdl.specs.Lookup.{place_of}

-- it has the place of the cell that its instance names
pub record IsPlaced (cells : List Cell) (p : Placed) : Type 0 where
  pub at : p.place ≡ place_of (map name_of_cell cells) p.inst.now.cell
  pub within : IfSome p.place (λ place. place < length cells)

abbrev pub inst_placed : Placed → InstCard
inst_placed p = p.inst.now

abbrev pub insts_placed : List Placed → List InstCard
insts_placed ps = map inst_placed ps

abbrev pub place_placed : Placed → Option ℕ
place_placed p = p.place
