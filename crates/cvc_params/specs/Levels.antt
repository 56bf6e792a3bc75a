-- The way to an instance as it is kept while the walk goes: its levels from the top on, the innermost last. Each level has its card and the cell
-- that the card names.
use Rattle.std.specs.Prelude.{◌≡◌, List, All, map, reverse}
use Rattle.cvc_card.specs.declared.card.InstCard.{InstCard}
use Rattle.cvc_cdl.specs.declared.netlist.Netlist.{Netlist}
use Rattle.cvc_cdl.specs.Instances.{Instance, cell_for}
use Rattle.cvc_params.specs.declared.level.Level.{Level}

abbrev pub card_of : Level → InstCard
card_of l = l.card.now

-- the instance at the end of the way
abbrev pub instance_of : List Level → Instance
instance_of levels = reverse (map card_of levels)

-- each level's cell is the one that its card names
abbrev pub AreLevels : Netlist → List Level → Type 0
AreLevels n levels = All (λ (l : Level). l.cell.now ≡ cell_for n l.card.now.cell) levels
