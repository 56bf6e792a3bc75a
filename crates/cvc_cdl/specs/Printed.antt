-- The cards of a printed netlist: one of all global nets, one of the parameters, the cells from `.SUBCKT` to `.ENDS`, and what stands on the main level,
-- each on a line of its own. And what is so of every netlist that was read, beside that it is well formed: its main level has an empty name, no ports
-- and no pairs, and its top is the one that it would have by default, where none was asked for.
use Rattle.std.specs.Prelude.{◌≡◌, ℕ, ◌+◌, List, [], ◌∷◌, ◌++◌, map, Option, None}
use Rattle.std.specs.List.{flat_map}
use Rattle.cvc_base.specs.declared.param.Pair.{Pair}
use Rattle.cvc_card.specs.declared.card.Card.{Card}
use Rattle.cvc_card.specs.declared.card.Card.TheVariants as cards
use Rattle.cvc_cdl.specs.declared.netlist.Cell.{Cell}
use Rattle.cvc_cdl.specs.declared.netlist.Global.{Global}
use Rattle.cvc_cdl.specs.declared.netlist.Item.{Item}
use Rattle.cvc_cdl.specs.declared.netlist.Item.TheVariants.{Device, Inst}
use Rattle.cvc_cdl.specs.declared.netlist.Netlist.{Netlist}
use Rattle.cvc_cdl.specs.Levels.{Entry}
use Rattle.cvc_cdl.specs.Netlist.{name_of_global, top_of}
use Rattle.cvc_cdl.specs.WellFormed.{IsWellFormed}

abbrev pub global_cards : List Global → List Card
global_cards [] = []
global_cards (g ∷ gs) = cards.Global (map name_of_global (g ∷ gs)) ∷ []

abbrev pub param_cards : List Pair → List Card
param_cards [] = []
param_cards (p ∷ ps) = cards.Params (p ∷ ps) ∷ []

abbrev pub item_card : Item → Card
item_card (Device d) = cards.Device d
item_card (Inst x) = cards.Inst x

abbrev pub item_cards : List Item → List Card
item_cards items = map item_card items

abbrev pub cell_cards : Cell → List Card
cell_cards c = cards.Subckt record { name = c.name; ports = c.ports; pairs = c.pairs; line = c.line } ∷ item_cards c.items ++ cards.Ends None ∷ []

unfoldable pub printed_cards : Netlist → List Card
printed_cards n = global_cards n.globals ++ param_cards n.params ++ flat_map cell_cards n.cells ++ item_cards n.main.items

-- the card as it is read from this line
abbrev pub at_line : ℕ → Card → Card
at_line line (cards.Device d) = cards.Device (record d { line = line })
at_line line (cards.Inst x) = cards.Inst (record x { line = line })
at_line line (cards.Subckt c) = cards.Subckt (record c { line = line })
at_line line (cards.Ends name) = cards.Ends name
at_line line (cards.Global names) = cards.Global names
at_line line (cards.Params pairs) = cards.Params pairs
at_line line cards.Ignored = cards.Ignored

-- the cards on lines of their own, from this number on
unfoldable pub numbered : ℕ → List Card → List Entry
numbered line [] = []
numbered line (card ∷ more) = record { card = at_line line card; line = line } ∷ numbered (line + 1) more

pub record IsNetlist (top : Option (List ℕ)) (n : Netlist) : Type 0 where
  pub well_formed : IsWellFormed n
  pub main : n.main ≡ record { name = []; ports = []; pairs = []; items = n.main.items; line = 0 }
  pub top_is : n.top ≡ top_of top n.main.items n.cells
