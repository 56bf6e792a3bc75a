-- Where the cards of a netlist lie. A card lies in the cell of the last `.SUBCKT` before it that has no `.ENDS` between, or else on the main level.
-- What stands in a cell, or on the main level, are the devices and instances that lie there, in file order, and the pairs of the `.PARAM` cards there.
use Rattle.std.specs.Prelude.{ℕ, Bool, true, false, List, [], ◌∷◌, Option, Some, None, if◌then◌else◌}
use Rattle.std.specs.List.{filter_map, flat_map}
use Rattle.std.specs.Str.{bytes_eq}
use Rattle.cvc_base.specs.declared.param.Pair.{Pair}
use Rattle.cvc_card.specs.declared.card.Card.{Card}
use Rattle.cvc_card.specs.declared.card.Card.TheVariants.{Device, Inst, Subckt, Ends, Global, Params, Ignored}
use Rattle.cvc_card.specs.declared.card.CellCard.{CellCard}
use Rattle.cvc_cdl.specs.declared.netlist.Item.{Item}
use Rattle.cvc_cdl.specs.declared.netlist.Item.TheVariants as items

-- a card of a netlist, with its first line
pub record Entry : Type 0 where
  pub card : Card
  pub line : ℕ

-- the cell in which a card lies, by its name; none is the main level
abbrev pub Level : Type 0
Level = Option (List ℕ)

-- where the cards behind this one lie
abbrev pub level_after : Level → Card → Level
level_after level (Device d) = level
level_after level (Inst x) = level
level_after level (Subckt c) = Some c.name
level_after level (Ends name) = None
level_after level (Global names) = level
level_after level (Params pairs) = level
level_after level Ignored = level

-- where the cards behind all of these lie
unfoldable pub level_behind : Level → List Entry → Level
level_behind level [] = level
level_behind level (e ∷ es) = level_behind (level_after level e.card) es

pub record Placed : Type 0 where
  pub level : Level
  pub card : Card

-- the cards with the level of each, where the first lies at this one
unfoldable pub placed : Level → List Entry → List Placed
placed level [] = []
placed level (e ∷ es) = record { level = level; card = e.card } ∷ placed (level_after level e.card) es

abbrev pub same_level : Level → Level → Bool
same_level None None = true
same_level None (Some b) = false
same_level (Some a) None = false
same_level (Some a) (Some b) = bytes_eq a b

abbrev pub item_in : Card → Option Item
item_in (Device d) = Some (items.Device d)
item_in (Inst x) = Some (items.Inst x)
item_in (Subckt c) = None
item_in (Ends name) = None
item_in (Global names) = None
item_in (Params pairs) = None
item_in Ignored = None

abbrev pub pairs_in : Card → List Pair
pairs_in (Device d) = []
pairs_in (Inst x) = []
pairs_in (Subckt c) = []
pairs_in (Ends name) = []
pairs_in (Global names) = []
pairs_in (Params pairs) = pairs
pairs_in Ignored = []

abbrev pub item_at : Level → Placed → Option Item
item_at level p = if same_level level p.level then item_in p.card else None

abbrev pub some_pairs_at : Level → Placed → List Pair
some_pairs_at level p = if same_level level p.level then pairs_in p.card else []

-- the devices and instances that lie at a level
unfoldable pub items_at : Level → List Entry → List Item
items_at level entries = filter_map (item_at level) (placed None entries)

-- the pairs of the `.PARAM` cards that lie at a level
unfoldable pub pairs_at : Level → List Entry → List Pair
pairs_at level entries = flat_map (some_pairs_at level) (placed None entries)

abbrev pub cell_card_in : Entry → Option CellCard
cell_card_in e = cell_card_of e.card
  where
    cell_card_of : Card → Option CellCard
    cell_card_of (Subckt c) = Some c
    cell_card_of (Device d) = None
    cell_card_of (Inst x) = None
    cell_card_of (Ends name) = None
    cell_card_of (Global names) = None
    cell_card_of (Params pairs) = None
    cell_card_of Ignored = None

-- the `.SUBCKT` cards
unfoldable pub cell_cards : List Entry → List CellCard
cell_cards entries = filter_map cell_card_in entries
