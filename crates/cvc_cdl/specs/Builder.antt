-- What a builder stands for: the list of cards that it was given, with their first lines. Until one of them is refused its state is the one that these
-- give; it keeps no list of cards.
use Rattle.std.specs.Prelude.{◌≡◌, ℕ, List, [], ◌∷◌, ◌++◌, length, map, Option, Some, None, All}
use Rattle.std.specs.Borrow.{Bor}
use Rattle.std.specs.Option.{option_map}
use Rattle.cvc_base.specs.declared.fault.Refusal.{Refusal}
use Rattle.cvc_base.specs.declared.fault.Refusal.TheVariants.{At, NoMemory}
use Rattle.cvc_base.specs.declared.param.Pair.{Pair}
use Rattle.cvc_card.specs.declared.card.Card.{Card}
use Rattle.cvc_card.specs.declared.card.Card.TheVariants.{Device, Inst, Subckt, Ends, Global as Globals, Params, Ignored}
use Rattle.cvc_card.specs.Formed.{IsFormed}
use Rattle.cvc_cdl.specs.declared.netlist.Cell.{Cell}
use Rattle.cvc_cdl.specs.declared.netlist.Global.{Global}
use Rattle.cvc_cdl.specs.declared.netlist.Item.{Item}
use Rattle.cvc_cdl.specs.Levels.{Entry, Level, level_behind, items_at, pairs_at}
use Rattle.cvc_cdl.specs.Netlist.{globals_of, cells_of, name_of_cell, name_of_global}
use Rattle.cvc_cdl.specs.Building.{building_fault, name_of_item}

-- what the cards so far say, and the names in it
pub record Draft : Type 0 where
  -- where the next card lies
  pub level : Level
  pub globals : List Global
  pub global_names : List (List ℕ)
  pub params : List Pair
  pub cells : List Cell
  pub cell_names : List (List ℕ)
  -- what stands on the main level
  pub items : List Item
  pub names : List (List ℕ)
  -- the names of what stands in the open cell
  pub inner_names : List (List ℕ)
  -- for each cell, how many items stand on the main level before it
  pub places : List ℕ

pub record Building : Type 0 where
  pub refused : Option Refusal
  pub draft : Draft

abbrev pub place_in : ℕ → Card → List ℕ
place_in n (Subckt c) = n ∷ []
place_in n (Device d) = []
place_in n (Inst x) = []
place_in n (Ends name) = []
place_in n (Globals names) = []
place_in n (Params pairs) = []
place_in n Ignored = []

-- for each cell that comes behind the earlier cards, how many items stand on the main level before it
unfoldable pub places_behind : List Entry → List Entry → List ℕ
places_behind earlier [] = []
places_behind earlier (e ∷ es) = place_in (length (items_at None earlier)) e.card ++ places_behind (earlier ++ e ∷ []) es

abbrev pub names_at : Level → List Entry → List (List ℕ)
names_at level entries = map name_of_item (items_at level entries)

abbrev pub names_inside : Level → List Entry → List (List ℕ)
names_inside None entries = []
names_inside (Some name) entries = names_at (Some name) entries

abbrev pub draft_of : List Entry → Draft
draft_of entries = record {
  level = level_behind None entries;
  globals = globals_of entries;
  global_names = map name_of_global (globals_of entries);
  params = pairs_at None entries;
  cells = cells_of entries;
  cell_names = map name_of_cell (cells_of entries);
  items = items_at None entries;
  names = names_at None entries;
  inner_names = names_inside (level_behind None entries) entries;
  places = places_behind [] entries;
}

abbrev pub entry_of : Card → ℕ → Entry
entry_of card line = record { card = card; line = line }

abbrev pub IsFormedEntry : Entry → Type 0
IsFormedEntry e = IsFormed e.line e.card

-- what is known of the cards and the draft until a card was refused
pub record IsBuilding (built : Draft) (entries : List Entry) : Type 0 where
  pub formed : All IsFormedEntry entries
  pub faultless : building_fault entries ≡ None
  pub drafted : built ≡ draft_of entries

abbrev pub HasBuilt : Draft → List Entry → Option Refusal → Type 0
HasBuilt draft entries None = IsBuilding draft entries
HasBuilt draft entries (Some (At fault)) = building_fault entries ≡ Some fault
HasBuilt draft entries (Some NoMemory) = Unit {0}

-- the builder was given these cards
abbrev pub StandsFor : Building → List Entry → Type 0
StandsFor b entries = HasBuilt b.draft entries b.refused

-- ## What the calls answer

-- the name of the top that is asked for
abbrev pub named_top : Option (Bor (List ℕ)) → Option (List ℕ)
named_top top = option_map (λ (name : Bor (List ℕ)). name.now) top
