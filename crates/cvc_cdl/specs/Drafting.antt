-- What a card changes in a draft, and its cause there. Only the builder's own parts speak of this.
use Rattle.std.specs.Prelude.{◌≡◌, ℕ, List, [], ◌∷◌, ◌++◌, length, map, Option, Some, None, is_some, Result, Ok, Err, if◌then◌else◌}
use Rattle.std.specs.Option.{option_map, option_to_list}
use Rattle.cvc_base.specs.declared.cause.Cause.{Cause}
use Rattle.cvc_base.specs.declared.cause.Cause.TheVariants.{NestedSubckt, TwiceCell, TwicePort, TwiceName}
use Rattle.cvc_base.specs.declared.fault.Refusal.{Refusal}
use Rattle.cvc_base.specs.declared.fault.FileKind.TheVariants.{Netlist}
use Rattle.cvc_base.specs.Faults.{refusal_on}
use Rattle.cvc_base.specs.declared.param.Pair.{Pair}
use Rattle.cvc_card.specs.declared.card.Card.{Card}
use Rattle.cvc_card.specs.declared.card.Card.TheVariants.{Device, Inst, Subckt, Ends, Global, Params, Ignored}
use Rattle.cvc_card.specs.declared.card.CellCard.{CellCard}
use Rattle.cvc_card.specs.Card.{has_twice}
use Rattle.cvc_cdl.specs.declared.netlist.Cell.{Cell}
use Rattle.cvc_cdl.specs.declared.netlist.Global.{Global as GlobalNet}
use Rattle.cvc_cdl.specs.declared.netlist.Item.{Item}
use Rattle.cvc_cdl.specs.declared.netlist.Item.TheVariants as items
use Rattle.cvc_cdl.specs.declared.draft.Draft.{Draft as HeldDraft}
use Rattle.cvc_cdl.specs.declared.draft.OpenCell.{OpenCell}
use Rattle.cvc_base.specs.declared.stop.Stop.{Stop}
use Rattle.cvc_base.specs.declared.stop.Stop.TheVariants as stops
use Rattle.cvc_cdl.specs.Levels.{Level}
use Rattle.cvc_cdl.specs.Netlist.{globals_in, name_of_cell}
use Rattle.cvc_cdl.specs.Building.{cause_if, ends_cause, is_among, name_of_item}
use Rattle.cvc_cdl.specs.Builder.{Draft}

-- ## What the code keeps

-- a cell that has no end yet, as it is so far
abbrev pub cell_held : OpenCell → Cell
cell_held o = record { name = o.card.name; ports = o.card.ports; pairs = o.card.pairs; items = o.level; line = o.card.line }

abbrev pub name_held : OpenCell → List ℕ
name_held o = o.card.name

abbrev pub item_names : List Item → List (List ℕ)
item_names items = map name_of_item items

abbrev pub names_held : Option OpenCell → List (List ℕ)
names_held None = []
names_held (Some o) = item_names o.level

abbrev pub cells_held : List Cell → Option OpenCell → List Cell
cells_held ended current = ended ++ option_to_list (option_map cell_held current)

abbrev pub draft_held : HeldDraft → Draft
draft_held d = record {
  level = option_map name_held d.current;
  globals = d.globals;
  global_names = d.global_names;
  params = d.params;
  cells = cells_held d.ended d.current;
  cell_names = d.cell_names;
  items = d.main;
  names = item_names d.main;
  inner_names = names_held d.current;
  places = d.places.items;
}

-- the names of the cells are known
abbrev pub AreNamed : Draft → Type 0
AreNamed d = d.cell_names ≡ map name_of_cell d.cells

-- ## What a card changes

-- the last cell changes
abbrev pub in_last : (Cell → Cell) → List Cell → List Cell
in_last f [] = []
in_last f (c ∷ []) = f c ∷ []
in_last f (c ∷ d ∷ cs) = c ∷ in_last f (d ∷ cs)

abbrev pub cell_with_item : Item → Cell → Cell
cell_with_item item c = record c { items = c.items ++ item ∷ [] }

abbrev pub cell_with_pairs : List Pair → Cell → Cell
cell_with_pairs pairs c = record c { pairs = c.pairs ++ pairs }

abbrev pub begun_cell : CellCard → Cell
begun_cell c = record { name = c.name; ports = c.ports; pairs = c.pairs; items = []; line = c.line }

abbrev pub with_item : Level → Draft → Item → Draft
with_item None d item = record d { items = d.items ++ item ∷ []; names = d.names ++ name_of_item item ∷ [] }
with_item (Some name) d item = record d { cells = in_last (cell_with_item item) d.cells; inner_names = d.inner_names ++ name_of_item item ∷ [] }

abbrev pub with_pairs : Level → Draft → List Pair → Draft
with_pairs None d pairs = record d { params = d.params ++ pairs }
with_pairs (Some name) d pairs = record d { cells = in_last (cell_with_pairs pairs) d.cells }

abbrev pub with_cell : Draft → CellCard → Draft
with_cell d c = record d {
  level = Some c.name;
  cells = d.cells ++ begun_cell c ∷ [];
  cell_names = d.cell_names ++ c.name ∷ [];
  inner_names = [];
  places = d.places ++ length d.items ∷ [];
}

abbrev pub without_level : Draft → Draft
without_level d = record d { level = None; inner_names = [] }

-- the globals, where these names are known; and the names
unfoldable pub globals_once : List (List ℕ) → List GlobalNet → List GlobalNet → List GlobalNet
globals_once names known [] = known
globals_once names known (g ∷ gs) = if is_among names g.name then globals_once names known gs else globals_once (names ++ g.name ∷ []) (known ++ g ∷ []) gs

unfoldable pub names_once : List (List ℕ) → List GlobalNet → List (List ℕ)
names_once names [] = names
names_once names (g ∷ gs) = if is_among names g.name then names_once names gs else names_once (names ++ g.name ∷ []) gs

abbrev pub with_globals : Draft → List GlobalNet → Draft
with_globals d named = record d { globals = globals_once d.global_names d.globals named; global_names = names_once d.global_names named }

abbrev pub with_card : Draft → ℕ → Card → Draft
with_card d line (Device x) = with_item d.level d (items.Device x)
with_card d line (Inst x) = with_item d.level d (items.Inst x)
with_card d line (Subckt c) = with_cell d c
with_card d line (Ends name) = without_level d
with_card d line (Global names) = with_globals d (globals_in line (Global names))
with_card d line (Params pairs) = with_pairs d.level d pairs
with_card d line Ignored = d

-- ## The cause at a card

-- the names on the level where the next card lies
abbrev pub names_here : Level → Draft → List (List ℕ)
names_here None d = d.names
names_here (Some name) d = d.inner_names

abbrev pub item_cause : List (List ℕ) → Item → Option Cause
item_cause names item = cause_if (is_among names (name_of_item item)) TwiceName

abbrev pub begun_cause : Draft → CellCard → Option Cause
begun_cause d c =
    if is_some d.level then Some NestedSubckt
    else (if is_among d.cell_names c.name then Some TwiceCell
    else cause_if (has_twice c.ports) TwicePort)

abbrev pub cause_in : Draft → Card → Option Cause
cause_in d (Device x) = item_cause (names_here d.level d) (items.Device x)
cause_in d (Inst x) = item_cause (names_here d.level d) (items.Inst x)
cause_in d (Subckt c) = begun_cause d c
cause_in d (Ends name) = ends_cause d.level name
cause_in d (Global names) = None
cause_in d (Params pairs) = None
cause_in d Ignored = None

-- ## What a step answers

-- the change is made, or there is a cause against it; want of memory says nothing
abbrev pub Becomes : {A : Type 0} → Option Cause → A → A → Result (Unit {0}) Stop → Type 0
Becomes cause wanted new (Ok done) = (cause ≡ None) × (new ≡ wanted)
Becomes cause wanted new (Err (stops.At first)) = cause ≡ Some first
Becomes cause wanted new (Err stops.NoMemory) = Unit {0}

-- the refusal that a stop at a card makes
abbrev pub refusal_of : ℕ → Stop → Refusal
refusal_of line stop = refusal_on Netlist line stop

-- the refusal that an answer at a card leaves
abbrev pub refused_by : ℕ → Result (Unit {0}) Stop → Option Refusal
refused_by line (Ok done) = None
refused_by line (Err stop) = Some (refusal_of line stop)
