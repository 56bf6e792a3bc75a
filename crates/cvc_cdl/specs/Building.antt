-- The faults of cards by the cards before them, and the first of them. On one `.SUBCKT` card the order is NestedSubckt, TwiceCell, TwicePort, and on one
-- `.ENDS` card StrayEnds, EndsName. Each is printed with the card's first line.
pub use Rattle.cvc_names.specs.Names.{is_among}
use Rattle.std.specs.Prelude.{ℕ, Bool, List, [], ◌∷◌, ◌++◌, map, Option, Some, None, is_some, if◌then◌else◌}
use Rattle.std.specs.Option.{option_map}
use Rattle.std.specs.Str.{bytes_eq}
use Rattle.cvc_base.specs.declared.cause.Cause.{Cause}
use Rattle.cvc_base.specs.declared.cause.Cause.TheVariants.{NestedSubckt, StrayEnds, EndsName, TwiceCell, TwicePort, TwiceName}
use Rattle.cvc_base.specs.declared.fault.Fault.{Fault}
use Rattle.cvc_base.specs.declared.fault.FileKind.TheVariants.{Netlist}
use Rattle.cvc_card.specs.declared.card.Card.{Card}
use Rattle.cvc_card.specs.declared.card.Card.TheVariants.{Device, Inst, Subckt, Ends, Global, Params, Ignored}
use Rattle.cvc_card.specs.declared.card.CellCard.{CellCard}
use Rattle.cvc_card.specs.Card.{has_twice}
use Rattle.cvc_names.specs.Chains.{text_hash}
use Rattle.cvc_cdl.specs.declared.netlist.Item.{Item}
use Rattle.cvc_cdl.specs.declared.netlist.Item.TheVariants as items
use Rattle.cvc_cdl.specs.Levels.{Entry, Level, level_behind, items_at, cell_cards}

abbrev pub fault_at : ℕ → Cause → Fault
fault_at line cause = record { place = record { file = Netlist; line = line }; cause = cause }

-- ## The cause at a card

abbrev pub name_of_item : Item → List ℕ
name_of_item (items.Device d) = d.name
name_of_item (items.Inst x) = x.name

abbrev pub hash_of_item : Item → ℕ
hash_of_item item = text_hash (name_of_item item)

-- an item of this name stands at the level
abbrev pub is_taken : Level → List Entry → List ℕ → Bool
is_taken level earlier name = is_among (map name_of_item (items_at level earlier)) name

-- a cell of this name has begun
abbrev pub has_begun : List Entry → List ℕ → Bool
has_begun earlier name = is_among (map (λ (c : CellCard). c.name) (cell_cards earlier)) name

abbrev pub cause_if : Bool → Cause → Option Cause
cause_if holds cause = if holds then Some cause else None

abbrev pub subckt_cause : Level → List Entry → CellCard → Option Cause
subckt_cause level earlier c =
    if is_some level then Some NestedSubckt
    else (if has_begun earlier c.name then Some TwiceCell
    else cause_if (has_twice c.ports) TwicePort)

abbrev pub ends_cause : Level → Option (List ℕ) → Option Cause
ends_cause None name = Some StrayEnds
ends_cause (Some cell) None = None
ends_cause (Some cell) (Some name) = if bytes_eq name cell then None else Some EndsName

-- the cause at a card that lies at this level behind the earlier cards
abbrev pub cause_at : Level → List Entry → Card → Option Cause
cause_at level earlier (Device d) = cause_if (is_taken level earlier d.name) TwiceName
cause_at level earlier (Inst x) = cause_if (is_taken level earlier x.name) TwiceName
cause_at level earlier (Subckt c) = subckt_cause level earlier c
cause_at level earlier (Ends name) = ends_cause level name
cause_at level earlier (Global names) = None
cause_at level earlier (Params pairs) = None
cause_at level earlier Ignored = None

unfoldable pub cause_of : List Entry → Card → Option Cause
cause_of earlier card = cause_at (level_behind None earlier) earlier card

-- ## The first fault

abbrev pub or_else : {A : Type 0} → Option A → Option A → Option A
or_else None other = other
or_else (Some x) other = Some x

abbrev pub fault_of : List Entry → Entry → Option Fault
fault_of earlier e = option_map (fault_at e.line) (cause_of earlier e.card)

-- the first fault of the cards that come behind the earlier ones
unfoldable pub first_fault : List Entry → List Entry → Option Fault
first_fault earlier [] = None
first_fault earlier (e ∷ es) = or_else (fault_of earlier e) (first_fault (earlier ++ e ∷ []) es)

abbrev pub building_fault : List Entry → Option Fault
building_fault entries = first_fault [] entries
