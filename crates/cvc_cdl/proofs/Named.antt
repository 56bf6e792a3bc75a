-- The names of the cells stay known, card by card.
use Rattle.std.proofs.Common.{◌≡◌, ℕ, List, [], ◌∷◌, ◌++◌, map, Option, Some, None, refl, sym, ap, subst, ◌∙◌}
use Rattle.std.proofs.lemmas.List.{append-nil, map-append}
use Rattle.cvc_base.specs.declared.param.Pair.{Pair}
use Rattle.cvc_card.specs.declared.card.Card.{Card}
use Rattle.cvc_card.specs.declared.card.Card.TheVariants.{Device, Inst, Subckt, Ends, Global, Params, Ignored}
use Rattle.cvc_cdl.specs.declared.draft.Draft.{Draft as HeldDraft}
use Rattle.cvc_cdl.specs.declared.draft.OpenCell.{OpenCell}
use Rattle.cvc_cdl.specs.declared.netlist.Cell.{Cell}
use Rattle.cvc_cdl.specs.declared.netlist.Item.{Item}
use Rattle.cvc_cdl.specs.declared.netlist.Item.TheVariants as items
use Rattle.cvc_cdl.specs.Levels.{Level}
use Rattle.cvc_cdl.specs.Netlist.{name_of_cell}
use Rattle.cvc_cdl.specs.Builder.{Draft}
use Rattle.cvc_cdl.specs.Drafting.{AreNamed, begun_cell, cell_with_item, cell_with_pairs, cells_held, draft_held, in_last, with_card, with_item, with_pairs}

in_last-names : (f : Cell → Cell) → ((c : Cell) → (f c).name ≡ c.name) → (cs : List Cell) → map name_of_cell (in_last f cs) ≡ map name_of_cell cs
in_last-names f same [] = refl
in_last-names f same (c ∷ []) = ap (λ (n : List ℕ). n ∷ []) (same c)
in_last-names f same (c ∷ d ∷ cs) = ap (λ (ns : List (List ℕ)). c.name ∷ ns) (in_last-names f same (d ∷ cs))

named_item : (level : Level) (d : Draft) (item : Item) → AreNamed d → AreNamed (with_item level d item)
named_item None d item h = h
named_item (Some name) d item h = h ∙ sym (in_last-names (cell_with_item item) (λ c. refl) d.cells)

named_pairs : (level : Level) (d : Draft) (pairs : List Pair) → AreNamed d → AreNamed (with_pairs level d pairs)
named_pairs None d pairs h = h
named_pairs (Some name) d pairs h = h ∙ sym (in_last-names (cell_with_pairs pairs) (λ c. refl) d.cells)

named_card : (d : Draft) (line : ℕ) (card : Card) → AreNamed d → AreNamed (with_card d line card)
named_card d line (Device x) h = named_item d.level d (items.Device x) h
named_card d line (Inst x) h = named_item d.level d (items.Inst x) h
named_card d line (Subckt c) h = ap (λ (ns : List (List ℕ)). ns ++ c.name ∷ []) h ∙ sym (map-append name_of_cell d.cells (begun_cell c ∷ []))
named_card d line (Ends name) h = h
named_card d line (Global names) h = h
named_card d line (Params pairs) h = named_pairs d.level d pairs h
named_card d line Ignored h = h

pub named_after : (d new : Draft) (line : ℕ) (card : Card) → AreNamed d → new ≡ with_card d line card → AreNamed new
named_after d new line card h e = subst AreNamed (sym e) (named_card d line card h)

-- the names of the cells that have ended, where none is open
pub names_ended : (d : HeldDraft) → d.current ≡ None → AreNamed (draft_held d) → (cells : List Cell) → cells ≡ d.ended → d.cell_names ≡ map name_of_cell cells
names_ended d is h cells c = h ∙ ap (λ (o : Option OpenCell). map name_of_cell (cells_held d.ended o)) is ∙ ap (map name_of_cell) (append-nil d.ended ∙ sym c)
