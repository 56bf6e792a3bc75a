-- The text of a netlist is that of its printed cards, each on a line of its own.
use Rattle.std.proofs.Common.{◌≡◌, ℕ, List, [], ◌∷◌, ◌++◌, map, codes, None, refl, sym, ap, ap₂, ◌∙◌, append_assoc, append-nil}
use Rattle.std.specs.List.{flat_map}
use Rattle.std.proofs.lemmas.List.{map-append}
use Rattle.std.proofs.lemmas.List.Concat.{flat_map-append}
use Rattle.cvc_base.specs.declared.param.Pair.{Pair}
use Rattle.cvc_card.specs.declared.card.Card.{Card}
use Rattle.cvc_card.specs.declared.card.Card.TheVariants as cards
use Rattle.cvc_card.specs.declared.card.DeviceCard.{DeviceCard}
use Rattle.cvc_card.specs.declared.card.Ports.{Ports}
use Rattle.cvc_card.specs.declared.card.Ports.TheVariants.{ByOrder, ByName}
use Rattle.cvc_cdl.specs.declared.netlist.Cell.{Cell}
use Rattle.cvc_cdl.specs.declared.netlist.Global.{Global}
use Rattle.cvc_cdl.specs.declared.netlist.Item.{Item}
use Rattle.cvc_cdl.specs.declared.netlist.Item.TheVariants.{Device, Inst}
use Rattle.cvc_cdl.specs.declared.netlist.Netlist.{Netlist}
use Rattle.cvc_cdl.specs.Netlist.{name_of_global}
use Rattle.cvc_cdl.specs.Text.{line_feed, spaced_words, pair_text, pairs_text, device_text, connected_text, item_line, items_text, cell_text, global_word, globals_text, params_text, text_of}
use Rattle.cvc_cdl.specs.Printed.{global_cards, param_cards, item_card, item_cards, cell_cards, printed_cards}
use Rattle.cvc_cdl.specs.Pieces.{Word, piece_text, printed_text, whole_line}
use Rattle.cvc_cdl.proofs.Printable.{pair_piece, words_and_pairs, instance_pieces, card_line}

-- the text of cards, each on a line of its own
abbrev pub printed : List Card → List ℕ
printed cards = flat_map whole_line (map card_line cards)

printed-append : (xs ys : List Card) → printed (xs ++ ys) ≡ printed xs ++ printed ys
printed-append xs ys = ap (flat_map whole_line) (map-append card_line xs ys) ∙ flat_map-append whole_line (map card_line xs) (map card_line ys)

-- ## Pieces

words_text : (words : List (List ℕ)) → flat_map piece_text (map Word words) ≡ spaced_words words
words_text [] = refl
words_text (w ∷ words) = ap (λ t. (32 ∷ w) ++ t) (words_text words)

pieces_text : (pairs : List Pair) → flat_map piece_text (map pair_piece pairs) ≡ pairs_text pairs
pieces_text [] = refl
pieces_text (p ∷ pairs) = ap (λ t. pair_text p ++ t) (pieces_text pairs)

both_text : (words : List (List ℕ)) (pairs : List Pair) → flat_map piece_text (words_and_pairs words pairs) ≡ spaced_words words ++ pairs_text pairs
both_text words pairs = flat_map-append piece_text (map Word words) (map pair_piece pairs) ∙ ap₂ (λ s t. s ++ t) (words_text words) (pieces_text pairs)

ruleset texts = (flat_map-append, words_text, pieces_text, append_assoc, append-nil)

-- ## Items

device_line : (d : DeviceCard) → printed_text (card_line (cards.Device d)) ≡ device_text d
device_line d = simp texts

connected_line : (cell : List ℕ) (pairs : List Pair) (ports : Ports) → flat_map piece_text (instance_pieces cell pairs ports) ≡ connected_text cell pairs ports
connected_line cell pairs (ByOrder nets) = simp texts
connected_line cell pairs (ByName connections) = simp texts (ap (λ t. codes " / " ++ t) (append_assoc cell (pairs_text pairs) (codes " $PINS" ++ pairs_text connections)))

item_is : (item : Item) → whole_line (card_line (item_card item)) ≡ item_line item
item_is (Device d) = ap (λ t. t ++ line_feed) (device_line d)
item_is (Inst x) = ap (λ t. (x.name ++ t) ++ line_feed) (connected_line x.cell x.pairs x.ports)

items_are : (items : List Item) → printed (item_cards items) ≡ items_text items
items_are [] = refl
items_are (item ∷ items) = ap₂ (λ s t. s ++ t) (item_is item) (items_are items)

-- ## Cells

cell_is : (c : Cell) → printed (cell_cards c) ≡ cell_text c
cell_is c =
    let behind : printed (item_cards c.items ++ cards.Ends None ∷ []) ≡ items_text c.items ++ codes ".ENDS\n" =
    printed-append (item_cards c.items) (cards.Ends None ∷ []) ∙ ap (λ t. t ++ codes ".ENDS\n") (items_are c.items) in
    ap₂ (λ s t. (codes ".SUBCKT" ++ ((32 ∷ c.name) ++ s) ++ line_feed) ++ t) (both_text c.ports c.pairs) behind ∙ simp append_assoc

cells_are : (cells : List Cell) → printed (flat_map cell_cards cells) ≡ flat_map cell_text cells
cells_are [] = refl
cells_are (c ∷ cells) = printed-append (cell_cards c) (flat_map cell_cards cells) ∙ ap₂ (λ s t. s ++ t) (cell_is c) (cells_are cells)

-- ## The netlist

global_words : (globals : List Global) → flat_map piece_text (words_and_pairs (map name_of_global globals) []) ≡ flat_map global_word globals
global_words [] = refl
global_words (g ∷ gs) = ap (λ t. (32 ∷ g.name) ++ t) (global_words gs)

globals_are : (globals : List Global) → printed (global_cards globals) ≡ globals_text globals
globals_are [] = refl
globals_are (g ∷ gs) = simp append-nil (ap (λ t. codes "*.GLOBAL" ++ t ++ line_feed) (global_words (g ∷ gs)))

params_are : (params : List Pair) → printed (param_cards params) ≡ params_text params
params_are [] = refl
params_are (p ∷ ps) = simp append-nil (ap (λ t. codes ".PARAM" ++ t ++ line_feed) (pieces_text (p ∷ ps)))

cards_text : (n : Netlist) → flat_map whole_line (map card_line (printed_cards n)) ≡ text_of n
unfolding text_of printed_cards
cards_text n =
    printed-append (global_cards n.globals ++ param_cards n.params ++ flat_map cell_cards n.cells) (item_cards n.main.items)
    ∙ ap₂ (λ s t. s ++ t)
    (printed-append (global_cards n.globals ++ param_cards n.params) (flat_map cell_cards n.cells)
    ∙ ap₂ (λ s t. s ++ t) (printed-append (global_cards n.globals) (param_cards n.params) ∙ ap₂ (λ s t. s ++ t) (globals_are n.globals) (params_are n.params)) (cells_are n.cells))
    (items_are n.main.items)

pub text_of_cards : (n : Netlist) → text_of n ≡ flat_map whole_line (map card_line (printed_cards n))
text_of_cards n = sym (cards_text n)
