-- The cards of a netlist that was read can be printed, but for a global net that is named by a lone `/`.
use Rattle.std.proofs.Common.{◌≡◌, ℕ, false, List, [], ◌∷◌, ◌++◌, map, Option, Some, None, All, IfSome, if◌then◌else◌, refl}
use Rattle.std.specs.List.{cons_option, filter_map, flat_map}
use Rattle.std.proofs.lemmas.Bool.{cond_both}
use Rattle.std.proofs.lemmas.List.Elements.{All-append, All-cons, All-head, All-map, All-nil, All-push, All-tail, All-weaker}
use Rattle.cvc_base.specs.declared.param.Pair.{Pair}
use Rattle.cvc_card.specs.declared.card.Card.{Card}
use Rattle.cvc_card.specs.declared.card.Card.TheVariants as cards
use Rattle.cvc_card.specs.declared.card.CellCard.{CellCard}
use Rattle.cvc_card.specs.Words.{is_slash}
use Rattle.cvc_card.proofs.FormNames.{cell_form, params_form}
use Rattle.cvc_cdl.specs.declared.netlist.Cell.{Cell}
use Rattle.cvc_cdl.specs.declared.netlist.Global.{Global}
use Rattle.cvc_cdl.specs.declared.netlist.Item.{Item}
use Rattle.cvc_cdl.specs.declared.netlist.Item.TheVariants as items
use Rattle.cvc_cdl.specs.declared.netlist.Netlist.{Netlist}
use Rattle.cvc_cdl.specs.Levels.{Entry, Level, Placed, cell_card_in, cell_cards, item_at, item_in, items_at, level_after, pairs_at, pairs_in, placed, same_level, some_pairs_at}
use Rattle.cvc_cdl.specs.Netlist.{cell_of, cells_of, each_once, globals_in, globals_of, is_known, mentions, name_of_global, netlist_of}
use Rattle.cvc_cdl.specs.Alike.{IsPrintable}
use Rattle.cvc_cdl.specs.Printed.{global_cards, item_card, item_cards, param_cards, printed_cards}
use Rattle.cvc_cdl.specs.Printed as printed
use Rattle.cvc_cdl.proofs.Printable.{IsParameter, IsReadGlobal, IsReadCell, IsReadCard, NamesNoSlash, IsPrintableCard}

abbrev pub IsReadEntry : Entry → Type 0
IsReadEntry e = IsReadCard e.card

-- ## Lists

one_kept : {Y : Type 0} (Q : Y → Type 0) (o : Option Y) (rest : List Y) → IfSome o Q → All Q rest → All Q (cons_option o rest)
one_kept Q None rest h more = more
one_kept Q (Some y) rest h more = All-cons Q y rest h more

kept_some : {X Y : Type 0} (P : X → Type 0) (Q : Y → Type 0) (f : X → Option Y) → ((x : X) → P x → IfSome (f x) Q) → (xs : List X) → All P xs → All Q (filter_map f xs)
kept_some P Q f step [] h = All-nil Q
kept_some P Q f step (x ∷ xs) h = one_kept Q (f x) (filter_map f xs) (step x (All-head P x xs h)) (kept_some P Q f step xs (All-tail P x xs h))

all_joined : {X Y : Type 0} (P : X → Type 0) (Q : Y → Type 0) (f : X → List Y) → ((x : X) → P x → All Q (f x)) → (xs : List X) → All P xs → All Q (flat_map f xs)
all_joined P Q f step [] h = All-nil Q
all_joined P Q f step (x ∷ xs) h = All-append Q (f x) (flat_map f xs) (step x (All-head P x xs h)) (all_joined P Q f step xs (All-tail P x xs h))

-- ## What lies at a level

abbrev IsReadPlaced : Placed → Type 0
IsReadPlaced p = IsReadCard p.card

placed_good : (level : Level) (entries : List Entry) → All IsReadEntry entries → All IsReadPlaced (placed level entries)
unfolding placed
placed_good level [] h = All-nil IsReadPlaced
placed_good level (e ∷ es) h =
    All-cons IsReadPlaced (record { level = level; card = e.card }) (placed (level_after level e.card) es) (All-head IsReadEntry e es h) (placed_good (level_after level e.card) es (All-tail IsReadEntry e es h))

abbrev IsReadItemCard : Item → Type 0
IsReadItemCard item = IsReadCard (item_card item)

item_good : (card : Card) → IsReadCard card → IfSome (item_in card) IsReadItemCard
item_good (cards.Device d) h = h
item_good (cards.Inst x) h = h
item_good (cards.Subckt c) h = tt
item_good (cards.Ends name) h = tt
item_good (cards.Global names) h = tt
item_good (cards.Params pairs) h = tt
item_good cards.Ignored h = tt

item_at_good : (level : Level) (p : Placed) → IsReadPlaced p → IfSome (item_at level p) IsReadItemCard
item_at_good level p h = cond_both (same_level level p.level) (item_in p.card) None (λ o. IfSome o IsReadItemCard) (λ here. item_good p.card h) (λ elsewhere. tt)

items_good : (level : Level) (entries : List Entry) → All IsReadEntry entries → All IsReadItemCard (items_at level entries)
unfolding items_at
items_good level entries h = kept_some IsReadPlaced IsReadItemCard (item_at level) (item_at_good level) (placed None entries) (placed_good None entries h)

pairs_good : (card : Card) → IsReadCard card → All (IsParameter params_form) (pairs_in card)
pairs_good (cards.Device d) h = All-nil (IsParameter params_form)
pairs_good (cards.Inst x) h = All-nil (IsParameter params_form)
pairs_good (cards.Subckt c) h = All-nil (IsParameter params_form)
pairs_good (cards.Ends name) h = All-nil (IsParameter params_form)
pairs_good (cards.Global names) h = All-nil (IsParameter params_form)
pairs_good (cards.Params pairs) h = h
pairs_good cards.Ignored h = All-nil (IsParameter params_form)

some_pairs_good : (level : Level) (p : Placed) → IsReadPlaced p → All (IsParameter params_form) (some_pairs_at level p)
some_pairs_good level p h =
    cond_both (same_level level p.level) (pairs_in p.card) [] (All (IsParameter params_form)) (λ here. pairs_good p.card h) (λ elsewhere. All-nil (IsParameter params_form))

params_good : (level : Level) (entries : List Entry) → All IsReadEntry entries → All (IsParameter params_form) (pairs_at level entries)
unfolding pairs_at
params_good level entries h = all_joined IsReadPlaced (IsParameter params_form) (some_pairs_at level) (some_pairs_good level) (placed None entries) (placed_good None entries h)

-- ## Cells

cell_card_good : (card : Card) (line : ℕ) → IsReadCard card → IfSome (cell_card_in record { card = card; line = line }) IsReadCell
cell_card_good (cards.Device d) line h = tt
cell_card_good (cards.Inst x) line h = tt
cell_card_good (cards.Subckt c) line h = h
cell_card_good (cards.Ends name) line h = tt
cell_card_good (cards.Global names) line h = tt
cell_card_good (cards.Params pairs) line h = tt
cell_card_good cards.Ignored line h = tt

cell_cards_good : (entries : List Entry) → All IsReadEntry entries → All IsReadCell (cell_cards entries)
unfolding cell_cards
cell_cards_good entries h = kept_some IsReadEntry IsReadCell cell_card_in (λ e k. cell_card_good e.card e.line k) entries h

-- a parameter of a `.PARAM` card is one of its cell
cell_parameter : (p : Pair) → IsParameter params_form p → IsParameter cell_form p
cell_parameter p h = record { name = h.name; value = h.value; expression = h.expression; model = refl }

abbrev AreReadCards : List Card → Type 0
AreReadCards printed = All IsReadCard printed

cell_good : (entries : List Entry) (c : CellCard) → All IsReadEntry entries → IsReadCell c → AreReadCards (printed.cell_cards (cell_of entries c))
cell_good entries c h k =
    let cell = cell_of entries c in
    let inside : AreReadCards (item_cards cell.items) = All-map IsReadCard item_card cell.items (items_good (Some c.name) entries h) in
    let more = All-weaker (IsParameter params_form) (IsParameter cell_form) cell_parameter (pairs_at (Some c.name) entries) (params_good (Some c.name) entries h) in
    All-cons IsReadCard (cards.Subckt record { name = cell.name; ports = cell.ports; pairs = cell.pairs; line = cell.line }) (item_cards cell.items ++ cards.Ends None ∷ [])
    (record { name = k.name; ports = k.ports; pairs = All-append (IsParameter cell_form) c.pairs (pairs_at (Some c.name) entries) k.pairs more })
    (All-push IsReadCard (item_cards cell.items) (cards.Ends None) inside tt)

cells_good : (entries : List Entry) → All IsReadEntry entries → AreReadCards (flat_map printed.cell_cards (cells_of entries))
unfolding cells_of
cells_good entries h =
    let P : Cell → Type 0 = λ c. AreReadCards (printed.cell_cards c) in
    all_joined P IsReadCard printed.cell_cards (λ c k. k) (map (cell_of entries) (cell_cards entries))
    (All-map P (cell_of entries) (cell_cards entries) (All-weaker IsReadCell (λ c. P (cell_of entries c)) (λ c k. cell_good entries c h k) (cell_cards entries) (cell_cards_good entries h)))

-- ## Global nets

abbrev NamesRead : Global → Type 0
NamesRead g = IsReadGlobal g.name

mentioned : (card : Card) (line : ℕ) → IsReadCard card → All NamesRead (globals_in line card)
mentioned (cards.Device d) line h = All-nil NamesRead
mentioned (cards.Inst x) line h = All-nil NamesRead
mentioned (cards.Subckt c) line h = All-nil NamesRead
mentioned (cards.Ends name) line h = All-nil NamesRead
mentioned (cards.Global names) line h = All-map NamesRead (λ name. record { name = name; line = line }) names h
mentioned (cards.Params pairs) line h = All-nil NamesRead
mentioned cards.Ignored line h = All-nil NamesRead

mentions_good : (entries : List Entry) → All IsReadEntry entries → All NamesRead (mentions entries)
unfolding mentions
mentions_good entries h = all_joined IsReadEntry NamesRead (λ (e : Entry). globals_in e.line e.card) (λ e k. mentioned e.card e.line k) entries h

once_good : (known gs : List Global) → All NamesRead known → All NamesRead gs → All NamesRead (each_once known gs)
unfolding each_once
once_good known [] h k = h
once_good known (g ∷ gs) h k =
    let next = cond_both (is_known known g.name) known (known ++ g ∷ []) (All NamesRead) (λ old. h) (λ new. All-push NamesRead known g h (All-head NamesRead g gs k)) in
    once_good (if is_known known g.name then known else known ++ g ∷ []) gs next (All-tail NamesRead g gs k)

global_card_good : (globals : List Global) → All NamesRead globals → AreReadCards (global_cards globals)
global_card_good [] h = All-nil IsReadCard
global_card_good (g ∷ gs) h = All-cons IsReadCard (cards.Global (map name_of_global (g ∷ gs))) [] (All-map IsReadGlobal name_of_global (g ∷ gs) h) (All-nil IsReadCard)

param_card_good : (pairs : List Pair) → All (IsParameter params_form) pairs → AreReadCards (param_cards pairs)
param_card_good [] h = All-nil IsReadCard
param_card_good (p ∷ ps) h = All-cons IsReadCard (cards.Params (p ∷ ps)) [] h (All-nil IsReadCard)

-- ## The netlist

pub netlist_read : (entries : List Entry) (top : Option (List ℕ)) → All IsReadEntry entries → All IsReadCard (printed_cards (netlist_of entries top))
unfolding printed_cards netlist_of
netlist_read entries top h =
    let globals = global_card_good (globals_of entries) (once_good [] (mentions entries) (All-nil NamesRead) (mentions_good entries h)) in
    let params = param_card_good (pairs_at None entries) (params_good None entries h) in
    let main : AreReadCards (item_cards (items_at None entries)) = All-map IsReadCard item_card (items_at None entries) (items_good None entries h) in
    All-append IsReadCard (global_cards (globals_of entries) ++ param_cards (pairs_at None entries) ++ flat_map printed.cell_cards (cells_of entries)) (item_cards (items_at None entries))
    (All-append IsReadCard (global_cards (globals_of entries) ++ param_cards (pairs_at None entries)) (flat_map printed.cell_cards (cells_of entries))
    (All-append IsReadCard (global_cards (globals_of entries)) (param_cards (pairs_at None entries)) globals params) (cells_good entries h))
    main

-- ## Lone slashes

items_slash : (items : List Item) → All NamesNoSlash (item_cards items)
items_slash [] = All-nil NamesNoSlash
items_slash (items.Device d ∷ more) = All-cons NamesNoSlash (cards.Device d) (item_cards more) tt (items_slash more)
items_slash (items.Inst x ∷ more) = All-cons NamesNoSlash (cards.Inst x) (item_cards more) tt (items_slash more)

cell_slash : (c : Cell) → All NamesNoSlash (printed.cell_cards c)
cell_slash c =
    All-cons NamesNoSlash (cards.Subckt record { name = c.name; ports = c.ports; pairs = c.pairs; line = c.line }) (item_cards c.items ++ cards.Ends None ∷ []) tt
    (All-push NamesNoSlash (item_cards c.items) (cards.Ends None) (items_slash c.items) tt)

cells_slash : (cells : List Cell) → All NamesNoSlash (flat_map printed.cell_cards cells)
cells_slash [] = All-nil NamesNoSlash
cells_slash (c ∷ cells) = All-append NamesNoSlash (printed.cell_cards c) (flat_map printed.cell_cards cells) (cell_slash c) (cells_slash cells)

globals_slash : (globals : List Global) → All (λ (g : Global). is_slash g.name ≡ false) globals → All NamesNoSlash (global_cards globals)
globals_slash [] h = All-nil NamesNoSlash
globals_slash (g ∷ gs) h = All-cons NamesNoSlash (cards.Global (map name_of_global (g ∷ gs))) [] (All-map (λ name. is_slash name ≡ false) name_of_global (g ∷ gs) h) (All-nil NamesNoSlash)

params_slash : (pairs : List Pair) → All NamesNoSlash (param_cards pairs)
params_slash [] = All-nil NamesNoSlash
params_slash (p ∷ ps) = All-cons NamesNoSlash (cards.Params (p ∷ ps)) [] tt (All-nil NamesNoSlash)

printed_slash : (n : Netlist) → IsPrintable n → All NamesNoSlash (printed_cards n)
unfolding printed_cards
printed_slash n h =
    All-append NamesNoSlash (global_cards n.globals ++ param_cards n.params ++ flat_map printed.cell_cards n.cells) (item_cards n.main.items)
    (All-append NamesNoSlash (global_cards n.globals ++ param_cards n.params) (flat_map printed.cell_cards n.cells)
    (All-append NamesNoSlash (global_cards n.globals) (param_cards n.params) (globals_slash n.globals h) (params_slash n.params)) (cells_slash n.cells))
    (items_slash n.main.items)

pub printable : (n : Netlist) → All IsReadCard (printed_cards n) → IsPrintable n → All IsPrintableCard (printed_cards n)
printable n h p = let slashes = printed_slash n p in λ k d lt. (h k d lt, slashes k d lt)
