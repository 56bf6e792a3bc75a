-- The faults of a netlist as a whole, as facts on each instance; and what a well formed netlist says of each of its printed cards.
use Rattle.std.proofs.Common.{◌≡◌, ℕ, ◌+◌, List, [], ◌∷◌, ◌++◌, length, flat_map, Bool, false, None, option_map, All, refl, sym, ap, ◌∙◌}
use Rattle.std.specs.List.{cons_option, find}
use Rattle.std.proofs.lemmas.List.Elements.{All-nil, All-cons, All-head, All-tail, All-append, All-weaker}
use Rattle.std.proofs.lemmas.List.Folds.{list_any_none}
use Rattle.cvc_base.specs.declared.cause.Cause.TheVariants.{Recursive}
use Rattle.cvc_base.specs.declared.fault.Fault.{Fault}
use Rattle.cvc_base.specs.declared.param.Pair.{Pair}
use Rattle.cvc_card.specs.declared.card.Card.{Card}
use Rattle.cvc_card.specs.declared.card.Card.TheVariants as cards
use Rattle.cvc_card.specs.declared.card.InstCard.{InstCard}
use Rattle.cvc_card.specs.Card.{net_count}
use Rattle.cvc_card.specs.Formed.{ConnectsOnce, IsFormed}
use Rattle.cvc_cdl.specs.declared.netlist.Cell.{Cell}
use Rattle.cvc_cdl.specs.declared.netlist.Global.{Global}
use Rattle.cvc_cdl.specs.declared.netlist.Item.{Item}
use Rattle.cvc_cdl.specs.declared.netlist.Item.TheVariants.{Device, Inst}
use Rattle.cvc_cdl.specs.declared.netlist.Netlist.{Netlist}
use Rattle.cvc_cdl.specs.Building.{fault_at, or_else}
use Rattle.cvc_cdl.specs.Ending.{instance_in, instances, instance_cause, instance_fault, first_instance_fault, is_endless, endless_fault}
use Rattle.cvc_cdl.specs.WellFormed.{IsFormedItem, IsFormedLevel, IsWellFormed}
use Rattle.cvc_cdl.specs.Builder.{IsFormedEntry}
use Rattle.cvc_cdl.specs.Printed.{global_cards, param_cards, item_cards, cell_cards as printed_cell, printed_cards, at_line, numbered}
use Rattle.cvc_cdl.proofs.RebuiltParts.{none_parts, none_from_map, instances-nil, instances-cons, numbered-nil, numbered-cons}
use Rattle.cvc_cdl.proofs.RebuiltTwice.{find_none, none_found}

-- ## Instances

abbrev pub HasCell : List Cell → InstCard → Type 0
HasCell cells x = instance_cause cells x ≡ None

abbrev pub HasEnd : List Cell → InstCard → Type 0
HasEnd cells x = is_endless cells x.cell ≡ false

first-nil : (cells : List Cell) → first_instance_fault cells [] ≡ None
unfolding first_instance_fault
first-nil cells = refl

first-cons : (cells : List Cell) (x : InstCard) (xs : List InstCard) → first_instance_fault cells (x ∷ xs) ≡ or_else (instance_fault cells x) (first_instance_fault cells xs)
unfolding first_instance_fault
first-cons cells x xs = refl

pub no_instance_fault : (cells : List Cell) (xs : List InstCard) → All (HasCell cells) xs → first_instance_fault cells xs ≡ None
no_instance_fault cells [] h = first-nil cells
no_instance_fault cells (x ∷ xs) h = first-cons cells x xs ∙ rw (All-head (HasCell cells) x xs h) (no_instance_fault cells xs (All-tail (HasCell cells) x xs h))

pub all_have_cells : (cells : List Cell) (xs : List InstCard) → first_instance_fault cells xs ≡ None → All (HasCell cells) xs
all_have_cells cells [] h = All-nil (HasCell cells)
all_have_cells cells (x ∷ xs) h =
    let parts = none_parts (instance_fault cells x) (first_instance_fault cells xs) (sym (first-cons cells x xs) ∙ h) in
    All-cons (HasCell cells) x xs (none_from_map (fault_at x.line) (instance_cause cells x) parts.0) (all_have_cells cells xs parts.1)

abbrev ends_not : List Cell → InstCard → Bool
ends_not cells x = is_endless cells x.cell

abbrev endless_at : InstCard → Fault
endless_at x = fault_at x.line Recursive

pub no_endless_fault : (cells : List Cell) (xs : List InstCard) → All (HasEnd cells) xs → endless_fault cells xs ≡ None
no_endless_fault cells xs h = ap (option_map endless_at) (none_found (ends_not cells) xs (list_any_none (ends_not cells) xs h))

pub all_have_ends : (cells : List Cell) (xs : List InstCard) → endless_fault cells xs ≡ None → All (HasEnd cells) xs
all_have_ends cells xs h = find_none (ends_not cells) xs (none_from_map endless_at (find (ends_not cells) xs) h)

-- ## Printed cards

-- what a well formed netlist says of a card
abbrev pub IsSound : List Cell → Card → Type 0
IsSound cells (cards.Device d) = length d.nets ≡ net_count d.letter
IsSound cells (cards.Inst x) = HasCell cells x × HasEnd cells x × ConnectsOnce x.ports
IsSound cells (cards.Subckt c) = Unit {0}
IsSound cells (cards.Ends name) = Unit {0}
IsSound cells (cards.Global names) = Unit {0}
IsSound cells (cards.Params pairs) = Unit {0}
IsSound cells cards.Ignored = Unit {0}

all_flat : {X Y : Type 0} (P : Y → Type 0) (f : X → List Y) (xs : List X) → All (λ (x : X). All P (f x)) xs → All P (flat_map f xs)
all_flat P f [] h = All-nil P
all_flat {X} {Y} P f (x ∷ xs) h = All-append P (f x) (flat_map f xs) (All-head (λ (x : X). All P (f x)) x xs h) (all_flat P f xs (All-tail (λ (x : X). All P (f x)) x xs h))

sound_items : (cells : List Cell) (items : List Item) → All (IsFormedItem cells) items → All (IsSound cells) (item_cards items)
sound_items cells [] h = All-nil (IsSound cells)
sound_items cells (Device d ∷ items) h = All-cons (IsSound cells) (cards.Device d) (item_cards items) (All-head (IsFormedItem cells) (Device d) items h) (sound_items cells items (All-tail (IsFormedItem cells) (Device d) items h))
sound_items cells (Inst x ∷ items) h = All-cons (IsSound cells) (cards.Inst x) (item_cards items) (All-head (IsFormedItem cells) (Inst x) items h) (sound_items cells items (All-tail (IsFormedItem cells) (Inst x) items h))

sound_cell : (cells : List Cell) (c : Cell) → IsFormedLevel cells c → All (IsSound cells) (printed_cell c)
sound_cell cells c h =
    let ends : All (IsSound cells) (cards.Ends None ∷ []) = All-cons (IsSound cells) (cards.Ends None) [] tt (All-nil (IsSound cells)) in
    All-cons (IsSound cells) _ (item_cards c.items ++ cards.Ends None ∷ []) tt (All-append (IsSound cells) (item_cards c.items) (cards.Ends None ∷ []) (sound_items cells c.items h.items) ends)

sound_globals : (cells : List Cell) (globals : List Global) → All (IsSound cells) (global_cards globals)
sound_globals cells [] = All-nil (IsSound cells)
sound_globals cells (g ∷ gs) = All-cons (IsSound cells) _ [] tt (All-nil (IsSound cells))

sound_params : (cells : List Cell) (params : List Pair) → All (IsSound cells) (param_cards params)
sound_params cells [] = All-nil (IsSound cells)
sound_params cells (p ∷ ps) = All-cons (IsSound cells) _ [] tt (All-nil (IsSound cells))

pub sound_cards : (n : Netlist) → IsWellFormed n → All (IsSound n.cells) (printed_cards n)
unfolding printed_cards
sound_cards n h =
    let P : Card → Type 0 = IsSound n.cells in
    let front : List Card = global_cards n.globals ++ param_cards n.params in
    let cells : List Card = flat_map printed_cell n.cells in
    All-append P (front ++ cells) (item_cards n.main.items)
    (All-append P front cells
    (All-append P (global_cards n.globals) (param_cards n.params) (sound_globals n.cells n.globals) (sound_params n.cells n.params))
    (all_flat P printed_cell n.cells (All-weaker (IsFormedLevel n.cells) (λ (c : Cell). All P (printed_cell c)) (sound_cell n.cells) n.cells h.levels)))
    (sound_items n.cells n.main.items h.main.items)

-- ## On their lines

formed_card : (cells : List Cell) (i : ℕ) (card : Card) → IsSound cells card → IsFormed i (at_line i card)
formed_card cells i (cards.Device d) h = (h, refl)
formed_card cells i (cards.Inst x) h = (h.2, refl)
formed_card cells i (cards.Subckt c) h = refl
formed_card cells i (cards.Ends name) h = tt
formed_card cells i (cards.Global names) h = tt
formed_card cells i (cards.Params pairs) h = tt
formed_card cells i cards.Ignored h = tt

pub formed_entries : (cells : List Cell) (i : ℕ) (all : List Card) → All (IsSound cells) all → All IsFormedEntry (numbered i all)
formed_entries cells i [] h = rw (numbered-nil i) (All-nil IsFormedEntry)
formed_entries cells i (card ∷ more) h =
    rw (numbered-cons i card more)
    (All-cons IsFormedEntry _ (numbered (i + 1) more) (formed_card cells i card (All-head (IsSound cells) card more h)) (formed_entries cells (i + 1) more (All-tail (IsSound cells) card more h)))

abbrev pub IsSoundInstance : List Cell → InstCard → Type 0
IsSoundInstance cells x = HasCell cells x × HasEnd cells x

pub sound_instances : (cells : List Cell) (i : ℕ) (all : List Card) → All (IsSound cells) all → All (IsSoundInstance cells) (instances (numbered i all))
sound_instances cells i [] h = rw (numbered-nil i, instances-nil) (All-nil (IsSoundInstance cells))
sound_instances cells i (card ∷ more) h =
    rw (numbered-cons i card more, instances-cons)
    (at card (All-head (IsSound cells) card more h) (instances (numbered (i + 1) more)) (sound_instances cells (i + 1) more (All-tail (IsSound cells) card more h)))
  where
    at : (card : Card) → IsSound cells card → (xs : List InstCard) → All (IsSoundInstance cells) xs → All (IsSoundInstance cells) (cons_option (instance_in (at_line i card)) xs)
    at (cards.Device d) h xs rest = rest
    at (cards.Inst x) h xs rest = All-cons (IsSoundInstance cells) (record x { line = i }) xs (h.0, h.1) rest
    at (cards.Subckt c) h xs rest = rest
    at (cards.Ends name) h xs rest = rest
    at (cards.Global names) h xs rest = rest
    at (cards.Params pairs) h xs rest = rest
    at cards.Ignored h xs rest = rest
