-- One card more in a list of cards: where it lies, and what it adds to each part of the netlist.
use Rattle.std.proofs.Common.{◌≡◌, Bool, true, false, List, [], ◌∷◌, ◌++◌, length, Option, Some, None, if◌then◌else◌, refl, sym, ap, subst, ◌∙◌, append_assoc}
use Rattle.std.specs.Option.{option_to_list}
use Rattle.std.specs.List.{filter_map, flat_map}
use Rattle.std.proofs.lemmas.List.{append-nil}
use Rattle.std.proofs.lemmas.List.Elements.{filter_map-append}
use Rattle.std.proofs.lemmas.Grind.{flat_map-append}
use Rattle.cvc_base.specs.declared.fault.Fault.{Fault}
use Rattle.cvc_card.specs.declared.card.CellCard.{CellCard}
use Rattle.cvc_card.specs.declared.card.InstCard.{InstCard}
use Rattle.cvc_cdl.specs.declared.netlist.Global.{Global}
use Rattle.cvc_cdl.specs.declared.netlist.Item.{Item}
use Rattle.cvc_cdl.specs.Levels.{Entry, Level, Placed, cell_card_in, cell_cards, item_at, item_in, items_at, level_after, level_behind, pairs_at, pairs_in, placed, same_level, some_pairs_at}
use Rattle.cvc_cdl.specs.Netlist.{each_once, globals_in, globals_of, is_known, mentions}
use Rattle.cvc_cdl.specs.Building.{fault_of, first_fault, or_else}
use Rattle.cvc_cdl.specs.Ending.{instance_in, instances}
use Rattle.cvc_cdl.specs.Builder.{place_in, places_behind}

abbrev pub here : List Entry → Level
here es = level_behind None es

abbrev pub lying : List Entry → Entry → Placed
lying es e = record { level = here es; card = e.card }

-- ## Levels

pub level_behind-push : (l : Level) (es : List Entry) (e : Entry) → level_behind l (es ++ e ∷ []) ≡ level_after (level_behind l es) e.card
unfolding level_behind
level_behind-push l [] e = refl
level_behind-push l (x ∷ es) e = level_behind-push (level_after l x.card) es e

placed-push : (l : Level) (es : List Entry) (e : Entry) → placed l (es ++ e ∷ []) ≡ placed l es ++ (record { level = level_behind l es; card = e.card }) ∷ []
unfolding level_behind placed
placed-push l [] e = refl
placed-push l (x ∷ es) e = ap (λ ps. (record { level = l; card = x.card }) ∷ ps) (placed-push (level_after l x.card) es e)

pub items_at-push : (l : Level) (es : List Entry) (e : Entry) → items_at l (es ++ e ∷ []) ≡ items_at l es ++ option_to_list (item_at l (lying es e))
unfolding items_at
items_at-push l es e = ap (filter_map (item_at l)) (placed-push None es e) ∙ filter_map-append (item_at l) (placed None es) (lying es e ∷ []) ∙ ap (λ xs. items_at l es ++ xs) (one (item_at l) (lying es e))
  where
    one : (f : Placed → Option Item) (p : Placed) → filter_map f (p ∷ []) ≡ option_to_list (f p)
    one f p = by (f p)
      where
        by : (o : Option Item) → filter_map (λ (x : Placed). o) (p ∷ []) ≡ option_to_list o
        by None = refl
        by (Some x) = refl

pub pairs_at-push : (l : Level) (es : List Entry) (e : Entry) → pairs_at l (es ++ e ∷ []) ≡ pairs_at l es ++ some_pairs_at l (lying es e)
unfolding pairs_at
pairs_at-push l es e = ap (flat_map (some_pairs_at l)) (placed-push None es e) ∙ flat_map-append (some_pairs_at l) (placed None es) (lying es e ∷ []) ∙ ap (λ xs. pairs_at l es ++ xs) (append-nil (some_pairs_at l (lying es e)))

-- a card that says nothing there
module _ {A : Type 0} where
  pub if_same : (b : Bool) (x : A) → (if b then x else x) ≡ x
  if_same true x = refl
  if_same false x = refl

pub items_at-other : (l : Level) (es : List Entry) (e : Entry) → item_at l (lying es e) ≡ None → items_at l (es ++ e ∷ []) ≡ items_at l es
items_at-other l es e none = items_at-push l es e ∙ ap (λ o. items_at l es ++ option_to_list o) none ∙ append-nil (items_at l es)

pub pairs_at-other : (l : Level) (es : List Entry) (e : Entry) → some_pairs_at l (lying es e) ≡ [] → pairs_at l (es ++ e ∷ []) ≡ pairs_at l es
pairs_at-other l es e none = pairs_at-push l es e ∙ ap (λ ps. pairs_at l es ++ ps) none ∙ append-nil (pairs_at l es)

pub no_item : (l : Level) (es : List Entry) (e : Entry) → item_in e.card ≡ None → item_at l (lying es e) ≡ None
no_item l es e none = ap (λ o. if same_level l (here es) then o else None) none ∙ if_same (same_level l (here es)) None

pub no_pairs : (l : Level) (es : List Entry) (e : Entry) → pairs_in e.card ≡ [] → some_pairs_at l (lying es e) ≡ []
no_pairs l es e none = ap (λ ps. if same_level l (here es) then ps else []) none ∙ if_same (same_level l (here es)) []

-- ## Cells

pub cell_cards-push : (es : List Entry) (e : Entry) → cell_cards (es ++ e ∷ []) ≡ cell_cards es ++ option_to_list (cell_card_in e)
unfolding cell_cards
cell_cards-push es e = filter_map-append cell_card_in es (e ∷ []) ∙ ap (λ xs. filter_map cell_card_in es ++ xs) (by (cell_card_in e))
  where
    by : (o : Option CellCard) → filter_map (λ (x : Entry). o) (e ∷ []) ≡ option_to_list o
    by None = refl
    by (Some x) = refl

pub cell_cards-other : (es : List Entry) (e : Entry) → cell_card_in e ≡ None → cell_cards (es ++ e ∷ []) ≡ cell_cards es
cell_cards-other es e none = cell_cards-push es e ∙ ap (λ o. cell_cards es ++ option_to_list o) none ∙ append-nil (cell_cards es)

pub places-push : (earlier es : List Entry) (e : Entry) → places_behind earlier (es ++ e ∷ []) ≡ places_behind earlier es ++ place_in (length (items_at None (earlier ++ es))) e.card
unfolding places_behind
places-push earlier [] e = append-nil (place_in (length (items_at None earlier)) e.card) ∙ ap (λ xs. place_in (length (items_at None xs)) e.card) (sym (append-nil earlier))
places-push earlier (x ∷ es) e =
    let front = place_in (length (items_at None earlier)) x.card in
    ap (λ ps. front ++ ps) (places-push (earlier ++ x ∷ []) es e)
    ∙ ap (λ xs. front ++ (places_behind (earlier ++ x ∷ []) es ++ place_in (length (items_at None xs)) e.card)) (append_assoc earlier (x ∷ []) es)
    ∙ sym (append_assoc front (places_behind (earlier ++ x ∷ []) es) (place_in (length (items_at None (earlier ++ x ∷ es))) e.card))

pub instances-push : (es : List Entry) (e : Entry) → instances (es ++ e ∷ []) ≡ instances es ++ option_to_list (instance_in e.card)
unfolding instances
instances-push es e = filter_map-append (λ (x : Entry). instance_in x.card) es (e ∷ []) ∙ ap (λ xs. filter_map (λ (x : Entry). instance_in x.card) es ++ xs) (by (instance_in e.card))
  where
    by : (o : Option InstCard) → filter_map (λ (x : Entry). o) (e ∷ []) ≡ option_to_list o
    by None = refl
    by (Some x) = refl

-- ## Global nets

each_once-append : (known gs hs : List Global) → each_once known (gs ++ hs) ≡ each_once (each_once known gs) hs
unfolding each_once
each_once-append known [] hs = refl
each_once-append known (g ∷ gs) hs = each_once-append (if is_known known g.name then known else known ++ g ∷ []) gs hs

pub globals_of-push : (es : List Entry) (e : Entry) → globals_of (es ++ e ∷ []) ≡ each_once (globals_of es) (globals_in e.line e.card)
unfolding mentions
globals_of-push es e =
    ap (each_once []) (flat_map-append (λ (x : Entry). globals_in x.line x.card) es (e ∷ []))
    ∙ ap (λ gs. each_once [] (mentions es ++ gs)) (append-nil (globals_in e.line e.card))
    ∙ each_once-append [] (mentions es) (globals_in e.line e.card)

pub each_once-none : (known : List Global) → each_once known [] ≡ known
unfolding each_once
each_once-none known = refl

-- ## Faults

pub or_else-none : {A : Type 0} (o : Option A) → or_else o None ≡ o
or_else-none None = refl
or_else-none (Some x) = refl

or_else-assoc : {A : Type 0} (a b c : Option A) → or_else a (or_else b c) ≡ or_else (or_else a b) c
or_else-assoc None b c = refl
or_else-assoc (Some x) b c = refl

pub first_fault-push : (earlier es : List Entry) (e : Entry) → first_fault earlier (es ++ e ∷ []) ≡ or_else (first_fault earlier es) (fault_of (earlier ++ es) e)
unfolding first_fault
first_fault-push earlier [] e = or_else-none (fault_of earlier e) ∙ ap (λ xs. fault_of xs e) (sym (append-nil earlier))
first_fault-push earlier (x ∷ es) e =
    ap (or_else (fault_of earlier x)) (first_fault-push (earlier ++ x ∷ []) es e)
    ∙ ap (λ xs. or_else (fault_of earlier x) (or_else (first_fault (earlier ++ x ∷ []) es) (fault_of xs e))) (append_assoc earlier (x ∷ []) es)
    ∙ or_else-assoc (fault_of earlier x) (first_fault (earlier ++ x ∷ []) es) (fault_of (earlier ++ x ∷ es) e)

-- what holds of no cards, and of one card more where that has no fault, holds of all cards without a fault
pub by_cards : (P : List Entry → Type 0) → P [] → ((earlier : List Entry) (e : Entry) → P earlier → fault_of earlier e ≡ None → P (earlier ++ e ∷ [])) → (es : List Entry) → first_fault [] es ≡ None → P es
unfolding first_fault
by_cards P none one es fine = behind [] es none fine
  where
    split : (a b : Option Fault) → or_else a b ≡ None → (a ≡ None) × (b ≡ None)
    split None b h = (refl, h)
    split (Some x) b h = absurd cc

    along : (earlier es : List Entry) (e : Entry) → P ((earlier ++ e ∷ []) ++ es) → P (earlier ++ e ∷ es)
    along earlier es e h = subst P (append_assoc earlier (e ∷ []) es) h

    behind : (earlier es : List Entry) → P earlier → first_fault earlier es ≡ None → P (earlier ++ es)
    behind earlier [] p h = subst P (sym (append-nil earlier)) p
    behind earlier (e ∷ es) p h =
        let both = split (fault_of earlier e) (first_fault (earlier ++ e ∷ []) es) h in
        along earlier es e (behind (earlier ++ e ∷ []) es (one earlier e p both.0) both.1)
