-- What is known of cards without a fault: no two cells have one name, an open cell is the last, and nothing lies in a cell that hasn't begun.
use Rattle.std.proofs.Common.{◌≡◌, ℕ, ◌||◌, Bool, true, false, List, [], ◌∷◌, ◌++◌, map, Option, Some, None, is_some, if◌then◌else◌, refl, sym, ap, subst, ◌∙◌}
use Rattle.std.specs.Option.{option_map, option_to_list}
use Rattle.std.specs.Str.{bytes_eq}
use Rattle.std.proofs.lemmas.List.{map-append}
use Rattle.std.proofs.lemmas.List.Folds.{list_any-append}
use Rattle.cvc_base.specs.declared.cause.Cause.{Cause}
use Rattle.cvc_base.specs.declared.cause.Cause.TheVariants.{NestedSubckt, TwiceCell, TwicePort}
use Rattle.cvc_card.specs.declared.card.Card.{Card}
use Rattle.cvc_card.specs.declared.card.Card.TheVariants.{Device, Inst, Subckt, Ends, Global, Params, Ignored}
use Rattle.cvc_card.specs.declared.card.CellCard.{CellCard}
use Rattle.cvc_card.specs.Card.{has_twice}
use Rattle.cvc_cdl.specs.Levels.{Entry, Level, cell_card_in, cell_cards, item_in, items_at, level_after, level_behind, pairs_at, pairs_in, placed, same_level}
use Rattle.cvc_cdl.specs.Building.{cause_if, cause_of, fault_at, fault_of, first_fault, has_begun, is_among}
use Rattle.cvc_cdl.specs.Builder.{entry_of}
use Rattle.cvc_names.proofs.Repeats.{has_twice-push}
use Rattle.cvc_cdl.proofs.Placing.{by_cards, cell_cards-other, cell_cards-push, here, items_at-other, level_behind-push, pairs_at-other}

abbrev pub name_of_card : CellCard → List ℕ
name_of_card c = c.name

-- the last of these cells has the name
pub record EndsWith (cards : List CellCard) (name : List ℕ) : Type 0 where
  pub front : List CellCard
  pub last : CellCard
  pub are : cards ≡ front ++ last ∷ []
  pub named : last.name ≡ name

abbrev pub OpenIsLast : Level → List CellCard → Type 0
OpenIsLast None cards = Unit {0}
OpenIsLast (Some name) cards = EndsWith cards name

pub record IsKept (es : List Entry) : Type 0 where
  pub once : has_twice (map name_of_card (cell_cards es)) ≡ false
  pub open_is_last : OpenIsLast (here es) (cell_cards es)
  pub nothing : (name : List ℕ) → has_begun es name ≡ false → (items_at (Some name) es ≡ []) × (pairs_at (Some name) es ≡ [])

-- ## The open cell has begun

or_last : (a b : Bool) → (a || (b || false)) ≡ false → b ≡ false
or_last true b h = cc
or_last false true h = cc
or_last false false h = refl

or_front : (a b : Bool) → (a || b) ≡ false → a ≡ false
or_front true b h = cc
or_front false b h = refl

among-push : (front : List CellCard) (last : CellCard) (name : List ℕ) → is_among (map name_of_card (front ++ last ∷ [])) name ≡ (is_among (map name_of_card front) name || (bytes_eq name last.name || false))
among-push front last name = ap (λ ns. is_among ns name) (map-append name_of_card front (last ∷ [])) ∙ list_any-append (bytes_eq name) (map name_of_card front) (last.name ∷ [])

elsewhere : (l : Level) (cards : List CellCard) (name : List ℕ) → OpenIsLast l cards → is_among (map name_of_card cards) name ≡ false → same_level (Some name) l ≡ false
elsewhere None cards name h free = refl
elsewhere (Some n) cards name h free =
    ap (bytes_eq name) (sym h.named)
    ∙ or_last (is_among (map name_of_card h.front) name) (bytes_eq name h.last.name) (sym (among-push h.front h.last name) ∙ ap (λ cs. is_among (map name_of_card cs) name) (sym h.are) ∙ free)

-- ## The cause at a `.SUBCKT` card

pub no_subckt_cause : (l : Level) (begun twice : Bool) → (if is_some l then Some NestedSubckt else (if begun then Some TwiceCell else cause_if twice TwicePort)) ≡ None → (l ≡ None) × (begun ≡ false) × (twice ≡ false)
no_subckt_cause None true twice h = absurd cc
no_subckt_cause None false true h = absurd cc
no_subckt_cause None false false h = (refl, refl, refl)
no_subckt_cause (Some name) begun twice h = absurd cc

pub subckt_free : (es : List Entry) (c : CellCard) → cause_of es (Subckt c) ≡ None → (here es ≡ None) × (has_begun es c.name ≡ false) × (has_twice c.ports ≡ false)
unfolding cause_of
subckt_free es c h = no_subckt_cause (here es) (has_begun es c.name) (has_twice c.ports) h

-- ## One card more

module _ (es : List Entry) (line : ℕ) (k : IsKept es) where
  abbrev with_one : Card → List Entry
  with_one card = es ++ entry_of card line ∷ []

  same_cells : (card : Card) → cell_card_in (entry_of card line) ≡ None → has_twice (map name_of_card (cell_cards (with_one card))) ≡ false
  same_cells card none = ap (λ cs. has_twice (map name_of_card cs)) (cell_cards-other es (entry_of card line) none) ∙ k.once

  once_step : (card : Card) → cause_of es card ≡ None → has_twice (map name_of_card (cell_cards (with_one card))) ≡ false
  once_step (Device d) h = same_cells (Device d) refl
  once_step (Inst x) h = same_cells (Inst x) refl
  once_step (Subckt c) h =
      ap (λ cs. has_twice (map name_of_card cs)) (cell_cards-push es (entry_of (Subckt c) line))
      ∙ ap has_twice (map-append name_of_card (cell_cards es) (c ∷ []))
      ∙ has_twice-push (map name_of_card (cell_cards es)) c.name
      ∙ (λ i. k.once i || (subckt_free es c h).1 i)
  once_step (Ends name) h = same_cells (Ends name) refl
  once_step (Global names) h = same_cells (Global names) refl
  once_step (Params pairs) h = same_cells (Params pairs) refl
  once_step Ignored h = same_cells Ignored refl

  same_open : (card : Card) → cell_card_in (entry_of card line) ≡ None → level_after (here es) card ≡ here es → OpenIsLast (here (with_one card)) (cell_cards (with_one card))
  same_open card none stays =
      subst (λ (l : Level). OpenIsLast l (cell_cards (with_one card))) (sym (level_behind-push None es (entry_of card line) ∙ stays))
      (subst (OpenIsLast (here es)) (sym (cell_cards-other es (entry_of card line) none)) k.open_is_last)

  open_step : (card : Card) → OpenIsLast (here (with_one card)) (cell_cards (with_one card))
  open_step (Device d) = same_open (Device d) refl refl
  open_step (Inst x) = same_open (Inst x) refl refl
  open_step (Subckt c) =
      subst (λ (l : Level). OpenIsLast l (cell_cards (with_one (Subckt c)))) (sym (level_behind-push None es (entry_of (Subckt c) line)))
      (record { front = cell_cards es; last = c; are = cell_cards-push es (entry_of (Subckt c) line); named = refl })
  open_step (Ends name) = subst (λ (l : Level). OpenIsLast l (cell_cards (with_one (Ends name)))) (sym (level_behind-push None es (entry_of (Ends name) line))) tt
  open_step (Global names) = same_open (Global names) refl refl
  open_step (Params pairs) = same_open (Params pairs) refl refl
  open_step Ignored = same_open Ignored refl refl

  begun_before : (card : Card) (name : List ℕ) → has_begun (with_one card) name ≡ false → has_begun es name ≡ false
  begun_before card name free =
      or_front (has_begun es name) (is_among (map name_of_card (option_to_list (cell_card_in (entry_of card line)))) name)
      (sym (ap (λ cs. is_among (map name_of_card cs) name) (cell_cards-push es (entry_of card line))
      ∙ ap (λ ns. is_among ns name) (map-append name_of_card (cell_cards es) (option_to_list (cell_card_in (entry_of card line))))
      ∙ list_any-append (bytes_eq name) (map name_of_card (cell_cards es)) (map name_of_card (option_to_list (cell_card_in (entry_of card line)))))
      ∙ free)

  nothing_step : (card : Card) (name : List ℕ) → has_begun (with_one card) name ≡ false → (items_at (Some name) (with_one card) ≡ []) × (pairs_at (Some name) (with_one card) ≡ [])
  nothing_step card name free =
      let before = begun_before card name free in
      let apart : same_level (Some name) (here es) ≡ false = elsewhere (here es) (cell_cards es) name k.open_is_last before in
      let e = entry_of card line in (
        items_at-other (Some name) es e (ap (λ b. if b then item_in card else None) apart) ∙ (k.nothing name before).0,
        pairs_at-other (Some name) es e (ap (λ b. if b then pairs_in card else []) apart) ∙ (k.nothing name before).1,
      )

  pub kept_step : (card : Card) → cause_of es card ≡ None → IsKept (with_one card)
  kept_step card h = record { once = once_step card h; open_is_last = open_step card; nothing = nothing_step card }

pub kept_none : IsKept []
unfolding cell_cards level_behind items_at pairs_at placed
kept_none = record { once = refl; open_is_last = tt; nothing = λ name h. (refl, refl) }

pub no_cause : (es : List Entry) (e : Entry) → fault_of es e ≡ None → cause_of es e.card ≡ None
no_cause es e h = by (cause_of es e.card) h
  where
    by : (o : Option Cause) → option_map (fault_at e.line) o ≡ None → o ≡ None
    by None f = refl
    by (Some cause) f = absurd cc

pub kept : (es : List Entry) → first_fault [] es ≡ None → IsKept es
kept = by_cards IsKept kept_none (λ es e k h. kept_step es e.line k e.card (no_cause es e h))
