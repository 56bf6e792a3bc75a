-- The draft of cards with one card more is the draft of the cards, changed by the card.
use Rattle.std.proofs.Common.{◌≡◌, ℕ, ◌||◌, Bool, true, false, List, [], ◌∷◌, ◌++◌, length, map, Some, None, is_some, if◌then◌else◌, refl, sym, ap, subst, ◌∙◌}
use Rattle.std.specs.Str.{bytes_eq}
use Rattle.std.specs.Cmp.Lexicographic.{nat_list_eq_equiv}
use Rattle.std.proofs.lemmas.List.{append-nil, map-append}
use Rattle.std.proofs.lemmas.Simd.{map-map}
use Rattle.cvc_base.specs.declared.cause.Cause.TheVariants.{NestedSubckt, TwiceCell, TwicePort}
use Rattle.cvc_card.specs.declared.card.Card.{Card}
use Rattle.cvc_card.specs.declared.card.Card.TheVariants.{Device, Inst, Subckt, Ends, Global, Params, Ignored}
use Rattle.cvc_card.specs.declared.card.CellCard.{CellCard}
use Rattle.cvc_card.specs.Card.{has_twice}
use Rattle.cvc_cdl.specs.declared.netlist.Cell.{Cell}
use Rattle.cvc_cdl.specs.declared.netlist.Global.{Global as GlobalNet}
use Rattle.cvc_cdl.specs.declared.netlist.Item.TheVariants as items
use Rattle.cvc_cdl.specs.Levels.{Entry, Level, cell_card_in, cell_cards, item_in, items_at, pairs_at, pairs_in, same_level}
use Rattle.cvc_cdl.specs.Netlist.{cell_of, cells_of, each_once, globals_in, globals_of, is_known, name_of_cell, name_of_global}
use Rattle.cvc_cdl.specs.Building.{cause_if, cause_of, is_among}
use Rattle.cvc_cdl.specs.Builder.{draft_of, entry_of, names_at, names_inside, place_in, places_behind}
use Rattle.cvc_cdl.specs.Drafting.{cause_in, globals_once, in_last, item_cause, names_here, names_once}
use Rattle.cvc_names.proofs.Repeats.{has_twice-push}
use Rattle.cvc_cdl.proofs.Drafts.{in_last-push}
use Rattle.cvc_cdl.proofs.Placing.{cell_cards-other, each_once-none, globals_of-push, here, items_at-other, no_item, no_pairs, pairs_at-other, places-push}
use Rattle.cvc_cdl.proofs.Kept.{EndsWith, IsKept, OpenIsLast, name_of_card}

-- ## The cause

names_here_are : (es : List Entry) (l : Level) → here es ≡ l → names_here l (draft_of es) ≡ names_at l es
names_here_are es None e = refl
names_here_are es (Some name) e = ap (λ x. names_inside x es) e

pub cell_names_are : (es : List Entry) → map name_of_cell (cells_of es) ≡ map name_of_card (cell_cards es)
unfolding cells_of
cell_names_are es = map-map name_of_cell (cell_of es) (cell_cards es)

pub causes : (es : List Entry) (card : Card) → cause_in (draft_of es) card ≡ cause_of es card
unfolding cause_of
causes es (Device d) = ap (λ ns. item_cause ns (items.Device d)) (names_here_are es (here es) refl)
causes es (Inst x) = ap (λ ns. item_cause ns (items.Inst x)) (names_here_are es (here es) refl)
causes es (Subckt c) = ap (λ ns. if is_some (here es) then Some NestedSubckt else (if is_among ns c.name then Some TwiceCell else cause_if (has_twice c.ports) TwicePort)) (cell_names_are es)
causes es (Ends name) = refl
causes es (Global names) = refl
causes es (Params pairs) = refl
causes es Ignored = refl

-- ## Global nets

pub once-by_names : (known gs : List GlobalNet) → (globals_once (map name_of_global known) known gs ≡ each_once known gs) × (names_once (map name_of_global known) gs ≡ map name_of_global (each_once known gs))
unfolding globals_once names_once each_once
once-by_names known [] = (refl, refl)
once-by_names known (g ∷ gs) = by (once-by_names known gs) (once-by_names (known ++ g ∷ []) gs) (is_known known g.name)
  where
    Same : List GlobalNet → Type 0
    Same ks = (globals_once (map name_of_global ks) ks gs ≡ each_once ks gs) × (names_once (map name_of_global ks) gs ≡ map name_of_global (each_once ks gs))

    more : map name_of_global known ++ g.name ∷ [] ≡ map name_of_global (known ++ g ∷ [])
    more = sym (map-append name_of_global known (g ∷ []))

    by : Same known → Same (known ++ g ∷ []) → (b : Bool)
        → ((if b then globals_once (map name_of_global known) known gs else globals_once (map name_of_global known ++ g.name ∷ []) (known ++ g ∷ []) gs) ≡ each_once (if b then known else known ++ g ∷ []) gs)
        × ((if b then names_once (map name_of_global known) gs else names_once (map name_of_global known ++ g.name ∷ []) gs) ≡ map name_of_global (each_once (if b then known else known ++ g ∷ []) gs))
    by same next true = same
    by same next false = (ap (λ ns. globals_once ns (known ++ g ∷ []) gs) more ∙ next.0, ap (λ ns. names_once ns gs) more ∙ next.1)

-- ## Cells

pub map-same : {A B : Type 0} (f g : A → B) (xs : List A) → ((x : A) → f x ≡ g x) → map f xs ≡ map g xs
map-same f g [] h = refl
map-same f g (x ∷ xs) h = λ i. h x i ∷ map-same f g xs h i

-- where only the cell of one name changes, and that is the last
front_same : (f g : CellCard → Cell) (n : List ℕ) → ((c : CellCard) → bytes_eq c.name n ≡ false → g c ≡ f c) → (cs : List CellCard) → is_among (map name_of_card cs) n ≡ false → map g cs ≡ map f cs
front_same f g n same [] free = refl
front_same f g n same (c ∷ cs) free =
    let both = apart (bytes_eq n c.name) (is_among (map name_of_card cs) n) free in
    λ i. same c (nat_list_eq_equiv.symm c.name n ∙ both.0) i ∷ front_same f g n same cs both.1 i
  where
    apart : (a b : Bool) → (a || b) ≡ false → (a ≡ false) × (b ≡ false)
    apart true b h = absurd cc
    apart false b h = (refl, h)

last_changes : (f g : CellCard → Cell) (h : Cell → Cell) (n : List ℕ) (cards : List CellCard) → EndsWith cards n → has_twice (map name_of_card cards) ≡ false
    → ((c : CellCard) → bytes_eq c.name n ≡ false → g c ≡ f c) → ((c : CellCard) → c.name ≡ n → g c ≡ h (f c)) → in_last h (map f cards) ≡ map g cards
last_changes f g h n cards ends once same changed =
    let twice : has_twice (map name_of_card ends.front ++ ends.last.name ∷ []) ≡ false = ap has_twice (sym (map-append name_of_card ends.front (ends.last ∷ []))) ∙ ap (λ cs. has_twice (map name_of_card cs)) (sym ends.are) ∙ once in
    let free : is_among (map name_of_card ends.front) n ≡ false =
    ap (is_among (map name_of_card ends.front)) (sym ends.named) ∙ behind (has_twice (map name_of_card ends.front)) (is_among (map name_of_card ends.front) ends.last.name) (sym (has_twice-push (map name_of_card ends.front) ends.last.name) ∙ twice) in
    ap (λ cs. in_last h (map f cs)) ends.are
    ∙ ap (in_last h) (map-append f ends.front (ends.last ∷ []))
    ∙ in_last-push h (map f ends.front) (f ends.last)
    ∙ sym (λ i. front_same f g n same ends.front free i ++ changed ends.last ends.named i ∷ [])
    ∙ sym (map-append g ends.front (ends.last ∷ []))
    ∙ ap (map g) (sym ends.are)
  where
    behind : (a b : Bool) → (a || b) ≡ false → b ≡ false
    behind true b h = cc
    behind false b h = h

module _ (es : List Entry) (line : ℕ) (k : IsKept es) where
  abbrev with_one : Card → List Entry
  with_one card = es ++ entry_of card line ∷ []

  pub cell_same : (card : Card) (c : CellCard) → items_at (Some c.name) (with_one card) ≡ items_at (Some c.name) es → pairs_at (Some c.name) (with_one card) ≡ pairs_at (Some c.name) es → cell_of (with_one card) c ≡ cell_of es c
  cell_same card c is ps = λ i. record { name = c.name; ports = c.ports; pairs = c.pairs ++ ps i; items = is i; line = c.line }

  -- a card that lies elsewhere
  pub cell_elsewhere : (card : Card) (c : CellCard) → same_level (Some c.name) (here es) ≡ false → cell_of (with_one card) c ≡ cell_of es c
  cell_elsewhere card c apart =
      let e = entry_of card line in
      cell_same card c (items_at-other (Some c.name) es e (ap (λ b. if b then item_in card else None) apart)) (pairs_at-other (Some c.name) es e (ap (λ b. if b then pairs_in card else []) apart))

  pub cells_other : (card : Card) → cell_card_in (entry_of card line) ≡ None → ((c : CellCard) → cell_of (with_one card) c ≡ cell_of es c) → cells_of (with_one card) ≡ cells_of es
  unfolding cells_of
  cells_other card none same =
      ap (map (cell_of (with_one card))) (cell_cards-other es (entry_of card line) none) ∙ map-same (cell_of (with_one card)) (cell_of es) (cell_cards es) same

  -- a card that says neither an item nor pairs, and is no `.SUBCKT`
  pub cells_silent : (card : Card) → cell_card_in (entry_of card line) ≡ None → item_in card ≡ None → pairs_in card ≡ [] → cells_of (with_one card) ≡ cells_of es
  cells_silent card none no_items none_pairs =
      let e = entry_of card line in
      cells_other card none (λ c. cell_same card c (items_at-other (Some c.name) es e (no_item (Some c.name) es e no_items)) (pairs_at-other (Some c.name) es e (no_pairs (Some c.name) es e none_pairs)))

  -- a card in the open cell
  pub cells_inside : (card : Card) (n : List ℕ) (h : Cell → Cell) → here es ≡ Some n → cell_card_in (entry_of card line) ≡ None → ((c : CellCard) → c.name ≡ n → cell_of (with_one card) c ≡ h (cell_of es c))
      → in_last h (cells_of es) ≡ cells_of (with_one card)
  unfolding cells_of
  cells_inside card n h at none changed =
      last_changes (cell_of es) (cell_of (with_one card)) h n (cell_cards es) (subst (λ (l : Level). OpenIsLast l (cell_cards es)) at k.open_is_last) k.once
      (λ c apart. cell_elsewhere card c (ap (same_level (Some c.name)) at ∙ apart)) changed
      ∙ ap (map (cell_of (with_one card))) (sym (cell_cards-other es (entry_of card line) none))

  -- ## Cards that say neither an item nor pairs

  pub silent_items : (card : Card) → item_in card ≡ None → (l : Level) → items_at l es ≡ items_at l (with_one card)
  silent_items card none l = sym (items_at-other l es (entry_of card line) (no_item l es (entry_of card line) none))

  pub silent_pairs : (card : Card) → pairs_in card ≡ [] → (l : Level) → pairs_at l es ≡ pairs_at l (with_one card)
  silent_pairs card none l = sym (pairs_at-other l es (entry_of card line) (no_pairs l es (entry_of card line) none))

  pub silent_globals : (card : Card) → globals_in line card ≡ [] → globals_of es ≡ globals_of (with_one card)
  silent_globals card none = sym (globals_of-push es (entry_of card line) ∙ ap (each_once (globals_of es)) none ∙ each_once-none (globals_of es))

  pub silent_places : (card : Card) → ((n : ℕ) → place_in n card ≡ []) → places_behind [] es ≡ places_behind [] (with_one card)
  silent_places card none = sym (places-push [] es (entry_of card line) ∙ ap (λ ps. places_behind [] es ++ ps) (none (length (items_at None es))) ∙ append-nil (places_behind [] es))

  pub silent_cell_names : (card : Card) → cell_card_in (entry_of card line) ≡ None → map name_of_cell (cells_of es) ≡ map name_of_cell (cells_of (with_one card))
  silent_cell_names card none = cell_names_are es ∙ ap (map name_of_card) (sym (cell_cards-other es (entry_of card line) none)) ∙ sym (cell_names_are (with_one card))
