-- What the cards of a list in two parts say, by what each part says.
use Rattle.std.proofs.Common.{◌≡◌, ℕ, ◌+◌, List, [], ◌∷◌, ◌++◌, length, map, flat_map, filter_map, true, cond, Option, Some, None, option_map, refl, sym, ap, ◌∙◌, arith}
use Rattle.std.specs.List.{cons_option}
use Rattle.std.proofs.lemmas.List.{append_assoc, append-nil}
use Rattle.std.proofs.lemmas.List.Concat.{flat_map-append}
use Rattle.std.proofs.lemmas.List.Elements.{filter_map-append}
use Rattle.std.proofs.lemmas.Slice.Eq.{bytes_eq-Decides}
use Rattle.cvc_base.specs.declared.param.Pair.{Pair}
use Rattle.cvc_card.specs.declared.card.Card.{Card}
use Rattle.cvc_cdl.specs.declared.netlist.Item.{Item}
use Rattle.cvc_cdl.specs.Levels.{Entry, Level, level_after, level_behind, Placed, placed, same_level, item_in, pairs_in, item_at, some_pairs_at, items_at, pairs_at, cell_card_in, cell_cards}
use Rattle.cvc_cdl.specs.Netlist.{globals_in, mentions, cell_of, cells_of}
use Rattle.cvc_cdl.specs.Building.{cause_at, cause_of, or_else, fault_of, first_fault}
use Rattle.cvc_cdl.specs.Ending.{instance_in, instances}
use Rattle.cvc_cdl.specs.Printed.{at_line, numbered}

-- ## Levels

pub same_level-self : (level : Level) → same_level level level ≡ true
same_level-self None = refl
same_level-self (Some name) = (bytes_eq-Decides name name).1 refl

pub same_level-true : (a b : Level) → same_level a b ≡ true → a ≡ b
same_level-true None None h = refl
same_level-true None (Some b) h = cc
same_level-true (Some a) None h = cc
same_level-true (Some a) (Some b) h = ap Some ((bytes_eq-Decides a b).0 h)

pub behind-append : (level : Level) (xs ys : List Entry) → level_behind level (xs ++ ys) ≡ level_behind (level_behind level xs) ys
unfolding level_behind
behind-append level [] ys = refl
behind-append level (e ∷ es) ys = behind-append (level_after level e.card) es ys

pub behind-nil : (level : Level) → level_behind level [] ≡ level
unfolding level_behind
behind-nil level = refl

pub behind-cons : (level : Level) (e : Entry) (es : List Entry) → level_behind level (e ∷ es) ≡ level_behind (level_after level e.card) es
unfolding level_behind
behind-cons level e es = refl

-- ## What lies at a level

placed-append : (start : Level) (xs ys : List Entry) → placed start (xs ++ ys) ≡ placed start xs ++ placed (level_behind start xs) ys
unfolding placed level_behind
placed-append start [] ys = refl
placed-append start (e ∷ es) ys =
    let here : Placed = record { level = start; card = e.card } in
    ap (λ (ps : List Placed). here ∷ ps) (placed-append (level_after start e.card) es ys)

-- what lies at a level, where the first card lies at the level `start`
abbrev pub items_from : Level → Level → List Entry → List Item
items_from level start entries = filter_map (item_at level) (placed start entries)

abbrev pub pairs_from : Level → Level → List Entry → List Pair
pairs_from level start entries = flat_map (some_pairs_at level) (placed start entries)

pub items_at-is : (level : Level) (entries : List Entry) → items_at level entries ≡ items_from level None entries
unfolding items_at
items_at-is level entries = refl

pub pairs_at-is : (level : Level) (entries : List Entry) → pairs_at level entries ≡ pairs_from level None entries
unfolding pairs_at
pairs_at-is level entries = refl

pub items-append : (level start : Level) (xs ys : List Entry) → items_from level start (xs ++ ys) ≡ items_from level start xs ++ items_from level (level_behind start xs) ys
items-append level start xs ys = ap (filter_map (item_at level)) (placed-append start xs ys) ∙ filter_map-append (item_at level) (placed start xs) (placed (level_behind start xs) ys)

pub pairs-append : (level start : Level) (xs ys : List Entry) → pairs_from level start (xs ++ ys) ≡ pairs_from level start xs ++ pairs_from level (level_behind start xs) ys
pairs-append level start xs ys = ap (flat_map (some_pairs_at level)) (placed-append start xs ys) ∙ flat_map-append (some_pairs_at level) (placed start xs) (placed (level_behind start xs) ys)

pub items-nil : (level start : Level) → items_from level start [] ≡ []
unfolding placed
items-nil level start = refl

pub pairs-nil : (level start : Level) → pairs_from level start [] ≡ []
unfolding placed
pairs-nil level start = refl

pub items-cons : (level start : Level) (e : Entry) (es : List Entry) → items_from level start (e ∷ es) ≡ cons_option (cond (same_level level start) (item_in e.card) None) (items_from level (level_after start e.card) es)
unfolding placed
items-cons level start e es = refl

pub pairs-cons : (level start : Level) (e : Entry) (es : List Entry) → pairs_from level start (e ∷ es) ≡ cond (same_level level start) (pairs_in e.card) [] ++ pairs_from level (level_after start e.card) es
unfolding placed
pairs-cons level start e es = refl

pub items_push : (level : Level) (earlier : List Entry) (e : Entry) → items_at level (earlier ++ e ∷ []) ≡ items_at level earlier ++ cons_option (cond (same_level level (level_behind None earlier)) (item_in e.card) None) []
items_push level earlier e =
    items_at-is level (earlier ++ e ∷ []) ∙ items-append level None earlier (e ∷ [])
    ∙ rw (items_at-is level earlier) (ap (λ (xs : List Item). items_from level None earlier ++ xs) (items-cons level (level_behind None earlier) e [] ∙ rw (items-nil level (level_after (level_behind None earlier) e.card)) refl))

pub behind_push : (earlier : List Entry) (e : Entry) → level_behind None (earlier ++ e ∷ []) ≡ level_after (level_behind None earlier) e.card
behind_push earlier e = behind-append None earlier (e ∷ []) ∙ behind-cons (level_behind None earlier) e [] ∙ behind-nil (level_after (level_behind None earlier) e.card)

-- ## Cells, instances and global nets

pub cell_cards-append : (xs ys : List Entry) → cell_cards (xs ++ ys) ≡ cell_cards xs ++ cell_cards ys
unfolding cell_cards
cell_cards-append xs ys = filter_map-append cell_card_in xs ys

pub cell_cards-nil : cell_cards [] ≡ []
unfolding cell_cards
cell_cards-nil = refl

pub cell_cards-cons : (e : Entry) (es : List Entry) → cell_cards (e ∷ es) ≡ cons_option (cell_card_in e) (cell_cards es)
unfolding cell_cards
cell_cards-cons e es = refl

pub cells_of-is : (entries : List Entry) → cells_of entries ≡ map (cell_of entries) (cell_cards entries)
unfolding cells_of
cells_of-is entries = refl

pub instances-nil : instances [] ≡ []
unfolding instances
instances-nil = refl

pub instances-cons : (e : Entry) (es : List Entry) → instances (e ∷ es) ≡ cons_option (instance_in e.card) (instances es)
unfolding instances
instances-cons e es = refl

pub mentions-append : (xs ys : List Entry) → mentions (xs ++ ys) ≡ mentions xs ++ mentions ys
unfolding mentions
mentions-append xs ys = flat_map-append (λ (e : Entry). globals_in e.line e.card) xs ys

pub mentions-nil : mentions [] ≡ []
unfolding mentions
mentions-nil = refl

pub mentions-cons : (e : Entry) (es : List Entry) → mentions (e ∷ es) ≡ globals_in e.line e.card ++ mentions es
unfolding mentions
mentions-cons e es = refl

-- ## Faults

pub cause_of-is : (earlier : List Entry) (card : Card) → cause_of earlier card ≡ cause_at (level_behind None earlier) earlier card
unfolding cause_of
cause_of-is earlier card = refl

pub first-nil : (earlier : List Entry) → first_fault earlier [] ≡ None
unfolding first_fault
first-nil earlier = refl

pub first-cons : (earlier : List Entry) (e : Entry) (es : List Entry) → first_fault earlier (e ∷ es) ≡ or_else (fault_of earlier e) (first_fault (earlier ++ e ∷ []) es)
unfolding first_fault
first-cons earlier e es = refl

pub none_parts : {A : Type 0} (x y : Option A) → or_else x y ≡ None → (x ≡ None) × (y ≡ None)
none_parts None y h = (refl, h)
none_parts (Some a) y h = cc

pub none_from_map : {A B : Type 0} (f : A → B) (x : Option A) → option_map f x ≡ None → x ≡ None
none_from_map f None h = refl
none_from_map f (Some a) h = cc

-- no fault at a card and none behind it
pub first_none-cons : (earlier : List Entry) (e : Entry) (es : List Entry) → cause_at (level_behind None earlier) earlier e.card ≡ None → first_fault (earlier ++ e ∷ []) es ≡ None → first_fault earlier (e ∷ es) ≡ None
first_none-cons earlier e es here more = first-cons earlier e es ∙ rw (cause_of-is earlier e.card, here) more

pub first_none-append : (earlier xs ys : List Entry) → first_fault earlier xs ≡ None → first_fault (earlier ++ xs) ys ≡ None → first_fault earlier (xs ++ ys) ≡ None
first_none-append earlier [] ys h more = rw (append-nil earlier) at more
first_none-append earlier (e ∷ es) ys h more =
    let parts = none_parts (fault_of earlier e) (first_fault (earlier ++ e ∷ []) es) (sym (first-cons earlier e es) ∙ h) in
    let rest = first_none-append (earlier ++ e ∷ []) es ys parts.1 (rw (append_assoc earlier (e ∷ []) es) more) in
    first-cons earlier e (es ++ ys) ∙ rw parts.0 rest

-- ## Numbered cards

pub numbered-nil : (i : ℕ) → numbered i [] ≡ []
unfolding numbered
numbered-nil i = refl

pub numbered-cons : (i : ℕ) (card : Card) (cards : List Card) → numbered i (card ∷ cards) ≡ record { card = at_line i card; line = i } ∷ numbered (i + 1) cards
unfolding numbered
numbered-cons i card cards = refl

pub numbered-append : (i : ℕ) (xs ys : List Card) → numbered i (xs ++ ys) ≡ numbered i xs ++ numbered (i + length xs) ys
unfolding numbered
numbered-append i [] ys = let e : i ≡ i + 0 = omega arith in ap (λ j. numbered j ys) e
numbered-append i (x ∷ xs) ys =
    let step : (i + 1) + length xs ≡ i + length (x ∷ xs) = omega arith in
    let here : Entry = record { card = at_line i x; line = i } in
    ap (λ (es : List Entry). here ∷ es) (numbered-append (i + 1) xs ys ∙ ap (λ (j : ℕ). numbered (i + 1) xs ++ numbered j ys) step)
