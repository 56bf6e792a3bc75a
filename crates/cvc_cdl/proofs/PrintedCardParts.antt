-- The parts of a printed card's items: its words are plain, its pairs are parameters, and one in brackets names the model of a device.
use Rattle.std.proofs.Common.{◌≡◌, ℕ, ◌-◌, ◌<◌, ◌&&◌, ◌||◌, true, false, List, [], ◌∷◌, ◌++◌, length, map, drop, Some, None, Option, All, codes, nat_eq, nat_lt, if◌then◌else◌, refl, ap, ap₂, ◌∙◌, arith, length-append}
use Rattle.std.specs.List.{cons_option, filter_map}
use Rattle.std.specs.Cmp.Lexicographic.{pointwise}
use Rattle.std.proofs.Math.Seq.{drop-append_seam, take-append_seam}
use Rattle.std.proofs.lemmas.Bool.{cond-false, lt-ltb, or_from, or_parts}
use Rattle.std.proofs.lemmas.List.Elements.{All-head, All-tail, filter_map-append}
use Rattle.std.proofs.lemmas.List.Folds.{list_any-append}
use Rattle.cvc_base.specs.declared.param.Pair.{Pair}
use Rattle.cvc_card.specs.declared.card.Letter.{Letter}
use Rattle.cvc_card.specs.Words.{between_brackets, is_closed}
use Rattle.cvc_card.specs.Items.{Item, Alone}
use Rattle.cvc_card.specs.Parts.{CardParts, after_pins, before_pins, has_pins, has_plain, is_pins, last_of, model_in, pair_in, pairs_of, parts_of, plain_of, plain_token}
use Rattle.cvc_card.proofs.Plainness.{plain-model, plain-pins, same_parts}
use Rattle.cvc_card.proofs.FormNames.{CardForm, device_form, instance_form, by_form}
use Rattle.cvc_cdl.specs.Pieces.{Word, IsTokenText}
use Rattle.cvc_cdl.proofs.Printable.{pair_piece, bracketed, IsPlainText, IsParameter}
use Rattle.cvc_cdl.proofs.PrintedCardItems.{piece_item}

-- what the items of a card say, where no `$PINS` stands among them
pub record Says (form : CardForm) (items : List Item) (words models : List (List ℕ)) (parameters : List Pair) : Type 0 where
  pub plain : plain_of form items ≡ words
  pub models_are : filter_map (model_in form) items ≡ models
  pub pairs : pairs_of form items ≡ parameters
  pub pins : has_pins form items ≡ false

abbrev pub word_items : List (List ℕ) → List Item
word_items words = map piece_item (map Word words)

abbrev pub pair_items : List Pair → List Item
pair_items pairs = map piece_item (map pair_piece pairs)

pub words_say : (form : CardForm) (words : List (List ℕ)) → All (IsPlainText form) words → Says form (word_items words) words [] []
words_say form [] h = record { plain = refl; models_are = refl; pairs = refl; pins = refl }
words_say form (w ∷ words) h =
    let plain = (All-head (IsPlainText form) w words h).plain in
    let more = words_say form words (All-tail (IsPlainText form) w words h) in
    let model = plain-model form w plain in
    record {
      plain = λ i. cons_option (if plain i then Some w else None) (more.plain i);
      models_are = λ i. cons_option (model i) (more.models_are i);
      pairs = more.pairs;
      pins = or_from (is_pins form (Alone w)) (has_pins form (word_items words)) (plain-pins form w plain) more.pins;
    }

no_pins : (form : CardForm) (p : Pair) → is_pins form (Item.Named p) ≡ false
no_pins form p = by_form (λ f. is_pins f (Item.Named p) ≡ false) (λ letter. refl) refl refl refl refl refl form

pub pairs_say : (form : CardForm) (pairs : List Pair) → All (IsParameter form) pairs → Says form (pair_items pairs) [] [] pairs
pairs_say form [] h = record { plain = refl; models_are = refl; pairs = refl; pins = refl }
pairs_say form (p ∷ pairs) h =
    let model = (All-head (IsParameter form) p pairs h).model in
    let more = pairs_say form pairs (All-tail (IsParameter form) p pairs h) in
    record {
      plain = more.plain;
      models_are = λ i. cons_option (if model i then Some p.value else None) (more.models_are i);
      pairs = λ i. cons_option (if model i then None else Some p) (more.pairs i);
      pins = or_from (is_pins form (Item.Named p)) (has_pins form (pair_items pairs)) (no_pins form p) more.pins;
    }

pub both_say : (form : CardForm) (xs ys : List Item) (words more_words models more_models : List (List ℕ)) (pairs more_pairs : List Pair)
    → Says form xs words models pairs → Says form ys more_words more_models more_pairs → Says form (xs ++ ys) (words ++ more_words) (models ++ more_models) (pairs ++ more_pairs)
both_say form xs ys words more_words models more_models pairs more_pairs a b = record {
  plain = filter_map-append (plain_token form) xs ys ∙ ap₂ (λ s t. s ++ t) a.plain b.plain;
  models_are = filter_map-append (model_in form) xs ys ∙ ap₂ (λ s t. s ++ t) a.models_are b.models_are;
  pairs = filter_map-append (pair_in form) xs ys ∙ ap₂ (λ s t. s ++ t) a.pairs b.pairs;
  pins = list_any-append (is_pins form) xs ys ∙ ap₂ (λ s t. s || t) a.pins b.pins;
}

-- ## The model of a device

last_dropped : (xs : List ℕ) (y : ℕ) → drop (length (xs ++ y ∷ []) - 1) (xs ++ y ∷ []) ≡ y ∷ []
last_dropped xs y =
    let e : length (xs ++ y ∷ []) - 1 ≡ length xs = omega (arith, length-append xs (y ∷ [])) in
    rw e (drop-append_seam xs (y ∷ []))

pub bracket_closed : (model : List ℕ) → 0 < length model → is_closed (bracketed model) ≡ true
bracket_closed model some =
    let last = last_dropped (codes "$[" ++ model) 93 in
    let long : nat_lt 3 (length (bracketed model)) ≡ true = lt-ltb 3 (length (bracketed model)) (omega (arith, length-append model (codes "]"))) in
    λ i. pointwise nat_eq (93 ∷ []) (last i) && long i

between_is : (model : List ℕ) → between_brackets (bracketed model) ≡ model
between_is model =
    let e : length (bracketed model) - 3 ≡ length model = omega (arith, length-append model (codes "]")) in
    rw e (take-append_seam model (codes "]"))

pub bracket_says : (letter : Letter) (model : List ℕ) → IsTokenText model → Says (device_form letter) (Alone (bracketed model) ∷ []) [] (model ∷ []) []
bracket_says letter model h =
    let closed = bracket_closed model h.some in
    let between = between_is model in
    record {
      plain = refl;
      models_are = λ i. cons_option (if closed i then Some (between i) else None) [];
      pairs = refl;
      pins = refl;
    }

-- ## Before and after `$PINS`

before_none : (form : CardForm) (items : List Item) → has_pins form items ≡ false → before_pins form items ≡ items
before_none form [] h = refl
before_none form (x ∷ xs) h =
    let parts = or_parts (is_pins form x) (has_pins form xs) h in
    let front = parts.0 in
    let more = before_none form xs parts.1 in
    λ i. if front i then [] else x ∷ more i

after_none : (form : CardForm) (items : List Item) → has_pins form items ≡ false → after_pins form items ≡ []
after_none form [] h = refl
after_none form (x ∷ xs) h =
    let parts = or_parts (is_pins form x) (has_pins form xs) h in
    cond-false (is_pins form x) xs (after_pins form xs) parts.0 ∙ after_none form xs parts.1

before_at : (form : CardForm) (xs : List Item) (pins : Item) (ys : List Item) → has_pins form xs ≡ false → is_pins form pins ≡ true → before_pins form (xs ++ pins ∷ ys) ≡ xs
before_at form [] pins ys h is = λ i. if is i then [] else pins ∷ before_pins form ys
before_at form (x ∷ xs) pins ys h is =
    let parts = or_parts (is_pins form x) (has_pins form xs) h in
    let front = parts.0 in
    let more = before_at form xs pins ys parts.1 is in
    λ i. if front i then [] else x ∷ more i

after_at : (form : CardForm) (xs : List Item) (pins : Item) (ys : List Item) → has_pins form xs ≡ false → is_pins form pins ≡ true → after_pins form (xs ++ pins ∷ ys) ≡ ys
after_at form [] pins ys h is = λ i. if is i then ys else after_pins form ys
after_at form (x ∷ xs) pins ys h is =
    let parts = or_parts (is_pins form x) (has_pins form xs) h in
    cond-false (is_pins form x) (xs ++ pins ∷ ys) (after_pins form (xs ++ pins ∷ ys)) parts.0 ∙ after_at form xs pins ys parts.1 is

-- ## All parts

abbrev pub parts_without_pins : List (List ℕ) → Option (List ℕ) → List Pair → CardParts
parts_without_pins words model pairs = record { plain = words; model = model; pairs = pairs; by_name = false; late_plain = false; connections = [] }

pub parts_said : (form : CardForm) (items : List Item) (words models : List (List ℕ)) (pairs : List Pair) → Says form items words models pairs → parts_of form items ≡ parts_without_pins words (last_of models) pairs
unfolding parts_of
parts_said form items words models pairs h =
    same_parts (parts_of form items) (parts_without_pins words (last_of models) pairs)
    h.plain
    (ap last_of h.models_are)
    (ap (pairs_of form) (before_none form items h.pins) ∙ h.pairs)
    h.pins
    (ap (has_plain form) (after_none form items h.pins))
    (ap (pairs_of form) (after_none form items h.pins))

none_late : (pairs : List Pair) → has_plain instance_form (pair_items pairs) ≡ false
none_late [] = refl
none_late (p ∷ pairs) = none_late pairs

abbrev pub parts_by_name : List (List ℕ) → List Pair → List Pair → CardParts
parts_by_name words pairs connections = record { plain = words; model = None; pairs = pairs; by_name = true; late_plain = false; connections = connections }

pub parts_with_pins : (items : List Item) (words : List (List ℕ)) (pairs connections : List Pair) → Says instance_form items words [] pairs → All (IsParameter instance_form) connections
    → parts_of instance_form (items ++ Alone (codes "$PINS") ∷ pair_items connections) ≡ parts_by_name (words ++ []) pairs connections
unfolding parts_of
parts_with_pins items words pairs connections h k =
    let pins = Alone (codes "$PINS") in
    let after = pair_items connections in
    let more = pairs_say instance_form connections k in
    same_parts (parts_of instance_form (items ++ pins ∷ after)) (parts_by_name (words ++ []) pairs connections)
    (filter_map-append (plain_token instance_form) items (pins ∷ after) ∙ ap₂ (λ s t. s ++ t) h.plain more.plain)
    (ap last_of (filter_map-append (model_in instance_form) items (pins ∷ after) ∙ ap₂ (λ s t. s ++ t) h.models_are more.models_are))
    (ap (pairs_of instance_form) (before_at instance_form items pins after h.pins refl) ∙ h.pairs)
    (list_any-append (is_pins instance_form) items (pins ∷ after) ∙ ap (λ b. b || true) h.pins)
    (ap (has_plain instance_form) (after_at instance_form items pins after h.pins refl) ∙ none_late connections)
    (ap (pairs_of instance_form) (after_at instance_form items pins after h.pins refl) ∙ more.pairs)
