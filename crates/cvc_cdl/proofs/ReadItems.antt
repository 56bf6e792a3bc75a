-- The items and the parts of a card whose tokens are equals signs and texts that a token can have.
use Rattle.std.proofs.Common.{◌≡◌, inl, inr, ℕ, ◌-◌, ◌<◌, ◌&&◌, ◌||◌, ◌==◌, Bool, true, false, List, [], ◌∷◌, length, drop, Some, None, Result, Ok, Err, All, IfSome, codes, nat_eq, nat_lt, if◌then◌else◌, refl, ap, arith, length-drop, length-take}
use Rattle.std.specs.List.{cons_option, ends_with, filter_map, list_any}
use Rattle.std.proofs.lemmas.Bool.{and_parts, both_ways, cond_both, eqb-false, ltb-true, or_parts}
use Rattle.std.proofs.lemmas.List.Elements.{All-cons, All-head, All-nil, All-tail}
use Rattle.cvc_base.specs.declared.cause.Cause.{Cause}
use Rattle.cvc_base.specs.declared.cause.Cause.TheVariants.{BadParam, Unsupported}
use Rattle.cvc_card.specs.Words.{between_brackets, is_bracket, is_broken_bracket, is_closed, is_equals, is_expression, is_model_bracket, without_dollar}
use Rattle.cvc_card.specs.Items.{Item, Alone, alone, followed_by, items_of, named}
use Rattle.cvc_card.specs.Parts.{CardParts, after_pins, before_pins, is_device, is_model_pair, is_pins, is_plain, last_of, model_in, pairs_of, parts_of, plain_of}
use Rattle.cvc_card.proofs.FormNames.{CardForm}
use Rattle.cvc_cdl.specs.Pieces.{is_outside, IsTokenText}
use Rattle.cvc_cdl.proofs.Printable.{IsPlainText, IsParameter}
use Rattle.cvc_cdl.proofs.ReadLines.{IsCardText, no_later, no_more}

-- ## Items

abbrev pub IsReadItem : Item → Type 0
IsReadItem (Alone t) = IsTokenText t × (is_broken_bracket t ≡ false) × (is_expression t ≡ false)
IsReadItem (Item.Named p) = IsTokenText p.name × IsTokenText p.value × (is_expression p.value ≡ false)

abbrev IsItemAnswer : Result Item Cause → Type 0
IsItemAnswer (Ok item) = IsReadItem item
IsItemAnswer (Err e) = Unit {0}

abbrev pub AreReadItems : Result (List Item) Cause → Type 0
AreReadItems (Ok items) = All IsReadItem items
AreReadItems (Err e) = Unit {0}

one_more : (r : Result Item Cause) (rs : Result (List Item) Cause) → IsItemAnswer r → AreReadItems rs → AreReadItems (followed_by r rs)
one_more (Err e) rs h k = tt
one_more (Ok item) (Err e) h k = tt
one_more (Ok item) (Ok items) h k = All-cons IsReadItem item items h k

no_sign : (t : List ℕ) → IsCardText t → is_equals t ≡ false → IsTokenText t
no_sign t (inl e) other = absurd (both_ways (is_equals t) other (ap is_equals e))
no_sign t (inr h) other = h

alone_step : (equals broken expression : Bool) (t : List ℕ) → (equals ≡ false → IsTokenText t) → is_broken_bracket t ≡ broken → is_expression t ≡ expression
    → IsItemAnswer (if equals || broken then Err BadParam else (if expression then Err Unsupported else Ok (Alone t)))
alone_step true broken expression t h b x = tt
alone_step false true expression t h b x = tt
alone_step false false true t h b x = tt
alone_step false false false t h b x = (h refl, b, x)

alone_good : (t : List ℕ) → IsCardText t → IsItemAnswer (alone t)
alone_good t h = alone_step (is_equals t) (is_broken_bracket t) (is_expression t) t (no_sign t h) refl refl

without_inside : (name : List ℕ) → list_any is_outside name ≡ false → list_any is_outside (without_dollar name) ≡ false
without_inside [] h = refl
without_inside (c ∷ cs) h = cond_both (c == 36) cs (c ∷ cs) (λ ys. list_any is_outside ys ≡ false) (λ dollar. (or_parts (is_outside c) (list_any is_outside cs) h).1) (λ other. h)

pub some_bytes : (text : List ℕ) → (length text == 0) ≡ false → 0 < length text
some_bytes text h = let ne : length text ≡ 0 → ⊥ = eqb-false (length text) 0 h in omega arith

without_token : (name : List ℕ) → IsTokenText name → (length (without_dollar name) == 0) ≡ false → IsTokenText (without_dollar name)
without_token name h some = record { some = some_bytes (without_dollar name) some; bytes = without_inside name h.bytes }

named_step : (equals empty sign expression : Bool) (name value : List ℕ) → (equals ≡ false → empty ≡ false → IsTokenText name) → (sign ≡ false → IsTokenText value) → is_expression value ≡ expression
    → IsItemAnswer (if equals || empty || sign then Err BadParam else (if expression then Err Unsupported else Ok (Item.Named record { name = name; value = value })))
named_step true empty sign expression name value h k x = tt
named_step false true sign expression name value h k x = tt
named_step false false true expression name value h k x = tt
named_step false false false true name value h k x = tt
named_step false false false false name value h k x = (h refl refl, k refl, x)

named_good : (name value : List ℕ) → IsCardText name → IsCardText value → IsItemAnswer (named name value)
named_good name value h k =
    named_step (is_equals name) (length (without_dollar name) == 0) (is_equals value) (is_expression value) (without_dollar name) value
    (λ other some. without_token name (no_sign name h other) some) (no_sign value k) refl

pub items_good : (ts : List (List ℕ)) → All IsCardText ts → AreReadItems (items_of ts)
unfolding items_of
items_good [] h = All-nil IsReadItem
items_good (x ∷ []) h = one_more (alone x) (Ok []) (alone_good x (All-head IsCardText x [] h)) (All-nil IsReadItem)
items_good (x ∷ y ∷ []) h =
    let rest = All-tail IsCardText x (y ∷ []) h in
    cond_both (is_equals y) (Err BadParam) (followed_by (alone x) (items_of (y ∷ []))) AreReadItems (λ sign. tt)
    (λ other. one_more (alone x) (items_of (y ∷ [])) (alone_good x (All-head IsCardText x (y ∷ []) h)) (items_good (y ∷ []) rest))
items_good (x ∷ y ∷ z ∷ more) h =
    let first = All-head IsCardText x (y ∷ z ∷ more) h in
    let rest = All-tail IsCardText x (y ∷ z ∷ more) h in
    let behind = All-tail IsCardText y (z ∷ more) rest in
    cond_both (is_equals y) (followed_by (named x z) (items_of more)) (followed_by (alone x) (items_of (y ∷ z ∷ more))) AreReadItems
    (λ sign. one_more (named x z) (items_of more) (named_good x z first (All-head IsCardText z more behind)) (items_good more (All-tail IsCardText z more behind)))
    (λ other. one_more (alone x) (items_of (y ∷ z ∷ more)) (alone_good x first) (items_good (y ∷ z ∷ more) rest))

-- ## Parts

kept_if : {X : Type 0} (P : X → Type 0) (b : Bool) (x : X) (rest : List X) → (b ≡ true → P x) → All P rest → All P (cons_option (if b then Some x else None) rest)
kept_if P true x rest h more = All-cons P x rest (h refl) more
kept_if P false x rest h more = more

kept_unless : {X : Type 0} (P : X → Type 0) (b : Bool) (x : X) (rest : List X) → (b ≡ false → P x) → All P rest → All P (cons_option (if b then None else Some x) rest)
kept_unless P true x rest h more = more
kept_unless P false x rest h more = All-cons P x rest (h refl) more

pub last_good : {X : Type 0} (P : X → Type 0) (xs : List X) → All P xs → IfSome (last_of xs) P
last_good P [] h = tt
last_good P (x ∷ []) h = All-head P x [] h
last_good P (x ∷ y ∷ xs) h = last_good P (y ∷ xs) (All-tail P x (y ∷ xs) h)

between_token : (t : List ℕ) → IsTokenText t → is_model_bracket t ≡ true → IsTokenText (between_brackets t)
between_token t h is =
    let closed : is_closed t ≡ true = (and_parts (is_bracket t) (is_closed t) is).1 in
    let long : 3 < length t = ltb-true 3 (length t) (and_parts (ends_with nat_eq t (codes "]")) (nat_lt 3 (length t)) closed).1 in
    record {
      some = omega (arith, length-take (length t - 3) (drop 2 t), length-drop 2 t);
      bytes = no_more is_outside (length t - 3) (drop 2 t) (no_later is_outside 2 t h.bytes);
    }

pub record AreReadParts (form : CardForm) (parts : CardParts) : Type 0 where
  pub plain : All (IsPlainText form) parts.plain
  pub model : IfSome parts.model IsTokenText
  pub pairs : All (IsParameter form) parts.pairs
  pub connections : All (IsParameter form) parts.connections

module _ (form : CardForm) where
  plain_good : (items : List Item) → All IsReadItem items → All (IsPlainText form) (plain_of form items)
  plain_good [] h = All-nil (IsPlainText form)
  plain_good (Alone t ∷ items) h =
      let front = All-head IsReadItem (Alone t) items h in
      kept_if (IsPlainText form) (is_plain form t) t (plain_of form items) (λ is. record { token = front.0; expression = front.2; plain = is }) (plain_good items (All-tail IsReadItem (Alone t) items h))
  plain_good (Item.Named p ∷ items) h = plain_good items (All-tail IsReadItem (Item.Named p) items h)

  models_good : (items : List Item) → All IsReadItem items → All IsTokenText (filter_map (model_in form) items)
  models_good [] h = All-nil IsTokenText
  models_good (Alone t ∷ items) h =
      let front = All-head IsReadItem (Alone t) items h in
      kept_if IsTokenText (is_device form && is_model_bracket t) (between_brackets t) (filter_map (model_in form) items)
      (λ is. between_token t front.0 (and_parts (is_device form) (is_model_bracket t) is).1) (models_good items (All-tail IsReadItem (Alone t) items h))
  models_good (Item.Named p ∷ items) h =
      let front = All-head IsReadItem (Item.Named p) items h in
      kept_if IsTokenText (is_model_pair form p) p.value (filter_map (model_in form) items) (λ is. front.1) (models_good items (All-tail IsReadItem (Item.Named p) items h))

  pairs_good : (items : List Item) → All IsReadItem items → All (IsParameter form) (pairs_of form items)
  pairs_good [] h = All-nil (IsParameter form)
  pairs_good (Alone t ∷ items) h = pairs_good items (All-tail IsReadItem (Alone t) items h)
  pairs_good (Item.Named p ∷ items) h =
      let front = All-head IsReadItem (Item.Named p) items h in
      kept_unless (IsParameter form) (is_model_pair form p) p (pairs_of form items) (λ is. record { name = front.0; value = front.1; expression = front.2; model = is })
      (pairs_good items (All-tail IsReadItem (Item.Named p) items h))

  before_good : (items : List Item) → All IsReadItem items → All IsReadItem (before_pins form items)
  before_good [] h = All-nil IsReadItem
  before_good (item ∷ items) h =
      cond_both (is_pins form item) [] (item ∷ before_pins form items) (All IsReadItem) (λ pins. All-nil IsReadItem)
      (λ other. All-cons IsReadItem item (before_pins form items) (All-head IsReadItem item items h) (before_good items (All-tail IsReadItem item items h)))

  after_good : (items : List Item) → All IsReadItem items → All IsReadItem (after_pins form items)
  after_good [] h = All-nil IsReadItem
  after_good (item ∷ items) h =
      let rest = All-tail IsReadItem item items h in
      cond_both (is_pins form item) items (after_pins form items) (All IsReadItem) (λ pins. rest) (λ other. after_good items rest)

  pub parts_good : (items : List Item) → All IsReadItem items → AreReadParts form (parts_of form items)
  unfolding parts_of
  parts_good items h = record {
    plain = plain_good items h;
    model = last_good IsTokenText (filter_map (model_in form) items) (models_good items h);
    pairs = pairs_good (before_pins form items) (before_good items h);
    connections = pairs_good (after_pins form items) (after_good items h);
  }
