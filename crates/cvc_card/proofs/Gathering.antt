-- The parts of items, one item at a time, as the loop over a card's tokens finds them.
use Rattle.std.proofs.Common.{◌≡◌, ℕ, ◌&&◌, ◌||◌, Bool, true, false, List, [], ◌∷◌, ◌++◌, length, Option, Some, None, is_some, Result, Ok, Err, if◌then◌else◌, refl, sym, ap, ◌∙◌, append_assoc, arith}
use Rattle.std.specs.Option.{option_to_list}
use Rattle.std.specs.List.{cons_option, filter_map, list_any}
use Rattle.std.proofs.lemmas.List.{append-nil}
use Rattle.std.proofs.lemmas.List.Elements.{filter_map-append}
use Rattle.std.proofs.lemmas.List.Folds.{list_any-append}
use Rattle.cvc_base.specs.declared.cause.Cause.{Cause}
use Rattle.cvc_base.specs.declared.line.Token.{Token}
use Rattle.cvc_base.specs.declared.param.Pair.{Pair}
use Rattle.cvc_card.specs.declared.form.Form.{Form}
use Rattle.cvc_card.specs.declared.form.Form.TheVariants.{Device, Inst, Subckt, Ends, Global, Params}
use Rattle.cvc_card.specs.Items.{Item, Named, Alone, followed_by, items_of}
use Rattle.cvc_card.specs.Parts.{CardParts, after_pins, before_pins, has_pins, has_plain, is_pins, last_of, model_in, or_else, pair_in, pairs_of, parts_of, plain_token}
use Rattle.cvc_card.specs.Reading.{added, texts_of}
use Rattle.cvc_card.proofs.Plainness.{same_parts}

-- ---- one more item

single : {X : Type 0} (o : Option X) → cons_option o [] ≡ option_to_list o
single None = refl
single (Some x) = refl

filter_map-push : {X Y : Type 0} (f : X → Option Y) (xs : List X) (x : X) → filter_map f (xs ++ x ∷ []) ≡ filter_map f xs ++ option_to_list (f x)
filter_map-push f xs x = filter_map-append f xs (x ∷ []) ∙ ap (λ ys. filter_map f xs ++ ys) (single (f x))

or-false : (b : Bool) → (b || false) ≡ b
or-false false = refl
or-false true = refl

list_any-push : {X : Type 0} (p : X → Bool) (xs : List X) (x : X) → list_any p (xs ++ x ∷ []) ≡ (list_any p xs || p x)
list_any-push p xs x = list_any-append p xs (x ∷ []) ∙ ap (λ b. list_any p xs || b) (or-false (p x))

last_of-push : {X : Type 0} (xs : List X) (x : X) → last_of (xs ++ x ∷ []) ≡ Some x
last_of-push [] x = refl
last_of-push (y ∷ []) x = refl
last_of-push (y ∷ z ∷ xs) x = last_of-push (z ∷ xs) x

last_of-more : {X : Type 0} (xs : List X) (o : Option X) → last_of (xs ++ option_to_list o) ≡ or_else o (last_of xs)
last_of-more xs None = ap last_of (append-nil xs)
last_of-more xs (Some x) = last_of-push xs x

-- ---- before and after `$PINS`

before_step : (b h : Bool) (x : Item) (more before tail : List Item) → more ≡ (if h then before else before ++ tail)
    → (if b then [] else x ∷ more) ≡ (if b || h then (if b then [] else x ∷ before) else (if b then [] else x ∷ before) ++ tail)
before_step true h x more before tail e = refl
before_step false true x more before tail e = ap (λ is. x ∷ is) e
before_step false false x more before tail e = ap (λ is. x ∷ is) e

before-push : (form : Form) (items : List Item) (i : Item)
    → before_pins form (items ++ i ∷ []) ≡ (if has_pins form items then before_pins form items else before_pins form items ++ (if is_pins form i then [] else i ∷ []))
before-push form [] i = refl
before-push form (x ∷ xs) i = before_step (is_pins form x) (has_pins form xs) x _ _ _ (before-push form xs i)

after_step : (b h : Bool) (xs more after tail : List Item) → more ≡ (if h then after ++ tail else [])
    → (if b then xs ++ tail else more) ≡ (if b || h then (if b then xs else after) ++ tail else [])
after_step true h xs more after tail e = refl
after_step false h xs more after tail e = e

last_pins : (b : Bool) → (if b then [] else []) ≡ (let none : List Item = [] in none)
last_pins true = refl
last_pins false = refl

after-push : (form : Form) (items : List Item) (i : Item) → after_pins form (items ++ i ∷ []) ≡ (if has_pins form items then after_pins form items ++ i ∷ [] else [])
after-push form [] i = last_pins (is_pins form i)
after-push form (x ∷ xs) i = after_step (is_pins form x) (has_pins form xs) xs _ _ _ (after-push form xs i)

none_step : (b h : Bool) (xs after : List Item) → (h ≡ false → after ≡ []) → (b || h) ≡ false → (if b then xs else after) ≡ []
none_step true h xs after e is = cc
none_step false h xs after e is = e is

after-none : (form : Form) (items : List Item) → has_pins form items ≡ false → after_pins form items ≡ []
after-none form [] is = refl
after-none form (x ∷ xs) is = none_step (is_pins form x) (has_pins form xs) xs (after_pins form xs) (after-none form xs) is

-- ---- each part

no_pair_step : (b : Bool) (t : List ℕ) (form : Form) → filter_map (pair_in form) (if b then [] else Alone t ∷ []) ≡ []
no_pair_step true t form = refl
no_pair_step false t form = refl

named-pins : (form : Form) (p : Pair) → is_pins form (Named p) ≡ false
named-pins (Device letter) p = refl
named-pins Inst p = refl
named-pins Subckt p = refl
named-pins Ends p = refl
named-pins Global p = refl
named-pins Params p = refl

pair_unless_pins : (form : Form) (i : Item) → filter_map (pair_in form) (if is_pins form i then [] else i ∷ []) ≡ option_to_list (pair_in form i)
pair_unless_pins form (Alone t) = no_pair_step (is_pins form (Alone t)) t form
pair_unless_pins form (Named p) = ap (λ b. filter_map (pair_in form) (if b then [] else Named p ∷ [])) (named-pins form p) ∙ single (pair_in form (Named p))

pairs_step : (form : Form) (h : Bool) (before tail : List Item) → filter_map (pair_in form) (if h then before else before ++ tail) ≡ (if h then pairs_of form before else pairs_of form before ++ filter_map (pair_in form) tail)
pairs_step form true before tail = refl
pairs_step form false before tail = filter_map-append (pair_in form) before tail

pairs-push : (form : Form) (items : List Item) (i : Item)
    → pairs_of form (before_pins form (items ++ i ∷ [])) ≡ (if has_pins form items then pairs_of form (before_pins form items) else pairs_of form (before_pins form items) ++ option_to_list (pair_in form i))
pairs-push form items i =
    ap (pairs_of form) (before-push form items i)
    ∙ pairs_step form (has_pins form items) (before_pins form items) (if is_pins form i then [] else i ∷ [])
    ∙ ap (λ ps. if has_pins form items then pairs_of form (before_pins form items) else pairs_of form (before_pins form items) ++ ps) (pair_unless_pins form i)

connections_step : (form : Form) (h : Bool) (after : List Item) (i : Item) → (h ≡ false → after ≡ [])
    → pairs_of form (if h then after ++ i ∷ [] else []) ≡ (if h then pairs_of form after ++ option_to_list (pair_in form i) else pairs_of form after)
connections_step form true after i none = filter_map-push (pair_in form) after i
connections_step form false after i none = sym (ap (pairs_of form) (none refl))

connections-push : (form : Form) (items : List Item) (i : Item)
    → pairs_of form (after_pins form (items ++ i ∷ [])) ≡ (if has_pins form items then pairs_of form (after_pins form items) ++ option_to_list (pair_in form i) else pairs_of form (after_pins form items))
connections-push form items i =
    ap (pairs_of form) (after-push form items i) ∙ connections_step form (has_pins form items) (after_pins form items) i (after-none form items)

late_step : (form : Form) (h : Bool) (after : List Item) (i : Item) → (h ≡ false → after ≡ [])
    → has_plain form (if h then after ++ i ∷ [] else []) ≡ (has_plain form after || (h && is_some (plain_token form i)))
late_step form true after i none = list_any-push (λ item. is_some (plain_token form item)) after i
late_step form false after i none = sym (ap (has_plain form) (none refl)) ∙ sym (or-false (has_plain form after))

late-push : (form : Form) (items : List Item) (i : Item)
    → has_plain form (after_pins form (items ++ i ∷ [])) ≡ (has_plain form (after_pins form items) || (has_pins form items && is_some (plain_token form i)))
late-push form items i =
    ap (has_plain form) (after-push form items i) ∙ late_step form (has_pins form items) (after_pins form items) i (after-none form items)

pub parts_of-push : (form : Form) (items : List Item) (i : Item) → parts_of form (items ++ i ∷ []) ≡ added form (parts_of form items) i
unfolding parts_of
parts_of-push form items i =
    same_parts (parts_of form (items ++ i ∷ [])) (added form (parts_of form items) i)
    (filter_map-push (plain_token form) items i)
    (ap last_of (filter_map-push (model_in form) items i) ∙ last_of-more (filter_map (model_in form) items) (model_in form i))
    (pairs-push form items i)
    (list_any-push (is_pins form) items i)
    (late-push form items i)
    (connections-push form items i)

-- ---- the loop

-- the items that were read, and those that are still read
abbrev pub with_front : List Item → Result (List Item) Cause → Result (List Item) Cause
with_front seen (Ok items) = Ok (seen ++ items)
with_front seen (Err e) = Err e

-- how far the loop is: some items were read, the parts are theirs, and with the rest they are the items of all tokens
abbrev pub IsGathering : Form → List (List ℕ) → List (List ℕ) → CardParts → Type 0
IsGathering form tokens rest parts = (seen : List Item) × (with_front seen (items_of rest) ≡ items_of tokens) × (parts ≡ parts_of form seen)

regroup : (seen : List Item) (i : Item) (r : Result (List Item) Cause) → with_front seen (followed_by (Ok i) r) ≡ with_front (seen ++ i ∷ []) r
regroup seen i (Ok items) = ap (λ (is : List Item). Ok is) (simp append_assoc)
regroup seen i (Err e) = refl

pub begins : (form : Form) (tokens : List (List ℕ)) (parts : CardParts) → parts ≡ parts_of form [] → IsGathering form tokens tokens parts
begins form tokens parts is = ([], whole (items_of tokens), is)
  where
    whole : (r : Result (List Item) Cause) → with_front [] r ≡ r
    whole (Ok items) = refl
    whole (Err e) = refl

pub goes_on : (form : Form) (tokens rest after : List (List ℕ)) (parts next : CardParts) (i : Item) → IsGathering form tokens rest parts
    → items_of rest ≡ followed_by (Ok i) (items_of after) → next ≡ added form parts i → IsGathering form tokens after next
goes_on form tokens rest after parts next i h takes adds = (
  h.0 ++ i ∷ [],
  sym (regroup h.0 i (items_of after)) ∙ sym (ap (with_front h.0) takes) ∙ h.1,
  adds ∙ ap (λ p. added form p i) h.2 ∙ sym (parts_of-push form h.0 i),
)

pub fails : (form : Form) (tokens rest : List (List ℕ)) (parts : CardParts) (e : Cause) → IsGathering form tokens rest parts → items_of rest ≡ Err e → items_of tokens ≡ Err e
fails form tokens rest parts e h is = sym h.1 ∙ ap (with_front h.0) is

pub ends : (form : Form) (tokens : List (List ℕ)) (rest : List Token) (parts : CardParts) → IsGathering form tokens (texts_of rest) parts → length rest ≡ 0
    → (is : List Item) × (items_of tokens ≡ Ok is) × (parts ≡ parts_of form is)
unfolding items_of
ends form tokens [] parts h none = (h.0, sym h.1 ∙ ap (λ (is : List Item). Ok is) (append-nil h.0), h.2)
ends form tokens (t ∷ ts) parts h none = absurd (omega arith)
