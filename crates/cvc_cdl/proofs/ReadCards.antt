-- What is known of the card of a line whose tokens are equals signs and texts that a token can have.
use Rattle.std.proofs.Common.{◌≡◌, inl, inr, ℕ, Bool, true, false, List, [], ◌∷◌, map, Option, Some, None, Result, Ok, Err, All, codes, if◌then◌else◌, refl, sym, ap, subst, ◌∙◌}
use Rattle.std.proofs.lemmas.List.Elements.{All-head, All-map, All-tail}
use Rattle.cvc_base.specs.declared.cause.Cause.{Cause}
use Rattle.cvc_base.specs.declared.cause.Cause.TheVariants.{UnknownCard}
use Rattle.cvc_base.specs.declared.line.Line.{Line}
use Rattle.cvc_base.specs.declared.line.Token.{Token}
use Rattle.cvc_base.specs.declared.param.Pair.{Pair}
use Rattle.cvc_card.specs.declared.card.Card.{Card}
use Rattle.cvc_card.specs.declared.card.Letter.{Letter}
use Rattle.cvc_card.specs.Words.{is_keyword}
use Rattle.cvc_card.specs.Forms.{form_of}
use Rattle.cvc_card.specs.Items.{items_of}
use Rattle.cvc_card.specs.Parts.{CardParts, parts_of}
use Rattle.cvc_base.specs.Order.{◌>>=◌}
use Rattle.cvc_card.specs.Card.{card_from, card_of, card_of_texts, card_with, cell_card}
use Rattle.cvc_card.proofs.FormNames.{CardForm, device_form, instance_form, cell_form, ends_form, global_form, params_form, by_form}
use Rattle.cvc_cdl.specs.Pieces.{IsTokenText}
use Rattle.cvc_cdl.proofs.Printable.{IsPlainText, IsParameter, IsReadCard}
use Rattle.cvc_cdl.proofs.ReadLines.{IsCardText, HasCardTokens}
use Rattle.cvc_cdl.proofs.ReadItems.{AreReadItems, AreReadParts, items_good, parts_good}
use Rattle.cvc_cdl.proofs.ReadParts.{IsReadAnswer, device_good, first_good, globals_good, instance_good}

-- ## Names

-- what has another form than `.GLOBAL` is no directive
global_if : (b : Bool) (form : CardForm) → (let answer : Result (Option CardForm) Cause = if b then Ok (Some global_form) else Ok None in answer) ≡ Ok (Some form) → form ≡ global_form
global_if true form h = cc
global_if false form h = absurd cc

no_directive : (directive : Bool) (name : List ℕ) (form : CardForm) → (form ≡ global_form → ⊥) → form_of directive name ≡ Ok (Some form) → form_of false name ≡ Ok (Some form)
unfolding form_of
no_directive false name form other h = h
no_directive true name form other h = absurd (other (global_if (is_keyword (codes "*.global") name) form h))

device_other : (letter : Letter) → device_form letter ≡ global_form → ⊥
device_other letter e = cc

instance_other : instance_form ≡ global_form → ⊥
instance_other e = cc

unknown_sign : form_of false (codes "=") ≡ Err UnknownCard
unfolding form_of
unknown_sign = refl

name_token : (name : List ℕ) (form : CardForm) → IsCardText name → form_of false name ≡ Ok (Some form) → IsTokenText name
name_token name form (inl e) h = absurd (let bad : Err UnknownCard ≡ Ok (Some form) = sym unknown_sign ∙ sym (ap (form_of false) e) ∙ h in cc)
name_token name form (inr token) h = token

-- ## Cards

cell_good : (line : ℕ) (plain : List (List ℕ)) (pairs : List Pair) → All (IsPlainText cell_form) plain → All (IsParameter cell_form) pairs → IsReadAnswer (cell_card line plain pairs)
cell_good line [] pairs h k = tt
cell_good line (name ∷ ports) pairs h k = record { name = All-head (IsPlainText cell_form) name ports h; ports = All-tail (IsPlainText cell_form) name ports h; pairs = k }

module _ (directive : Bool) (name : List ℕ) (line : ℕ) (token : IsCardText name) where
  abbrev GivesRead : CardForm → Type 0
  GivesRead form = form_of directive name ≡ Ok (Some form) → (parts : CardParts) → AreReadParts form parts → IsReadAnswer (card_from form name line parts)

  device_gives : (letter : Letter) → GivesRead (device_form letter)
  unfolding card_from
  device_gives letter h parts k =
      let is = no_directive directive name (device_form letter) (device_other letter) h in
      device_good name line parts letter is (name_token name (device_form letter) token is) k

  instance_gives : GivesRead instance_form
  unfolding card_from
  instance_gives h parts k =
      let is = no_directive directive name instance_form instance_other h in
      instance_good name line parts is (name_token name instance_form token is) k

  cell_gives : GivesRead cell_form
  unfolding card_from
  cell_gives h parts k = cell_good line parts.plain parts.pairs k.plain k.pairs

  ends_gives : GivesRead ends_form
  unfolding card_from
  ends_gives h parts k = first_good (IsPlainText ends_form) parts.plain k.plain

  global_gives : GivesRead global_form
  unfolding card_from
  global_gives h parts k = globals_good parts.plain k.plain

  params_gives : GivesRead params_form
  unfolding card_from
  params_gives h parts k = k.pairs

  form_gives : (form : CardForm) → GivesRead form
  form_gives form = by_form GivesRead device_gives instance_gives cell_gives ends_gives global_gives params_gives form

-- ## Lines

chained : {A : Type 0} (r : Result A Cause) (f : A → Result Card Cause) → ((a : A) → r ≡ Ok a → IsReadAnswer (f a)) → IsReadAnswer (r >>= f)
chained (Ok a) f h = h a refl
chained (Err e) f h = tt

with_good : (directive : Bool) (line : ℕ) (name : List ℕ) (tokens : List (List ℕ)) → IsCardText name → All IsCardText tokens → (o : Option CardForm) → form_of directive name ≡ Ok o → IsReadAnswer (card_with o name line tokens)
with_good directive line name tokens token h None is = tt
with_good directive line name tokens token h (Some form) is =
    chained (items_of tokens) (λ items. card_from form name line (parts_of form items))
    (λ items e. form_gives directive name line token form is (parts_of form items) (parts_good form items (subst AreReadItems e (items_good tokens h))))

texts_good : (directive : Bool) (line : ℕ) (ts : List (List ℕ)) → All IsCardText ts → IsReadAnswer (card_of_texts directive line ts)
texts_good directive line [] h = tt
texts_good directive line (name ∷ tokens) h =
    chained (form_of directive name) (λ o. card_with o name line tokens)
    (λ o is. with_good directive line name tokens (All-head IsCardText name tokens h) (All-tail IsCardText name tokens h) o is)

pub card_read : (line : Line) (card : Card) → HasCardTokens line → card_of line ≡ Ok card → IsReadCard card
unfolding card_of
card_read line card h is =
    let texts : List (List ℕ) = map (λ (t : Token). t.text) line.tokens in
    subst IsReadAnswer is (texts_good line.directive line.first texts (All-map IsCardText (λ (t : Token). t.text) line.tokens h))
