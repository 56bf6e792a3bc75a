-- Cards put together from their parts.
use Rattle.std.proofs.Common.{◌≡◌, ℕ, ◌<◌, ◌&&◌, ◌||◌, ◌==◌, not, Bool, true, false, if◌then◌else◌, List, ◌∷◌, length, map, get_or, Option, Some, None, Result, Ok, Err, Bor, sym, ap, subst, ◌∙◌}
use Rattle.std.proofs.lemmas.List.{length-map}
use Rattle.std.proofs.lemmas.Simd.{map-map}
use Rattle.cvc_base.specs.declared.cause.Cause.{Cause}
use Rattle.cvc_base.specs.declared.cause.Cause.TheVariants.{BadPins, ShortCard}
use Rattle.cvc_base.specs.declared.line.Line.{Line}
use Rattle.cvc_base.specs.declared.line.Token.{Token}
use Rattle.cvc_base.specs.declared.param.Pair.{Pair}
use Rattle.cvc_card.specs.declared.card.Card.{Card}
use Rattle.cvc_card.specs.declared.card.Card.TheVariants as cards
use Rattle.cvc_card.specs.declared.card.Ports.{Ports}
use Rattle.cvc_card.specs.declared.form.Form.{Form}
use Rattle.cvc_card.specs.declared.parts.Parts.{Parts}
use Rattle.cvc_base.specs.declared.stop.Stop.{Stop}
use Rattle.cvc_base.specs.declared.stop.Stop.TheVariants as stops
use Rattle.cvc_card.specs.Forms.{form_of}
use Rattle.cvc_card.specs.Items.{Item, items_of}
use Rattle.cvc_card.specs.Parts.{CardParts, parts_of}
use Rattle.cvc_base.specs.Order.{◌>>=◌}
use Rattle.cvc_card.specs.Card.{are_bad_pins, card_from, card_of, card_of_texts, card_with, cell_of, has_twice, instance_of, nets_of, ports_of, present}
use Rattle.cvc_card.specs.Reading.{GivesCard, Stops, bytes_of, name_of, pair_of, pairs_held, parts_held, texts_held, texts_of}
use Rattle.cvc_card.proofs.Fronts.{first_and_rest, rest_of}

-- ---- instances

-- what the code tests is what the definition does
pub tested : (p : Parts) (nets : List (Bor (List ℕ))) (bad : Bool) → texts_held nets ≡ nets_of (texts_held p.plain.items)
    → bad ≡ (p.by_name && (not (length nets == 0) || p.late_plain || has_twice (map name_of p.connections.items))) → are_bad_pins (parts_held p) ≡ bad
tested p nets bad is test =
    let sizes : length (nets_of (texts_held p.plain.items)) ≡ length nets = ap length (sym is) ∙ length-map nets bytes_of in
    let names : map (λ (pair : Pair). pair.name) (pairs_held p.connections.items) ≡ map name_of p.connections.items = map-map (λ (pair : Pair). pair.name) pair_of p.connections.items in
    ap (λ n. p.by_name && (not (n == 0) || p.late_plain || has_twice (map (λ (pair : Pair). pair.name) (pairs_held p.connections.items)))) sizes
    ∙ ap (λ ns. p.by_name && (not (length nets == 0) || p.late_plain || has_twice ns)) names
    ∙ sym test

module _ (name : List ℕ) (line : ℕ) (parts : CardParts) where
  instance_with : Option (List ℕ) → Result Card Cause
  instance_with o = present o >>= λ cell. Ok (cards.Inst record { name = name; cell = cell; ports = ports_of parts; pairs = parts.pairs; line = line })

  pub instance_bad : are_bad_pins parts ≡ true → instance_of name line parts ≡ Err BadPins
  unfolding instance_of instance_with
  instance_bad bad = ap (λ b. if b then Err BadPins else instance_with (cell_of parts.plain)) bad

  pub instance_short : are_bad_pins parts ≡ false → cell_of parts.plain ≡ None → instance_of name line parts ≡ Err ShortCard
  unfolding instance_of instance_with
  instance_short fine none = ap (λ b. if b then Err BadPins else instance_with (cell_of parts.plain)) fine ∙ ap instance_with none

  pub instance_done : (name' cell : List ℕ) (ports : Ports) (pairs : List Pair) → are_bad_pins parts ≡ false → cell_of parts.plain ≡ Some cell → name' ≡ name → ports ≡ ports_of parts → pairs ≡ parts.pairs
      → instance_of name line parts ≡ Ok (cards.Inst record { name = name'; cell = cell; ports = ports; pairs = pairs; line = line })
  unfolding instance_of instance_with
  instance_done name' cell ports pairs fine some n p q =
      ap (λ b. if b then Err BadPins else instance_with (cell_of parts.plain)) fine ∙ ap instance_with some
      ∙ ap (λ x. Ok (cards.Inst record { name = x; cell = cell; ports = ports_of parts; pairs = parts.pairs; line = line })) (sym n)
      ∙ ap (λ x. Ok (cards.Inst record { name = name'; cell = cell; ports = x; pairs = parts.pairs; line = line })) (sym p)
      ∙ ap (λ x. Ok (cards.Inst record { name = name'; cell = cell; ports = ports; pairs = x; line = line })) (sym q)

-- ---- the card of a line

module _ (line : Line) (tokens : List Token) (d : Token) (is : tokens ≡ line.tokens) (some : 0 < length line.tokens) (name : List ℕ) (named : name ≡ (get_or tokens 0 d).text) where
  abbrev pub after_form : Result (Option Form) Cause → Result Card Cause
  after_form r = r >>= λ form. card_with form name line.first (texts_of (rest_of tokens))

  -- what follows a form that is read
  abbrev pub after_tokens : Form → Result Card Cause
  after_tokens form = items_of (texts_of (rest_of tokens)) >>= λ items. card_from form name line.first (parts_of form items)

  pub card_front : (r : Result (Option Form) Cause) → r ≡ form_of line.directive name → card_of line ≡ after_form r
  unfolding card_of
  card_front r form =
      ap (λ ts. card_of_texts line.directive line.first (texts_of ts)) (sym is ∙ first_and_rest tokens d (rw is some))
      ∙ ap (λ x. card_of_texts line.directive line.first (x ∷ texts_of (rest_of tokens))) (sym named)
      ∙ ap after_form (sym form)

  pub card_ignored : (o : Option Form) → Ok o ≡ form_of line.directive name → o ≡ None → card_of line ≡ Ok cards.Ignored
  card_ignored o form none = card_front (Ok o) form ∙ ap (λ (x : Option Form). after_form (Ok x)) none

  pub card_read : (o : Option Form) (form : Form) → Ok o ≡ form_of line.directive name → o ≡ Some form → card_of line ≡ after_tokens form
  card_read o form is_form found = card_front (Ok o) is_form ∙ ap (λ (x : Option Form). after_form (Ok x)) found

-- a stop at the items is one at the card
pub stopped : (stop : Stop) (items : Result (List Item) Cause) (f : List Item → Result Card Cause) (answer : Result Card Cause) → answer ≡ (items >>= f) → Stops stop items → Stops stop answer
stopped stops.NoMemory items f answer is h = tt
stopped (stops.At cause) items f answer is h = is ∙ ap (λ x. x >>= f) h

-- the card of the parts is that of the items
pub gathered : (form : Form) (name : List ℕ) (line : ℕ) (parts : CardParts) (items : Result (List Item) Cause) (is : List Item) (answer : Result Card Cause)
    → answer ≡ (items >>= λ x. card_from form name line (parts_of form x)) → items ≡ Ok is → parts ≡ parts_of form is → answer ≡ card_from form name line parts
gathered form name line parts items is answer e ok same =
    e ∙ ap (λ x. x >>= λ y. card_from form name line (parts_of form y)) ok ∙ ap (card_from form name line) (sym same)

pub gives_same : (r : Result Card Stop) (a b : Result Card Cause) → b ≡ a → GivesCard r a → GivesCard r b
gives_same r a b e h = subst (GivesCard r) (sym e) h
