-- What is known of the card of a line.
use Rattle.std.proofs.Common.{◌≡◌, ℕ, ◌&&◌, ◌||◌, ◌==◌, not, nat_lt, Bool, true, false, List, [], ◌∷◌, ◌++◌, length, take, drop, map, Option, Some, None, Result, Ok, Err, if◌then◌else◌, refl, subst, arith}
use Rattle.std.proofs.lemmas.List.{length-take}
use Rattle.cvc_base.specs.declared.cause.Cause.{Cause}
use Rattle.cvc_base.specs.declared.cause.Cause.TheVariants.{BadPins, ShortCard}
use Rattle.cvc_base.specs.declared.line.Line.{Line}
use Rattle.cvc_base.specs.declared.param.Pair.{Pair}
use Rattle.cvc_card.specs.declared.card.Card.{Card}
use Rattle.cvc_card.specs.declared.card.Card.TheVariants as cards
use Rattle.cvc_card.specs.declared.card.Letter.{Letter}
use Rattle.cvc_card.specs.declared.card.Ports.TheVariants.{ByOrder, ByName}
use Rattle.cvc_card.specs.declared.form.Form.{Form}
use Rattle.cvc_card.specs.declared.form.Form.TheVariants as forms
use Rattle.cvc_card.specs.Forms.{form_of}
use Rattle.cvc_card.specs.Items.{items_of}
use Rattle.cvc_card.specs.Parts.{CardParts, or_else, parts_of}
use Rattle.cvc_base.specs.Order.{◌>>=◌}
use Rattle.cvc_card.specs.Card.{are_bad_pins, card_from, card_of, card_of_texts, card_with, cell_card, cell_of, device_of, device_with, has_twice, instance_of, model_among, net_count, nets_of, ports_of, present, value_pairs}
use Rattle.cvc_card.specs.Formed.{ConnectsOnce, IsFormed}

module _ (line : ℕ) where
  abbrev AnswersFormed : Result Card Cause → Type 0
  AnswersFormed (Ok card) = IsFormed line card
  AnswersFormed (Err e) = Unit {0}

  chained : {A : Type 0} (r : Result A Cause) (f : A → Result Card Cause) → ((a : A) → AnswersFormed (f a)) → AnswersFormed (r >>= f)
  chained (Ok a) f h = h a
  chained (Err e) f h = tt

  -- ---- devices

  device_with_nets : (letter : Letter) (name : List ℕ) (nets more : List (List ℕ)) (parts : CardParts) → length nets ≡ net_count letter → AnswersFormed (device_with letter name line nets more parts)
  device_with_nets letter name nets more parts h =
      chained (present (or_else parts.model (model_among letter more)))
      (λ model. Ok (cards.Device record { letter = letter; name = name; nets = nets; model = model; pairs = value_pairs letter more ++ parts.pairs; line = line }))
      (λ model. (h, refl))

  device_if : (letter : Letter) (name : List ℕ) (parts : CardParts) (short : Bool) → nat_lt (length parts.plain) (net_count letter) ≡ short
      → AnswersFormed (if short then Err ShortCard else device_with letter name line (take (net_count letter) parts.plain) (drop (net_count letter) parts.plain) parts)
  device_if letter name parts true h = tt
  device_if letter name parts false h =
      device_with_nets letter name (take (net_count letter) parts.plain) (drop (net_count letter) parts.plain) parts (grind (arith, length-take))

  device_formed : (letter : Letter) (name : List ℕ) (parts : CardParts) → AnswersFormed (device_of letter name line parts)
  unfolding device_of
  device_formed letter name parts = device_if letter name parts (nat_lt (length parts.plain) (net_count letter)) refl

  -- ---- instances

  connects_once : (parts : CardParts) (by_name : Bool) → (by_name && (not (length (nets_of parts.plain) == 0) || parts.late_plain || has_twice (map (λ (p : Pair). p.name) parts.connections))) ≡ false
      → ConnectsOnce (if by_name then ByName parts.connections else ByOrder (nets_of parts.plain))
  connects_once parts true h = grind arith
  connects_once parts false h = tt

  instance_if : (name : List ℕ) (parts : CardParts) (bad : Bool) → are_bad_pins parts ≡ bad
      → AnswersFormed (if bad then Err BadPins else (present (cell_of parts.plain) >>= λ cell. Ok (cards.Inst record { name = name; cell = cell; ports = ports_of parts; pairs = parts.pairs; line = line })))
  instance_if name parts true h = tt
  instance_if name parts false h =
      chained (present (cell_of parts.plain)) (λ cell. Ok (cards.Inst record { name = name; cell = cell; ports = ports_of parts; pairs = parts.pairs; line = line }))
      (λ cell. (connects_once parts parts.by_name h, refl))

  instance_formed : (name : List ℕ) (parts : CardParts) → AnswersFormed (instance_of name line parts)
  unfolding instance_of
  instance_formed name parts = instance_if name parts (are_bad_pins parts) refl

  -- ---- all cards

  cell_formed : (plain : List (List ℕ)) (pairs : List Pair) → AnswersFormed (cell_card line plain pairs)
  cell_formed [] pairs = tt
  cell_formed (name ∷ ports) pairs = refl

  card_formed : (form : Form) (name : List ℕ) (parts : CardParts) → AnswersFormed (card_from form name line parts)
  unfolding card_from
  card_formed (forms.Device letter) name parts = device_formed letter name parts
  card_formed forms.Inst name parts = instance_formed name parts
  card_formed forms.Subckt name parts = cell_formed parts.plain parts.pairs
  card_formed forms.Ends name parts = tt
  card_formed forms.Global name parts = tt
  card_formed forms.Params name parts = tt

  form_formed : (o : Option Form) (name : List ℕ) (tokens : List (List ℕ)) → AnswersFormed (card_with o name line tokens)
  form_formed None name tokens = tt
  form_formed (Some form) name tokens = chained (items_of tokens) (λ items. card_from form name line (parts_of form items)) (λ items. card_formed form name (parts_of form items))

  texts_formed : (directive : Bool) (tokens : List (List ℕ)) → AnswersFormed (card_of_texts directive line tokens)
  texts_formed directive [] = tt
  texts_formed directive (name ∷ tokens) = chained (form_of directive name) (λ form. card_with form name line tokens) (λ form. form_formed form name tokens)

pub formed : (line : Line) (card : Card) → card_of line ≡ Ok card → IsFormed line.first card
unfolding card_of
formed line card h = subst (AnswersFormed line.first) h (texts_formed line.first line.directive (map (λ token. token.text) line.tokens))
