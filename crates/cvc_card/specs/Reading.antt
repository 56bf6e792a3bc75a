-- What the private steps of reading promise: what the code keeps of a card, seen as plain values.
use Rattle.std.specs.Prelude.{◌≡◌, ℕ, ◌<◌, ◌&&◌, ◌||◌, List, ◌++◌, length, map, Result, Ok, Err, MatchResult, is_some, if◌then◌else◌}
use Rattle.std.specs.Option.{option_map, option_to_list}
use Rattle.std.specs.Borrow.{Bor}
use Rattle.cvc_base.specs.declared.cause.Cause.{Cause}
use Rattle.cvc_base.specs.declared.line.Token.{Token}
use Rattle.cvc_base.specs.declared.param.Pair.{Pair}
use Rattle.cvc_card.specs.declared.card.Card.{Card}
use Rattle.cvc_card.specs.declared.form.Form.{Form}
use Rattle.cvc_card.specs.declared.item.NamedValue.{NamedValue}
use Rattle.cvc_card.specs.declared.item.Item.{Item as HeldItem}
use Rattle.cvc_card.specs.declared.item.Item.TheVariants as held
use Rattle.cvc_card.specs.declared.parts.Parts.{Parts}
use Rattle.cvc_base.specs.declared.stop.Stop.{Stop}
use Rattle.cvc_base.specs.declared.stop.Stop.TheVariants as stops
use Rattle.cvc_card.specs.Items.{Item, Named, Alone, followed_by, items_of}
use Rattle.cvc_card.specs.Parts.{CardParts, is_pins, model_in, or_else, pair_in, parts_of, plain_token}

-- ---- views

abbrev pub text_of : Token → List ℕ
text_of token = token.text

abbrev pub texts_of : List Token → List (List ℕ)
texts_of tokens = map text_of tokens

abbrev pub pair_of : NamedValue → Pair
pair_of p = record { name = p.name.now; value = p.value.now }

abbrev pub name_of : NamedValue → List ℕ
name_of p = p.name.now

abbrev pub pairs_held : List NamedValue → List Pair
pairs_held ps = map pair_of ps

abbrev pub bytes_of : Bor (List ℕ) → List ℕ
bytes_of text = text.now

abbrev pub texts_held : List (Bor (List ℕ)) → List (List ℕ)
texts_held ts = map bytes_of ts

abbrev pub item_of : HeldItem → Item
item_of (held.Named p) = Named (pair_of p)
item_of (held.Alone text) = Alone text.now

abbrev pub parts_held : Parts → CardParts
parts_held p = record {
  plain = texts_held p.plain.items;
  model = option_map bytes_of p.model;
  pairs = pairs_held p.pairs.items;
  by_name = p.by_name;
  late_plain = p.late_plain;
  connections = pairs_held p.connections.items;
}

-- ---- steps

-- the front item and the tokens after it, or the first fault
abbrev pub TakesItem : List Token → Result (HeldItem × Bor (List Token)) Cause → Type 0
TakesItem tokens r =
    MatchResult r
    (λ x. (items_of (texts_of tokens) ≡ followed_by (Ok (item_of x.0)) (items_of (texts_of x.1.now))) × (length x.1.now < length tokens))
    (λ e. items_of (texts_of tokens) ≡ Err e)

-- the parts with one more item
abbrev pub added : Form → CardParts → Item → CardParts
added form parts item = record {
  plain = parts.plain ++ option_to_list (plain_token form item);
  model = or_else (model_in form item) parts.model;
  pairs = if parts.by_name then parts.pairs else parts.pairs ++ option_to_list (pair_in form item);
  by_name = parts.by_name || is_pins form item;
  late_plain = parts.late_plain || (parts.by_name && is_some (plain_token form item));
  connections = if parts.by_name then parts.connections ++ option_to_list (pair_in form item) else parts.connections;
}

-- ---- answers, where want of memory is free

abbrev pub Stops : {Y : Type 0} → Stop → Result Y Cause → Type 0
Stops stops.NoMemory answer = Unit {0}
Stops (stops.At cause) answer = answer ≡ Err cause

abbrev pub GivesCard : Result Card Stop → Result Card Cause → Type 0
GivesCard (Ok card) answer = answer ≡ Ok card
GivesCard (Err stop) answer = Stops stop answer

-- the parts of all items, or the items' fault
abbrev pub GivesParts : Form → Result Parts Stop → Result (List Item) Cause → Type 0
GivesParts form (Ok parts) items = (is : List Item) × (items ≡ Ok is) × (parts_held parts ≡ parts_of form is)
GivesParts form (Err stop) items = Stops stop items
