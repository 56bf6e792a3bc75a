-- The parts of a card's items, by the card's form: its plain tokens, the model that it names, its parameters, and on an instance the
-- connections, which are the pairs after `$PINS`.
use Rattle.std.specs.Prelude.{ℕ, Bool, true, false, ◌&&◌, ◌||◌, not, List, [], ◌∷◌, Option, Some, None, is_some, if◌then◌else◌, codes}
use Rattle.std.specs.List.{filter_map, list_any}
use Rattle.cvc_base.specs.declared.param.Pair.{Pair}
use Rattle.cvc_card.specs.declared.form.Form.{Form}
use Rattle.cvc_card.specs.declared.form.Form.TheVariants.{Device, Inst, Subckt}
use Rattle.cvc_card.specs.Words.{is_keyword, is_dollar, is_slash, is_model_bracket, between_brackets}
use Rattle.cvc_card.specs.Items.{Item, Named, Alone}

-- ---- plain tokens

-- a lone `/` is passed over on every card but an instance
abbrev pub passes_slashes : Form → Bool
passes_slashes Inst = false
passes_slashes _ = true

-- `PARAMS:` is passed over on an instance and where a cell begins
abbrev pub passes_params : Form → Bool
passes_params Inst = true
passes_params Subckt = true
passes_params _ = false

-- no token that begins with a dollar sign is plain
abbrev pub is_plain : Form → List ℕ → Bool
is_plain form token = not (is_dollar token || (passes_slashes form && is_slash token) || (passes_params form && is_keyword (codes "params:") token))

abbrev pub plain_token : Form → Item → Option (List ℕ)
plain_token form (Alone token) = if is_plain form token then Some token else None
plain_token form (Named pair) = None

abbrev pub plain_of : Form → List Item → List (List ℕ)
plain_of form items = filter_map (plain_token form) items

abbrev pub has_plain : Form → List Item → Bool
has_plain form items = list_any (λ item. is_some (plain_token form item)) items

-- ---- the model

abbrev pub is_device : Form → Bool
is_device (Device letter) = true
is_device _ = false

abbrev pub is_model_pair : Form → Pair → Bool
is_model_pair form pair = is_device form && is_keyword (codes ".model") pair.name

-- the model that an item of a device card names, by `$[m]` or by a pair `.MODEL`
abbrev pub model_in : Form → Item → Option (List ℕ)
model_in form (Alone token) = if is_device form && is_model_bracket token then Some (between_brackets token) else None
model_in form (Named pair) = if is_model_pair form pair then Some pair.value else None

abbrev pub last_of : {X : Type 0} → List X → Option X
last_of [] = None
last_of (x ∷ []) = Some x
last_of (x ∷ y ∷ rest) = last_of (y ∷ rest)

abbrev pub or_else : {X : Type 0} → Option X → Option X → Option X
or_else None other = other
or_else (Some x) other = Some x

-- the last one counts
abbrev pub model_of : Form → List Item → Option (List ℕ)
model_of form items = last_of (filter_map (model_in form) items)

-- ---- pairs

-- `$PINS` counts on an instance alone; on other cards all items stand before it
abbrev pub is_pins : Form → Item → Bool
is_pins Inst (Alone token) = is_keyword (codes "$pins") token
is_pins _ _ = false

abbrev pub has_pins : Form → List Item → Bool
has_pins form items = list_any (is_pins form) items

-- the items before the first `$PINS`, or all
abbrev pub before_pins : Form → List Item → List Item
before_pins form [] = []
before_pins form (item ∷ items) = if is_pins form item then [] else item ∷ before_pins form items

-- the items after the first `$PINS`
abbrev pub after_pins : Form → List Item → List Item
after_pins form [] = []
after_pins form (item ∷ items) = if is_pins form item then items else after_pins form items

-- a pair that names no model
abbrev pub pair_in : Form → Item → Option Pair
pair_in form (Alone token) = None
pair_in form (Named pair) = if is_model_pair form pair then None else Some pair

abbrev pub pairs_of : Form → List Item → List Pair
pairs_of form items = filter_map (pair_in form) items

-- ---- all parts

pub record CardParts : Type 0 where
  pub plain : List (List ℕ)
  pub model : Option (List ℕ)
  pub pairs : List Pair
  -- whether `$PINS` stands, whether a plain token stands after it, and the pairs after it
  pub by_name : Bool
  pub late_plain : Bool
  pub connections : List Pair

unfoldable pub parts_of : Form → List Item → CardParts
parts_of form items = record {
  plain = plain_of form items;
  model = model_of form items;
  pairs = pairs_of form (before_pins form items);
  by_name = has_pins form items;
  late_plain = has_plain form (after_pins form items);
  connections = pairs_of form (after_pins form items);
}
