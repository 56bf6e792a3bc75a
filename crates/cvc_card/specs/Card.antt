-- The card of a line, or its first fault: that of the first token, then the leftmost of the tokens after it, then wrong connections
-- by name, then something that is missing.
pub use Rattle.cvc_names.specs.Names.{has_twice}
use Rattle.std.specs.Prelude.{ℕ, ◌-◌, Bool, true, false, ◌==◌, ◌&&◌, ◌||◌, not, nat_lt, List, [], ◌∷◌, ◌++◌, length, take, drop, map, Option, Some, None, Result, Ok, Err, if◌then◌else◌, codes, unwrap_or}
use Rattle.std.specs.Option.{option_map, option_to_list}
use Rattle.std.specs.List.{filter, find, list_any, before_first, after_first}
use Rattle.cvc_base.specs.declared.cause.Cause.{Cause}
use Rattle.cvc_base.specs.declared.cause.Cause.TheVariants.{UnknownCard, BadPins, ShortCard}
use Rattle.cvc_base.specs.declared.line.Line.{Line}
use Rattle.cvc_base.specs.Order.{◌>>=◌}
use Rattle.cvc_base.specs.declared.param.Pair.{Pair}
use Rattle.cvc_card.specs.declared.card.Card.{Card}
use Rattle.cvc_card.specs.declared.card.Card.TheVariants as cards
use Rattle.cvc_card.specs.declared.card.Letter.{Letter}
use Rattle.cvc_card.specs.declared.card.Letter.TheVariants.{M, D, R, C, L, Q}
use Rattle.cvc_card.specs.declared.card.Ports.{Ports}
use Rattle.cvc_card.specs.declared.card.Ports.TheVariants.{ByOrder, ByName}
use Rattle.cvc_card.specs.declared.form.Form.{Form}
use Rattle.cvc_card.specs.declared.form.Form.TheVariants.{Device, Inst, Subckt, Ends, Global, Params}
use Rattle.cvc_card.specs.Words.{is_slash, is_number}
use Rattle.cvc_card.specs.Forms.{form_of}
use Rattle.cvc_card.specs.Items.{items_of}
use Rattle.cvc_card.specs.Parts.{CardParts, parts_of, or_else, last_of}

abbrev pub first_of : {X : Type 0} → List X → Option X
first_of [] = None
first_of (x ∷ _) = Some x

-- what is missing makes the card short
abbrev pub present : {X : Type 0} → Option X → Result X Cause
present None = Err ShortCard
present (Some x) = Ok x

-- ---- devices

abbrev pub net_count : Letter → ℕ
net_count M = 4
net_count D = 2
net_count R = 2
net_count C = 2
net_count L = 2
net_count Q = 3

abbrev pub letter_name : Letter → List ℕ
letter_name M = codes "M"
letter_name D = codes "D"
letter_name R = codes "R"
letter_name C = codes "C"
letter_name L = codes "L"
letter_name Q = codes "Q"

abbrev pub is_word : List ℕ → Bool
is_word token = not (is_number token)

-- the model of a device whose card names none, from the plain tokens after the nets
abbrev pub model_among : Letter → List (List ℕ) → Option (List ℕ)
model_among M more = first_of more
model_among D more = first_of more
model_among R more = Some (unwrap_or (find is_word more) (letter_name R))
model_among C more = Some (unwrap_or (find is_word more) (letter_name C))
model_among L more = Some (unwrap_or (find is_word more) (letter_name L))
model_among Q more = last_of (filter is_word more)

-- the value of a resistor, a capacitor or an inductor is the first number after the nets
abbrev pub has_value : Letter → Bool
has_value R = true
has_value C = true
has_value L = true
has_value _ = false

abbrev pub value_pairs : Letter → List (List ℕ) → List Pair
value_pairs letter more =
    if has_value letter then option_to_list (option_map (λ number. record { name = letter_name letter; value = number }) (find is_number more))
    else []

-- a device of these nets, with the plain tokens after them
abbrev pub device_with : Letter → List ℕ → ℕ → List (List ℕ) → List (List ℕ) → CardParts → Result Card Cause
device_with letter name line nets more parts = do
  model ← present (or_else parts.model (model_among letter more))
  Ok (cards.Device record { letter = letter; name = name; nets = nets; model = model; pairs = value_pairs letter more ++ parts.pairs; line = line })

unfoldable pub device_of : Letter → List ℕ → ℕ → CardParts → Result Card Cause
device_of letter name line parts =
    if nat_lt (length parts.plain) (net_count letter) then Err ShortCard
    else device_with letter name line (take (net_count letter) parts.plain) (drop (net_count letter) parts.plain) parts

-- ---- instances

abbrev pub without_last : List (List ℕ) → List (List ℕ)
without_last tokens = take (length tokens - 1) tokens

-- Without a lone `/` the last plain token is the cell. With one, the nets stand before the first, and the cell after it.
unfoldable pub nets_of : List (List ℕ) → List (List ℕ)
nets_of plain = if list_any is_slash plain then before_first is_slash plain else without_last plain

unfoldable pub cell_of : List (List ℕ) → Option (List ℕ)
cell_of plain = if list_any is_slash plain then first_of (after_first is_slash plain) else last_of plain

-- beside connections by name stand no nets and no plain token after `$PINS`, and no port is connected twice
abbrev pub are_bad_pins : CardParts → Bool
are_bad_pins parts =
    parts.by_name && (not (length (nets_of parts.plain) == 0) || parts.late_plain || has_twice (map (λ pair. pair.name) parts.connections))

abbrev pub ports_of : CardParts → Ports
ports_of parts = if parts.by_name then ByName parts.connections else ByOrder (nets_of parts.plain)

unfoldable pub instance_of : List ℕ → ℕ → CardParts → Result Card Cause
instance_of name line parts =
    if are_bad_pins parts then Err BadPins
    else do
      cell ← present (cell_of parts.plain)
      Ok (cards.Inst record { name = name; cell = cell; ports = ports_of parts; pairs = parts.pairs; line = line })

-- ---- dot cards

abbrev pub cell_card : ℕ → List (List ℕ) → List Pair → Result Card Cause
cell_card line [] pairs = Err ShortCard
cell_card line (name ∷ ports) pairs = Ok (cards.Subckt record { name = name; ports = ports; pairs = pairs; line = line })

-- before the first colon
abbrev pub before_colon : List ℕ → List ℕ
before_colon token = before_first (λ c. c == 58) token

unfoldable pub globals_of : List (List ℕ) → List (List ℕ)
globals_of plain = filter (λ name. not (length name == 0)) (map before_colon plain)

-- ---- the card

-- the card of a form, from its name, its line and its parts
unfoldable pub card_from : Form → List ℕ → ℕ → CardParts → Result Card Cause
card_from (Device letter) name line parts = device_of letter name line parts
card_from Inst name line parts = instance_of name line parts
card_from Subckt name line parts = cell_card line parts.plain parts.pairs
card_from Ends name line parts = Ok (cards.Ends (first_of parts.plain))
card_from Global name line parts = Ok (cards.Global (globals_of parts.plain))
card_from Params name line parts = Ok (cards.Params parts.pairs)

abbrev pub card_with : Option Form → List ℕ → ℕ → List (List ℕ) → Result Card Cause
card_with None name line tokens = Ok cards.Ignored
card_with (Some form) name line tokens = do
  items ← items_of tokens
  card_from form name line (parts_of form items)

abbrev pub card_of_texts : Bool → ℕ → List (List ℕ) → Result Card Cause
card_of_texts directive line [] = Err UnknownCard
card_of_texts directive line (name ∷ tokens) = do
  form ← form_of directive name
  card_with form name line tokens

unfoldable pub card_of : Line → Result Card Cause
card_of line = card_of_texts line.directive line.first (map (λ token. token.text) line.tokens)
