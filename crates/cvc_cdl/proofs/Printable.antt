-- The printed line of a card, and the cards that read back from theirs. What is known of every card that was read: each text that it keeps is one that a
-- token can have and begins no expression, and the card's form passes it on. Beside that, no global net is named by a lone `/`.
use Rattle.std.specs.Prelude.{◌≡◌, ℕ, true, false, List, [], ◌∷◌, ◌++◌, length, map, Some, Ok, All, IfSome, codes}
use Rattle.std.specs.Option.{option_to_list}
use Rattle.cvc_base.specs.declared.param.Pair.{Pair}
use Rattle.cvc_card.specs.declared.card.Card.{Card}
use Rattle.cvc_card.specs.declared.card.Card.TheVariants as cards
use Rattle.cvc_card.specs.declared.card.CellCard.{CellCard}
use Rattle.cvc_card.specs.declared.card.DeviceCard.{DeviceCard}
use Rattle.cvc_card.specs.declared.card.InstCard.{InstCard}
use Rattle.cvc_card.specs.declared.card.Ports.{Ports}
use Rattle.cvc_card.specs.declared.card.Ports.TheVariants.{ByOrder, ByName}
use Rattle.cvc_card.proofs.FormNames.{CardForm, device_form, instance_form, cell_form, ends_form, params_form}
use Rattle.cvc_card.specs.Words.{is_dollar, is_expression, is_slash}
use Rattle.cvc_card.specs.Forms.{form_of}
use Rattle.cvc_card.specs.Parts.{is_model_pair, is_plain}
use Rattle.cvc_card.specs.Card.{before_colon, net_count}
use Rattle.cvc_card.specs.Formed.{ConnectsOnce}
use Rattle.cvc_cdl.specs.Pieces.{Piece, Word, Named, PrintedLine, IsTokenText}

-- ## The line of a card

abbrev pub pair_piece : Pair → Piece
pair_piece p = Named p.name p.value

abbrev pub words_and_pairs : List (List ℕ) → List Pair → List Piece
words_and_pairs words pairs = map Word words ++ map pair_piece pairs

abbrev pub bracketed : List ℕ → List ℕ
bracketed model = codes "$[" ++ model ++ codes "]"

abbrev pub instance_pieces : List ℕ → List Pair → Ports → List Piece
instance_pieces cell pairs (ByOrder nets) = words_and_pairs (nets ++ codes "/" ∷ cell ∷ []) pairs
instance_pieces cell pairs (ByName connections) = words_and_pairs (codes "/" ∷ cell ∷ []) pairs ++ Word (codes "$PINS") ∷ map pair_piece connections

abbrev pub card_line : Card → PrintedLine
card_line (cards.Device d) = record { first = d.name; pieces = map Word d.nets ++ Word (bracketed d.model) ∷ map pair_piece d.pairs }
card_line (cards.Inst x) = record { first = x.name; pieces = instance_pieces x.cell x.pairs x.ports }
card_line (cards.Subckt c) = record { first = codes ".SUBCKT"; pieces = words_and_pairs (c.name ∷ c.ports) c.pairs }
card_line (cards.Ends name) = record { first = codes ".ENDS"; pieces = words_and_pairs (option_to_list name) [] }
card_line (cards.Global names) = record { first = codes "*.GLOBAL"; pieces = words_and_pairs names [] }
card_line (cards.Params pairs) = record { first = codes ".PARAM"; pieces = words_and_pairs [] pairs }
card_line cards.Ignored = record { first = codes ".END"; pieces = [] }

-- ## A card that was read

-- a token that stands alone and is plain on a card of this form
pub record IsPlainText (form : CardForm) (text : List ℕ) : Type 0 where
  pub token : IsTokenText text
  pub expression : is_expression text ≡ false
  pub plain : is_plain form text ≡ true

-- a pair that is a parameter of a card of this form, or a connection
pub record IsParameter (form : CardForm) (p : Pair) : Type 0 where
  pub name : IsTokenText p.name
  pub value : IsTokenText p.value
  pub expression : is_expression p.value ≡ false
  pub model : is_model_pair form p ≡ false

pub record IsReadDevice (d : DeviceCard) : Type 0 where
  pub form : form_of false d.name ≡ Ok (Some (device_form d.letter))
  pub name : IsTokenText d.name
  pub size : length d.nets ≡ net_count d.letter
  pub nets : All (IsPlainText (device_form d.letter)) d.nets
  pub model : IsTokenText d.model
  pub pairs : All (IsParameter (device_form d.letter)) d.pairs

pub record IsReadNet (net : List ℕ) : Type 0 where
  pub text : IsPlainText instance_form net
  pub slash : is_slash net ≡ false

abbrev pub AreReadPorts : Ports → Type 0
AreReadPorts (ByOrder nets) = All IsReadNet nets
AreReadPorts (ByName pairs) = All (IsParameter instance_form) pairs

pub record IsReadInstance (x : InstCard) : Type 0 where
  pub form : form_of false x.name ≡ Ok (Some instance_form)
  pub name : IsTokenText x.name
  pub cell : IsPlainText instance_form x.cell
  pub ports : AreReadPorts x.ports
  pub once : ConnectsOnce x.ports
  pub pairs : All (IsParameter instance_form) x.pairs

pub record IsReadCell (c : CellCard) : Type 0 where
  pub name : IsPlainText cell_form c.name
  pub ports : All (IsPlainText cell_form) c.ports
  pub pairs : All (IsParameter cell_form) c.pairs

pub record IsReadGlobal (name : List ℕ) : Type 0 where
  pub token : IsTokenText name
  pub expression : is_expression name ≡ false
  pub dollar : is_dollar name ≡ false
  pub colon : before_colon name ≡ name

abbrev pub IsReadCard : Card → Type 0
IsReadCard (cards.Device d) = IsReadDevice d
IsReadCard (cards.Inst x) = IsReadInstance x
IsReadCard (cards.Subckt c) = IsReadCell c
IsReadCard (cards.Ends name) = IfSome name (IsPlainText ends_form)
IsReadCard (cards.Global names) = All IsReadGlobal names
IsReadCard (cards.Params pairs) = All (IsParameter params_form) pairs
IsReadCard cards.Ignored = Unit {0}

-- ## A card that reads back

abbrev pub NamesNoSlash : Card → Type 0
NamesNoSlash (cards.Device d) = Unit {0}
NamesNoSlash (cards.Inst x) = Unit {0}
NamesNoSlash (cards.Subckt c) = Unit {0}
NamesNoSlash (cards.Ends name) = Unit {0}
NamesNoSlash (cards.Global names) = All (λ name. is_slash name ≡ false) names
NamesNoSlash (cards.Params pairs) = Unit {0}
NamesNoSlash cards.Ignored = Unit {0}

abbrev pub IsPrintableCard : Card → Type 0
IsPrintableCard card = IsReadCard card × NamesNoSlash card
