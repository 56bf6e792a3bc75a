-- The line of a card can be read: its first word begins a card or a directive, and each piece behind it reads back.
use Rattle.std.proofs.Common.{◌≡◌, inl, inr, ℕ, ◌&&◌, ◌||◌, ◌==◌, not, true, false, List, [], ◌∷◌, ◌++◌, length, map, Option, Some, None, Ok, Err, All, IfSome, codes, refl, sym, ap, ◌∙◌, arith}
use Rattle.std.specs.Option.{option_to_list}
use Rattle.std.proofs.lemmas.Bool.{both_ways, cases_Bool, eqb-true, or_from}
use Rattle.std.proofs.lemmas.List.Elements.{All-append, All-cons, All-map, All-nil, All-weaker}
use Rattle.std.proofs.lemmas.List.Folds.{list_any-append}
use Rattle.cvc_base.specs.declared.cause.Cause.TheVariants.{UnknownCard}
use Rattle.cvc_base.specs.declared.param.Pair.{Pair}
use Rattle.cvc_card.specs.declared.card.Card.{Card}
use Rattle.cvc_card.specs.declared.card.Card.TheVariants as cards
use Rattle.cvc_card.specs.declared.card.Ports.{Ports}
use Rattle.cvc_card.specs.declared.card.Ports.TheVariants.{ByOrder, ByName}
use Rattle.cvc_card.specs.Words.{is_bracket, is_dollar, is_slash}
use Rattle.cvc_card.specs.Forms.{form_of}
use Rattle.cvc_card.proofs.Plainness.{plain-dollar}
use Rattle.cvc_card.proofs.FormNames.{CardForm, device_form, instance_form, cell_form, ends_form, global_form, params_form}
use Rattle.cvc_cdl.specs.Pieces.{Piece, Word, is_outside, IsTokenText, IsReadable, begins_directive, Begins, IsReadableLine}
use Rattle.cvc_cdl.proofs.Printable.{pair_piece, words_and_pairs, bracketed, instance_pieces, card_line, IsPlainText, IsParameter, IsReadNet, IsReadGlobal, AreReadPorts, IsPrintableCard}
use Rattle.cvc_cdl.proofs.PrintedCardItems.{dollar-broken, IsPrintablePiece}
use Rattle.cvc_cdl.proofs.PrintedCardParts.{bracket_closed}

-- ## Pieces

no_dollar : (text : List ℕ) → is_dollar text ≡ false → text ≡ codes "$" → ⊥
no_dollar text h e = both_ways (is_dollar text) h (ap is_dollar e)

word_piece : (form : CardForm) (w : List ℕ) → IsPlainText form w → IsPrintablePiece (Word w)
word_piece form w h =
    let dollar = plain-dollar form w h.plain in
    (h.token, no_dollar w dollar, dollar-broken w dollar, h.expression)

word_pieces : (form : CardForm) (words : List (List ℕ)) → All (IsPlainText form) words → All IsPrintablePiece (map Word words)
word_pieces form words h = All-map IsPrintablePiece Word words (All-weaker (IsPlainText form) (λ w. IsPrintablePiece (Word w)) (word_piece form) words h)

pair_pieces : (form : CardForm) (pairs : List Pair) → All (IsParameter form) pairs → All IsPrintablePiece (map pair_piece pairs)
pair_pieces form pairs h = All-map IsPrintablePiece pair_piece pairs (All-weaker (IsParameter form) (λ p. IsPrintablePiece (pair_piece p)) (λ p k. (k.name, k.value, k.expression)) pairs h)

both_pieces : (form : CardForm) (words : List (List ℕ)) (pairs : List Pair) → All (IsPlainText form) words → All (IsParameter form) pairs → All IsPrintablePiece (words_and_pairs words pairs)
both_pieces form words pairs h k = All-append IsPrintablePiece (map Word words) (map pair_piece pairs) (word_pieces form words h) (pair_pieces form pairs k)

bracket_token : (model : List ℕ) → IsTokenText model → IsTokenText (bracketed model)
bracket_token model h =
    let bytes = h.bytes in
    record { some = omega arith; bytes = list_any-append is_outside model (codes "]") ∙ ap (λ b. b || false) bytes }

bracket_piece : (model : List ℕ) → IsTokenText model → IsPrintablePiece (Word (bracketed model))
bracket_piece model h = (bracket_token model h, λ e. absurd (let bad : true ≡ false = ap is_bracket e in cc), ap not (bracket_closed model h.some), refl)

-- ## Words that stand on each line

pub slash_plain : IsPlainText instance_form (codes "/")
slash_plain = record { token = record { some = omega arith; bytes = refl }; expression = refl; plain = refl }

pins_piece : IsPrintablePiece (Word (codes "$PINS"))
pins_piece = (record { some = omega arith; bytes = refl }, λ e. absurd (let bad : 5 ≡ 1 = ap length e in omega arith), refl, refl)

-- ## The pieces of each card

pub global_plain : (name : List ℕ) → IsReadGlobal name → is_slash name ≡ false → IsPlainText global_form name
global_plain name h slash =
    let dollar = h.dollar in
    record { token = h.token; expression = h.expression; plain = λ i. not (dollar i || (true && slash i) || false) }

pub globals_plain : (names : List (List ℕ)) → All IsReadGlobal names → All (λ name. is_slash name ≡ false) names → All (IsPlainText global_form) names
globals_plain names h k = λ i d lt. global_plain _ (h i d lt) (k i d lt)

pub nets_plain : (nets : List (List ℕ)) → All IsReadNet nets → All (IsPlainText instance_form) nets
nets_plain nets h = All-weaker IsReadNet (IsPlainText instance_form) (λ net k. k.text) nets h

pub behind_nets : (nets : List (List ℕ)) (cell : List ℕ) → All (IsPlainText instance_form) nets → IsPlainText instance_form cell → All (IsPlainText instance_form) (nets ++ codes "/" ∷ cell ∷ [])
behind_nets nets cell h k =
    let P : List ℕ → Type 0 = IsPlainText instance_form in
    All-append P nets (codes "/" ∷ cell ∷ []) h (All-cons P (codes "/") (cell ∷ []) slash_plain (All-cons P cell [] k (All-nil P)))

pub option_plain : (form : CardForm) (o : Option (List ℕ)) → IfSome o (IsPlainText form) → All (IsPlainText form) (option_to_list o)
option_plain form None h = All-nil (IsPlainText form)
option_plain form (Some name) h = All-cons (IsPlainText form) name [] h (All-nil (IsPlainText form))

instance_pieces_read : (cell : List ℕ) (pairs : List Pair) (ports : Ports) → IsPlainText instance_form cell → All (IsParameter instance_form) pairs → AreReadPorts ports → All IsPrintablePiece (instance_pieces cell pairs ports)
instance_pieces_read cell pairs (ByOrder nets) c h k = both_pieces instance_form (nets ++ codes "/" ∷ cell ∷ []) pairs (behind_nets nets cell (nets_plain nets k) c) h
instance_pieces_read cell pairs (ByName connections) c h k =
    All-append IsPrintablePiece (words_and_pairs (codes "/" ∷ cell ∷ []) pairs) (Word (codes "$PINS") ∷ map pair_piece connections)
    (both_pieces instance_form (codes "/" ∷ cell ∷ []) pairs (behind_nets [] cell (All-nil (IsPlainText instance_form)) c) h)
    (All-cons IsPrintablePiece (Word (codes "$PINS")) (map pair_piece connections) pins_piece (pair_pieces instance_form connections k))

pub printable_pieces : (card : Card) → IsPrintableCard card → All IsPrintablePiece (card_line card).pieces
printable_pieces (cards.Device d) h =
    let device = h.0 in
    All-append IsPrintablePiece (map Word d.nets) (Word (bracketed d.model) ∷ map pair_piece d.pairs)
    (word_pieces (device_form d.letter) d.nets device.nets)
    (All-cons IsPrintablePiece (Word (bracketed d.model)) (map pair_piece d.pairs) (bracket_piece d.model device.model) (pair_pieces (device_form d.letter) d.pairs device.pairs))
printable_pieces (cards.Inst x) h = instance_pieces_read x.cell x.pairs x.ports h.0.cell h.0.pairs h.0.ports
printable_pieces (cards.Subckt c) h = both_pieces cell_form (c.name ∷ c.ports) c.pairs (All-cons (IsPlainText cell_form) c.name c.ports h.0.name h.0.ports) h.0.pairs
printable_pieces (cards.Ends name) h = both_pieces ends_form (option_to_list name) [] (option_plain ends_form name h.0) (All-nil (IsParameter ends_form))
printable_pieces (cards.Global names) h = both_pieces global_form names [] (globals_plain names h.0 h.1) (All-nil (IsParameter global_form))
printable_pieces (cards.Params pairs) h = both_pieces params_form [] pairs (All-nil (IsPlainText params_form)) h.0
printable_pieces cards.Ignored h = All-nil IsPrintablePiece

readable_piece : (piece : Piece) → IsPrintablePiece piece → IsReadable piece
readable_piece (Word w) h = (h.0, h.1)
readable_piece (Piece.Named name value) h = (h.0, h.1)

-- ## First words

not_first : (b c : ℕ) (cs : List ℕ) (form : CardForm) → form_of false (b ∷ cs) ≡ Err UnknownCard → form_of false (c ∷ cs) ≡ Ok (Some form) → (c == b) ≡ false
not_first b c cs form unknown is = elim (cases_Bool (c == b)) [
  | inl h ↦ absurd (let same : Err UnknownCard ≡ Ok (Some form) = sym unknown ∙ ap (λ x. form_of false (x ∷ cs)) (sym (eqb-true c b h)) ∙ is in cc)
  | inr h ↦ h
]

unknown_star : (cs : List ℕ) → form_of false (42 ∷ cs) ≡ Err UnknownCard
unfolding form_of
unknown_star cs = refl

unknown_plus : (cs : List ℕ) → form_of false (43 ∷ cs) ≡ Err UnknownCard
unfolding form_of
unknown_plus cs = refl

unknown_dollar : (cs : List ℕ) → form_of false (36 ∷ cs) ≡ Err UnknownCard
unfolding form_of
unknown_dollar cs = refl

unknown_empty : form_of false [] ≡ Err UnknownCard
unfolding form_of
unknown_empty = refl

-- a name with the form of a device or an instance
pub record BeginsCard (name : List ℕ) : Type 0 where
  pub directive : begins_directive name ≡ false
  pub begins : Begins name
  pub alone : name ≡ codes "$" → ⊥

pub begins_card : (name : List ℕ) (form : CardForm) → form_of false name ≡ Ok (Some form) → BeginsCard name
begins_card [] form h = absurd (let bad : Err UnknownCard ≡ Ok (Some form) = sym unknown_empty ∙ h in cc)
begins_card (c ∷ []) form h =
    let star = not_first 42 c [] form (unknown_star []) h in
    let plus = not_first 43 c [] form (unknown_plus []) h in
    record { directive = refl; begins = or_from (c == 42) (c == 43) star plus; alone = no_dollar (c ∷ []) (not_first 36 c [] form (unknown_dollar []) h) }
begins_card (c ∷ b ∷ bs) form h =
    let star = not_first 42 c (b ∷ bs) form (unknown_star (b ∷ bs)) h in
    let plus = not_first 43 c (b ∷ bs) form (unknown_plus (b ∷ bs)) h in
    record { directive = star; begins = inl (or_from (c == 42) (c == 43) star plus); alone = no_dollar (c ∷ b ∷ bs) (not_first 36 c (b ∷ bs) form (unknown_dollar (b ∷ bs)) h) }

abbrev CanBegin : List ℕ → Type 0
CanBegin first = IsTokenText first × (first ≡ codes "$" → ⊥) × Begins first

name_begins : (name : List ℕ) (form : CardForm) → form_of false name ≡ Ok (Some form) → IsTokenText name → CanBegin name
name_begins name form h token = let card = begins_card name form h in (token, card.alone, card.begins)

dot_begins : (word : List ℕ) → IsTokenText (46 ∷ word) → CanBegin (46 ∷ word)
dot_begins [] token = (token, no_dollar (codes ".") refl, refl)
dot_begins (b ∷ bs) token = (token, no_dollar (46 ∷ b ∷ bs) refl, inl refl)

first_begins : (card : Card) → IsPrintableCard card → CanBegin (card_line card).first
first_begins (cards.Device d) h = name_begins d.name (device_form d.letter) h.0.form h.0.name
first_begins (cards.Inst x) h = name_begins x.name instance_form h.0.form h.0.name
first_begins (cards.Subckt c) h = dot_begins (codes "SUBCKT") (record { some = omega arith; bytes = refl })
first_begins (cards.Ends name) h = dot_begins (codes "ENDS") (record { some = omega arith; bytes = refl })
first_begins (cards.Global names) h = (record { some = omega arith; bytes = refl }, no_dollar (codes "*.GLOBAL") refl, inr (refl, refl))
first_begins (cards.Params pairs) h = dot_begins (codes "PARAM") (record { some = omega arith; bytes = refl })
first_begins cards.Ignored h = dot_begins (codes "END") (record { some = omega arith; bytes = refl })

-- ## The line

pub readable_line : (card : Card) → IsPrintableCard card → IsReadableLine (card_line card)
readable_line card h =
    let first = first_begins card h in
    record { first = first.0; alone = first.1; begins = first.2; pieces = All-weaker IsPrintablePiece IsReadable readable_piece (card_line card).pieces (printable_pieces card h) }

pub readable_lines : (printed : List Card) → All IsPrintableCard printed → All IsReadableLine (map card_line printed)
readable_lines printed h = All-map IsReadableLine card_line printed (All-weaker IsPrintableCard (λ card. IsReadableLine (card_line card)) readable_line printed h)
