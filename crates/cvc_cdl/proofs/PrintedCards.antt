-- A printed card reads back as itself, at its line.
use Rattle.std.proofs.Common.{◌≡◌, ℕ, ◌+◌, ◌||◌, ◌==◌, not, cond, Bool, true, false, List, [], ◌∷◌, ◌++◌, length, map, take, drop, Option, Some, None, Ok, Err, All, codes, nat_lt, if◌then◌else◌, refl, sym, ap, ◌∙◌, one-add, arith, append-nil}
use Rattle.std.specs.List.{flat_map, list_any, position_or_len}
use Rattle.std.specs.Option.{option_to_list}
use Rattle.std.proofs.Math.Seq.{drop-append-add, drop-length, take-append_seam, take-length}
use Rattle.std.proofs.lemmas.Bool.{le-ltb, or_parts, or_right}
use Rattle.std.proofs.lemmas.List.{map-append}
use Rattle.std.proofs.lemmas.List.Elements.{All-cons, All-head, All-nil, All-tail}
use Rattle.std.proofs.lemmas.List.Folds.{list_any-append}
use Rattle.cvc_base.specs.declared.cause.Cause.TheVariants.{ShortCard}
use Rattle.cvc_base.specs.declared.line.Line.{Line}
use Rattle.cvc_base.specs.declared.param.Pair.{Pair}
use Rattle.cvc_card.specs.declared.card.Card.{Card}
use Rattle.cvc_card.specs.declared.card.Card.TheVariants as cards
use Rattle.cvc_card.specs.declared.card.DeviceCard.{DeviceCard}
use Rattle.cvc_card.specs.declared.card.Letter.{Letter}
use Rattle.cvc_card.specs.declared.card.Letter.TheVariants.{M, D, R, C, L, Q}
use Rattle.cvc_card.specs.declared.card.Ports.{Ports}
use Rattle.cvc_card.specs.declared.card.Ports.TheVariants.{ByOrder, ByName}
use Rattle.cvc_card.specs.Words.{is_slash}
use Rattle.cvc_card.specs.Forms.{form_of}
use Rattle.cvc_card.specs.Items.{Item, Alone, items_of}
use Rattle.cvc_card.specs.Parts.{CardParts, parts_of}
use Rattle.cvc_base.specs.Order.{◌>>=◌}
use Rattle.cvc_card.specs.Card.{before_colon, card_from, card_of, card_of_texts, card_with, cell_of, device_of, first_of, globals_of, instance_of, net_count, nets_of, value_pairs, without_last}
use Rattle.cvc_card.specs.Parts.{last_of}
use Rattle.cvc_card.specs.Formed.{ConnectsOnce}
use Rattle.cvc_card.proofs.Assembling.{instance_done}
use Rattle.cvc_card.proofs.FormNames.{CardForm, device_form, instance_form, cell_form, ends_form, global_form, params_form}
use Rattle.cvc_cdl.specs.Printed.{at_line}
use Rattle.cvc_cdl.specs.Pieces.{Word, PrintedLine, piece_tokens, begins_directive, ReadsAsLine, printed_tokens, IsTokenText}
use Rattle.cvc_cdl.proofs.Printable.{pair_piece, words_and_pairs, bracketed, instance_pieces, card_line, IsPlainText, IsParameter, IsReadNet, IsReadGlobal, AreReadPorts, IsPrintableCard}
use Rattle.cvc_cdl.proofs.PrintedCardItems.{IsPrintablePiece, items_read, not_empty, piece_item}
use Rattle.cvc_cdl.proofs.PrintedCardParts.{word_items, pair_items, words_say, pairs_say, both_say, bracket_says, parts_without_pins, parts_by_name, parts_said, parts_with_pins}
use Rattle.cvc_cdl.proofs.PrintedCardLines.{begins_card, behind_nets, globals_plain, nets_plain, option_plain, printable_pieces}

-- ## The card of a line's parts

as_texts : (number : ℕ) (l : PrintedLine) (line : Line) → ReadsAsLine number l line → card_of line ≡ card_of_texts (begins_directive l.first) number (printed_tokens l)
unfolding card_of
as_texts number l line r =
    let directive = r.directive in
    let first = r.first in
    let tokens = r.tokens in
    λ i. card_of_texts (directive i) (first i) (tokens i)

as_parts : (directive : Bool) (number : ℕ) (name : List ℕ) (tokens : List (List ℕ)) (form : CardForm) (items : List Item) → form_of directive name ≡ Ok (Some form) → items_of tokens ≡ Ok items
    → card_of_texts directive number (name ∷ tokens) ≡ card_from form name number (parts_of form items)
as_parts directive number name tokens form items e h =
    ap (λ r. r >>= λ found. card_with found name number tokens) e
    ∙ ap (λ r. r >>= λ found. card_from form name number (parts_of form found)) h

-- the card of a printed line of this form
printed_from : (number : ℕ) (l : PrintedLine) (line : Line) (form : CardForm) (parts : CardParts) → ReadsAsLine number l line → form_of (begins_directive l.first) l.first ≡ Ok (Some form) → All IsPrintablePiece l.pieces
    → parts_of form (map piece_item l.pieces) ≡ parts → card_of line ≡ card_from form l.first number parts
printed_from number l line form parts reads is pieces same =
    as_texts number l line reads
    ∙ as_parts (begins_directive l.first) number l.first (flat_map piece_tokens l.pieces) form (map piece_item l.pieces) is (items_read l.pieces pieces)
    ∙ ap (card_from form l.first number) same

-- words with pairs behind them
both_parts : (form : CardForm) (words : List (List ℕ)) (pairs : List Pair) → All (IsPlainText form) words → All (IsParameter form) pairs → parts_of form (map piece_item (words_and_pairs words pairs)) ≡ parts_without_pins words None pairs
both_parts form words pairs h k =
    ap (parts_of form) (map-append piece_item (map Word words) (map pair_piece pairs))
    ∙ parts_said form (word_items words ++ pair_items pairs) (words ++ []) [] pairs (both_say form (word_items words) (pair_items pairs) words [] [] [] [] pairs (words_say form words h) (pairs_say form pairs k))
    ∙ ap (λ ws. parts_without_pins ws None pairs) (append-nil words)

-- ## Devices

device_parts : (letter : Letter) (nets : List (List ℕ)) (model : List ℕ) (pairs : List Pair) → All (IsPlainText (device_form letter)) nets → IsTokenText model → All (IsParameter (device_form letter)) pairs
    → parts_of (device_form letter) (map piece_item (map Word nets ++ Word (bracketed model) ∷ map pair_piece pairs)) ≡ parts_without_pins nets (Some model) pairs
device_parts letter nets model pairs h m k =
    let form = device_form letter in
    let bracket = Alone (bracketed model) in
    ap (parts_of form) (map-append piece_item (map Word nets) (Word (bracketed model) ∷ map pair_piece pairs))
    ∙ parts_said form (word_items nets ++ bracket ∷ pair_items pairs) (nets ++ []) (model ∷ []) pairs
    (both_say form (word_items nets) (bracket ∷ pair_items pairs) nets [] [] (model ∷ []) [] pairs (words_say form nets h)
    (both_say form (bracket ∷ []) (pair_items pairs) [] [] (model ∷ []) [] [] pairs (bracket_says letter model m) (pairs_say form pairs k)))
    ∙ ap (λ ws. parts_without_pins ws (Some model) pairs) (append-nil nets)

no_values : (letter : Letter) → value_pairs letter [] ≡ []
no_values M = refl
no_values D = refl
no_values R = refl
no_values C = refl
no_values L = refl
no_values Q = refl

device_done : (d : DeviceCard) (line : ℕ) → length d.nets ≡ net_count d.letter → device_of d.letter d.name line (parts_without_pins d.nets (Some d.model) d.pairs) ≡ Ok (at_line line (cards.Device d))
unfolding device_of
device_done d line size =
    let short : nat_lt (length d.nets) (net_count d.letter) ≡ false = le-ltb (length d.nets) (net_count d.letter) (omega arith) in
    let nets : take (net_count d.letter) d.nets ≡ d.nets = ap (λ n. take n d.nets) (sym size) ∙ take-length d.nets in
    let rest : drop (net_count d.letter) d.nets ≡ [] = ap (λ n. drop n d.nets) (sym size) ∙ drop-length d.nets in
    let values : value_pairs d.letter (drop (net_count d.letter) d.nets) ≡ [] = ap (value_pairs d.letter) rest ∙ no_values d.letter in
    λ i. if short i then Err ShortCard else Ok (cards.Device record { letter = d.letter; name = d.name; nets = nets i; model = d.model; pairs = values i ++ d.pairs; line = line })

-- ## Instances

place_at : (p : List ℕ → Bool) (xs : List (List ℕ)) (y : List ℕ) (ys : List (List ℕ)) → list_any p xs ≡ false → p y ≡ true → position_or_len p (xs ++ y ∷ ys) ≡ length xs
place_at p [] y ys h is = ap (λ b. cond (not b) (1 + position_or_len p ys) 0) is
place_at p (x ∷ xs) y ys h is =
    let parts = or_parts (p x) (list_any p xs) h in
    let front = parts.0 in
    let more = place_at p xs y ys parts.1 is in
    (λ i. cond (not (front i)) (1 + more i) 0) ∙ one-add (length xs)

no_slash : (nets : List (List ℕ)) → All IsReadNet nets → list_any is_slash nets ≡ false
no_slash [] h = refl
no_slash (net ∷ nets) h =
    let front = (All-head IsReadNet net nets h).slash in
    let more = no_slash nets (All-tail IsReadNet net nets h) in
    λ i. front i || more i

module _ (nets : List (List ℕ)) (cell : List ℕ) (none : list_any is_slash nets ≡ false) where
  abbrev plain : List (List ℕ)
  plain = nets ++ codes "/" ∷ cell ∷ []

  has_slash : list_any is_slash plain ≡ true
  has_slash = list_any-append is_slash nets (codes "/" ∷ cell ∷ []) ∙ or_right (list_any is_slash nets) true refl

  slash_at : position_or_len is_slash plain ≡ length nets
  slash_at = place_at is_slash nets (codes "/") (cell ∷ []) none refl

  nets_found : nets_of plain ≡ nets
  unfolding nets_of
  nets_found =
      let any = has_slash in
      let place = slash_at in
      (λ i. if any i then take (place i) plain else without_last plain) ∙ take-append_seam nets (codes "/" ∷ cell ∷ [])

  cell_found : cell_of plain ≡ Some cell
  unfolding cell_of
  cell_found =
      let any = has_slash in
      let place = slash_at in
      (λ i. if any i then first_of (drop (place i + 1) plain) else last_of plain) ∙ ap first_of (drop-append-add nets (codes "/" ∷ cell ∷ []) 1)

ordered_done : (name cell : List ℕ) (nets : List (List ℕ)) (pairs : List Pair) (line : ℕ) → All IsReadNet nets
    → instance_of name line (parts_without_pins (nets ++ codes "/" ∷ cell ∷ []) None pairs) ≡ Ok (cards.Inst record { name = name; cell = cell; ports = ByOrder nets; pairs = pairs; line = line })
ordered_done name cell nets pairs line h =
    let none = no_slash nets h in
    instance_done name line (parts_without_pins (nets ++ codes "/" ∷ cell ∷ []) None pairs) name cell (ByOrder nets) pairs refl (cell_found nets cell none) refl (sym (ap ByOrder (nets_found nets cell none))) refl

named_done : (name cell : List ℕ) (connections : List Pair) (pairs : List Pair) (line : ℕ) → ConnectsOnce (ByName connections)
    → instance_of name line (parts_by_name (codes "/" ∷ cell ∷ []) pairs connections) ≡ Ok (cards.Inst record { name = name; cell = cell; ports = ByName connections; pairs = pairs; line = line })
unfolding nets_of cell_of
named_done name cell connections pairs line once =
    instance_done name line (parts_by_name (codes "/" ∷ cell ∷ []) pairs connections) name cell (ByName connections) pairs once refl refl refl refl

module _ (number : ℕ) (line : Line) (name cell : List ℕ) (pairs : List Pair) (c : IsPlainText instance_form cell) (k : All (IsParameter instance_form) pairs) where
  abbrev instance_line : Ports → PrintedLine
  instance_line ports = record { first = name; pieces = instance_pieces cell pairs ports }

  instance_read : (ports : Ports) → AreReadPorts ports → ConnectsOnce ports → ReadsAsLine number (instance_line ports) line → form_of (begins_directive name) name ≡ Ok (Some instance_form) → All IsPrintablePiece (instance_pieces cell pairs ports)
      → card_of line ≡ Ok (cards.Inst record { name = name; cell = cell; ports = ports; pairs = pairs; line = number })
  unfolding card_from
  instance_read (ByOrder nets) h once reads is pieces =
      printed_from number (instance_line (ByOrder nets)) line instance_form (parts_without_pins (nets ++ codes "/" ∷ cell ∷ []) None pairs) reads is pieces
      (both_parts instance_form (nets ++ codes "/" ∷ cell ∷ []) pairs (behind_nets nets cell (nets_plain nets h) c) k)
      ∙ ordered_done name cell nets pairs number h
  instance_read (ByName connections) h once reads is pieces =
      let words = codes "/" ∷ cell ∷ [] in
      let plain = behind_nets [] cell (All-nil (IsPlainText instance_form)) c in
      let items = word_items words ++ pair_items pairs in
      let front = both_say instance_form (word_items words) (pair_items pairs) words [] [] [] [] pairs (words_say instance_form words plain) (pairs_say instance_form pairs k) in
      printed_from number (instance_line (ByName connections)) line instance_form (parts_by_name words pairs connections) reads is pieces
      (ap (parts_of instance_form) (map-append piece_item (words_and_pairs words pairs) (Word (codes "$PINS") ∷ map pair_piece connections)
      ∙ ap (λ is. is ++ Alone (codes "$PINS") ∷ pair_items connections) (map-append piece_item (map Word words) (map pair_piece pairs)))
      ∙ parts_with_pins items words pairs connections front h)
      ∙ named_done name cell connections pairs number once

-- ## Dot cards

globals_kept : (names : List (List ℕ)) → All IsReadGlobal names → globals_of names ≡ names
unfolding globals_of
globals_kept [] h = refl
globals_kept (name ∷ names) h =
    let front = All-head IsReadGlobal name names h in
    let colon = front.colon in
    let some : not (length (before_colon name) == 0) ≡ true = ap (λ n. not (length n == 0)) colon ∙ ap not (not_empty name front.token.some) in
    let more = globals_kept names (All-tail IsReadGlobal name names h) in
    λ i. cond (some i) (colon i ∷ more i) (more i)

first_kept : (o : Option (List ℕ)) → first_of (option_to_list o) ≡ o
first_kept None = refl
first_kept (Some name) = refl

is_subckt : form_of false (codes ".SUBCKT") ≡ Ok (Some cell_form)
unfolding form_of
is_subckt = refl

is_ends : form_of false (codes ".ENDS") ≡ Ok (Some ends_form)
unfolding form_of
is_ends = refl

is_global : form_of true (codes "*.GLOBAL") ≡ Ok (Some global_form)
unfolding form_of
is_global = refl

is_param : form_of false (codes ".PARAM") ≡ Ok (Some params_form)
unfolding form_of
is_param = refl

is_end : form_of false (codes ".END") ≡ Ok None
unfolding form_of
is_end = refl

-- ## The card

named_form : (name : List ℕ) (form : CardForm) → form_of false name ≡ Ok (Some form) → form_of (begins_directive name) name ≡ Ok (Some form)
named_form name form h = ap (λ b. form_of b name) (begins_card name form h).directive ∙ h

pub printed_card : (number : ℕ) (card : Card) (line : Line) → IsPrintableCard card → ReadsAsLine number (card_line card) line → card_of line ≡ Ok (at_line number card)
unfolding card_from
printed_card number (cards.Device d) line h reads =
    let form = device_form d.letter in
    printed_from number (card_line (cards.Device d)) line form (parts_without_pins d.nets (Some d.model) d.pairs) reads (named_form d.name form h.0.form) (printable_pieces (cards.Device d) h)
    (device_parts d.letter d.nets d.model d.pairs h.0.nets h.0.model h.0.pairs)
    ∙ device_done d number h.0.size
printed_card number (cards.Inst x) line h reads =
    instance_read number line x.name x.cell x.pairs h.0.cell h.0.pairs x.ports h.0.ports h.0.once reads (named_form x.name instance_form h.0.form) (printable_pieces (cards.Inst x) h)
printed_card number (cards.Subckt c) line h reads =
    printed_from number (card_line (cards.Subckt c)) line cell_form (parts_without_pins (c.name ∷ c.ports) None c.pairs) reads is_subckt (printable_pieces (cards.Subckt c) h)
    (both_parts cell_form (c.name ∷ c.ports) c.pairs (All-cons (IsPlainText cell_form) c.name c.ports h.0.name h.0.ports) h.0.pairs)
printed_card number (cards.Ends name) line h reads =
    printed_from number (card_line (cards.Ends name)) line ends_form (parts_without_pins (option_to_list name) None []) reads is_ends (printable_pieces (cards.Ends name) h)
    (both_parts ends_form (option_to_list name) [] (option_plain ends_form name h.0) (All-nil (IsParameter ends_form)))
    ∙ ap (λ o. Ok (cards.Ends o)) (first_kept name)
printed_card number (cards.Global names) line h reads =
    printed_from number (card_line (cards.Global names)) line global_form (parts_without_pins names None []) reads is_global (printable_pieces (cards.Global names) h)
    (both_parts global_form names [] (globals_plain names h.0 h.1) (All-nil (IsParameter global_form)))
    ∙ ap (λ ns. Ok (cards.Global ns)) (globals_kept names h.0)
printed_card number (cards.Params pairs) line h reads =
    printed_from number (card_line (cards.Params pairs)) line params_form (parts_without_pins [] None pairs) reads is_param (printable_pieces (cards.Params pairs) h)
    (both_parts params_form [] pairs (All-nil (IsPlainText params_form)) h.0)
printed_card number cards.Ignored line h reads = as_texts number (card_line cards.Ignored) line reads ∙ ap (λ r. r >>= λ found. card_with found (codes ".END") number []) is_end
