-- The items of a printed line's tokens: each word stands alone, and each pair is one.
use Rattle.std.proofs.Common.{◌≡◌, ℕ, ◌<◌, ◌&&◌, ◌||◌, ◌==◌, not, true, false, List, [], ◌∷◌, length, map, take, Ok, Err, All, codes, nat_eq, if◌then◌else◌, refl, ap, ap₂, ◌∙◌, arith}
use Rattle.std.specs.List.{flat_map, list_any}
use Rattle.std.specs.Cmp.Lexicographic.{pointwise}
use Rattle.std.proofs.lemmas.Bool.{and_left, and_parts, ne_eqb, not-false, not-true, or_parts}
use Rattle.std.proofs.lemmas.Bool.Decides.{nat_tests}
use Rattle.std.proofs.lemmas.List.Elements.{All-head, All-tail}
use Rattle.cvc_base.specs.declared.cause.Cause.TheVariants.{BadParam, Unsupported}
use Rattle.cvc_base.specs.declared.fault.FileKind.TheVariants.{Netlist as NetlistFile}
use Rattle.cvc_card.specs.Words.{is_broken_bracket, is_closed, is_dollar, is_equals, is_expression}
use Rattle.cvc_card.specs.Items.{Item, Alone, alone, begins_with_equals, followed_by, items_of, named}
use Rattle.cvc_lex.specs.Bytes.{is_alone, is_bad, is_blank, is_word}
use Rattle.cvc_cdl.specs.Pieces.{Piece, Word, piece_tokens, is_outside, IsTokenText}

-- ## Tokens

word_byte : (b : ℕ) → is_outside b ≡ false → is_word NetlistFile b ≡ true
word_byte b h = not-false (is_word NetlistFile b) (or_parts (is_bad b) (not (is_word NetlistFile b)) h).1

no_sign : (b : ℕ) → is_outside b ≡ false → (b == 61) ≡ false
no_sign b h = not-true (is_alone NetlistFile b) (and_parts (not (is_blank b)) (not (is_alone NetlistFile b)) (word_byte b h)).1

pub no_equals : (text : List ℕ) → IsTokenText text → is_equals text ≡ false
no_equals [] h = refl
no_equals (c ∷ cs) h = and_left (c == 61) (pointwise nat_eq cs []) (no_sign c (or_parts (is_outside c) (list_any is_outside cs) h.bytes).0)

pub not_empty : (text : List ℕ) → 0 < length text → (length text == 0) ≡ false
not_empty text some = ne_eqb (length text) 0 (λ e. absurd (omega arith))

other_way : (c : ℕ) → (c == 36) ≡ false → (36 == c) ≡ false
other_way c h = grind (arith, nat_tests)

pub dollar-broken : (text : List ℕ) → is_dollar text ≡ false → is_broken_bracket text ≡ false
dollar-broken [] h = refl
dollar-broken (c ∷ cs) h = ap (λ b. (b && pointwise nat_eq (91 ∷ []) (take 1 cs)) && not (is_closed (c ∷ cs))) (other_way c h)

-- ## Items

lone_front : (x : List ℕ) (rest : List (List ℕ)) → begins_with_equals rest ≡ false → items_of (x ∷ rest) ≡ followed_by (alone x) (items_of rest)
unfolding items_of
lone_front x [] is = refl
lone_front x (y ∷ []) is = ap (λ b. if b then Err BadParam else followed_by (alone x) (items_of (y ∷ []))) is
lone_front x (y ∷ z ∷ rest) is = ap (λ b. if b then followed_by (named x z) (items_of rest) else followed_by (alone x) (items_of (y ∷ z ∷ rest))) is

pair_front : (x z : List ℕ) (rest : List (List ℕ)) → items_of (x ∷ codes "=" ∷ z ∷ rest) ≡ followed_by (named x z) (items_of rest)
unfolding items_of
pair_front x z rest = refl

nothing : items_of [] ≡ Ok []
unfolding items_of
nothing = refl

alone_is : (w : List ℕ) → IsTokenText w → is_broken_bracket w ≡ false → is_expression w ≡ false → alone w ≡ Ok (Alone w)
alone_is w token broken expression =
    let equals = no_equals w token in
    λ i. if equals i || broken i then Err BadParam else (if expression i then Err Unsupported else Ok (Alone w))

named_is : (name value : List ℕ) → IsTokenText name → IsTokenText value → is_expression value ≡ false → named (36 ∷ name) value ≡ Ok (Item.Named record { name = name; value = value })
named_is name value n v expression =
    let empty = not_empty name n.some in
    let equals = no_equals value v in
    λ i. if false || empty i || equals i then Err BadParam else (if expression i then Err Unsupported else Ok (Item.Named record { name = name; value = value }))

-- ## Pieces

-- it reads back as an item
abbrev pub IsPrintablePiece : Piece → Type 0
IsPrintablePiece (Word w) = IsTokenText w × (w ≡ codes "$" → ⊥) × (is_broken_bracket w ≡ false) × (is_expression w ≡ false)
IsPrintablePiece (Piece.Named name value) = IsTokenText name × IsTokenText value × (is_expression value ≡ false)

abbrev pub piece_item : Piece → Item
piece_item (Word w) = Alone w
piece_item (Piece.Named name value) = Item.Named record { name = name; value = value }

no_sign_first : (pieces : List Piece) → All IsPrintablePiece pieces → begins_with_equals (flat_map piece_tokens pieces) ≡ false
no_sign_first [] h = refl
no_sign_first (Word w ∷ pieces) h = no_equals w (All-head IsPrintablePiece (Word w) pieces h).0
no_sign_first (Piece.Named name value ∷ pieces) h = refl

pub items_read : (pieces : List Piece) → All IsPrintablePiece pieces → items_of (flat_map piece_tokens pieces) ≡ Ok (map piece_item pieces)
items_read [] h = nothing
items_read (Word w ∷ pieces) h =
    let front = All-head IsPrintablePiece (Word w) pieces h in
    let rest = All-tail IsPrintablePiece (Word w) pieces h in
    lone_front w (flat_map piece_tokens pieces) (no_sign_first pieces rest) ∙ ap₂ followed_by (alone_is w front.0 front.2 front.3) (items_read pieces rest)
items_read (Piece.Named name value ∷ pieces) h =
    let front = All-head IsPrintablePiece (Piece.Named name value) pieces h in
    let rest = All-tail IsPrintablePiece (Piece.Named name value) pieces h in
    pair_front (36 ∷ name) value (flat_map piece_tokens pieces) ∙ ap₂ followed_by (named_is name value front.0 front.1 front.2) (items_read pieces rest)
