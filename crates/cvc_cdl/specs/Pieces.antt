-- A printed line as a first word and pieces behind it: words behind a blank, and pairs. Its tokens are the words, and of a pair three: the name behind a
-- `$`, the sign and the value. It reads back as these tokens where each text is one that a token can have, no word is a lone `$`, and the first word begins
-- a card or a directive.
use Rattle.std.specs.Prelude.{◌≡◌, ◌⊎◌, ℕ, ◌<◌, ◌+◌, ◌==◌, Bool, false, not, ◌||◌, List, [], ◌∷◌, ◌++◌, length, map, All, codes}
use Rattle.std.specs.List.{flat_map, list_any}
use Rattle.cvc_base.specs.declared.fault.FileKind.TheVariants.{Netlist as NetlistFile}
use Rattle.cvc_base.specs.declared.line.Line.{Line}
use Rattle.cvc_base.specs.declared.line.Token.{Token}
use Rattle.cvc_lex.specs.Bytes.{is_bad, is_word}
use Rattle.cvc_cdl.specs.Text.{spaced, line_feed}

pub data Piece : Type 0 where
  Word : List ℕ → Piece
  Named : List ℕ → List ℕ → Piece

pub record PrintedLine : Type 0 where
  pub first : List ℕ
  pub pieces : List Piece

abbrev pub piece_text : Piece → List ℕ
piece_text (Word w) = spaced w
piece_text (Named name value) = codes " $" ++ name ++ codes "=" ++ value

abbrev pub piece_tokens : Piece → List (List ℕ)
piece_tokens (Word w) = w ∷ []
piece_tokens (Named name value) = (36 ∷ name) ∷ codes "=" ∷ value ∷ []

abbrev pub printed_text : PrintedLine → List ℕ
printed_text l = l.first ++ flat_map piece_text l.pieces

-- with its LF
abbrev pub whole_line : PrintedLine → List ℕ
whole_line l = printed_text l ++ line_feed

abbrev pub printed_tokens : PrintedLine → List (List ℕ)
printed_tokens l = l.first ∷ flat_map piece_tokens l.pieces

-- a text that a token can have: some bytes, none of which is a blank, an equals sign or one that no text may have
abbrev pub is_outside : ℕ → Bool
is_outside b = is_bad b || not (is_word NetlistFile b)

pub record IsTokenText (text : List ℕ) : Type 0 where
  pub some : 0 < length text
  pub bytes : list_any is_outside text ≡ false

abbrev pub IsReadable : Piece → Type 0
IsReadable (Word w) = IsTokenText w × (w ≡ codes "$" → ⊥)
IsReadable (Named name value) = IsTokenText name × IsTokenText value

-- it begins a directive: `*.`
abbrev pub begins_directive : List ℕ → Bool
begins_directive [] = false
begins_directive (a ∷ []) = false
begins_directive (a ∷ b ∷ bs) = (a == 42)

-- a card begins with neither `*` nor `+`
abbrev pub Begins : List ℕ → Type 0
Begins [] = ⊥
Begins (a ∷ []) = ((a == 42) || (a == 43)) ≡ false
Begins (a ∷ b ∷ bs) = (((a == 42) || (a == 43)) ≡ false) ⊎ ((a ≡ 42) × (b ≡ 46))

pub record IsReadableLine (l : PrintedLine) : Type 0 where
  pub first : IsTokenText l.first
  pub alone : l.first ≡ codes "$" → ⊥
  pub begins : Begins l.first
  pub pieces : All IsReadable l.pieces

-- a logical line with the tokens of a printed one, on this physical line
abbrev pub text_of_token : Token → List ℕ
text_of_token token = token.text

pub record ReadsAsLine (number : ℕ) (l : PrintedLine) (line : Line) : Type 0 where
  pub first : line.first ≡ number
  pub directive : line.directive ≡ begins_directive l.first
  pub tokens : map text_of_token line.tokens ≡ printed_tokens l

-- the logical lines of printed ones, from this physical line on
abbrev pub ReadAsLines : ℕ → List PrintedLine → List Line → Type 0
ReadAsLines number [] [] = Unit {0}
ReadAsLines number [] (line ∷ lines) = ⊥
ReadAsLines number (l ∷ ls) [] = ⊥
ReadAsLines number (l ∷ ls) (line ∷ lines) = ReadsAsLine number l line × ReadAsLines (number + 1) ls lines
