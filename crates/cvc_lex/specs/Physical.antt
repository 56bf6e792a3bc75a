-- Physical lines. A file is cut at each LF, which belongs to the line that it ends; the bytes after the last LF are a line if there are any.
-- A line's text is its bytes without the LF and without one CR at the end. A lone `$` of a netlist, or the first `#` of another file, cuts the text,
-- and the first byte of what is left that is no blank says what the line is and which tokens it has.
use Rattle.std.specs.Prelude.{ℕ, zero, suc, ◌+◌, ◌-◌, Bool, false, not, ◌&&◌, ◌||◌, ◌==◌, nat_lt, List, [], ◌∷◌, ◌++◌, length, take, drop, slice_index, take_while, if◌then◌else◌}
use Rattle.std.specs.List.{list_any, before_first, prefix_len}
use Rattle.cvc_base.specs.declared.fault.FileKind.{FileKind}
use Rattle.cvc_base.specs.declared.line.Token.{Token}
use Rattle.cvc_lex.specs.declared.shape.Shape.{Shape}
use Rattle.cvc_lex.specs.declared.shape.Shape.TheVariants.{Skipped, Directive, Card, Continuation}
use Rattle.cvc_lex.specs.Bytes.{is_netlist, is_line_feed, is_blank, is_bad, is_alone, is_word, token_limit}

-- ## Where lines end

abbrev pub onto_line : ℕ → List (List ℕ) → List (List ℕ)
onto_line x [] = []
onto_line x (line ∷ lines) = (x ∷ line) ∷ lines

-- the physical lines that an LF ends, each with that LF
unfoldable pub ended : List ℕ → List (List ℕ)
ended [] = []
ended (x ∷ xs) = if is_line_feed x then (x ∷ []) ∷ ended xs else onto_line x (ended xs)

-- the bytes after the last LF
unfoldable pub open_rest : List ℕ → List ℕ
open_rest [] = []
open_rest (x ∷ xs) = if list_any is_line_feed (x ∷ xs) then open_rest xs else x ∷ xs

-- some bytes are one line, and no bytes are none
abbrev pub line_if_any : List ℕ → List (List ℕ)
line_if_any [] = []
line_if_any (x ∷ xs) = (x ∷ xs) ∷ []

-- the physical lines of a whole file
unfoldable pub physical : List ℕ → List (List ℕ)
physical bytes = ended bytes ++ line_if_any (open_rest bytes)

-- ## What a line says

-- the bytes without this byte at their end, if it stands there
abbrev pub without_last : ℕ → List ℕ → List ℕ
without_last b bytes = if slice_index bytes (length bytes - 1) == b then take (length bytes - 1) bytes else bytes

-- a line's text: without the LF, and without one CR
unfoldable pub text_of : List ℕ → List ℕ
text_of line = without_last 13 (without_last 10 line)

-- a `$` stands at this place, with a blank or an end of the text on both sides
abbrev pub is_lone_dollar : List ℕ → ℕ → Bool
is_lone_dollar text i = (slice_index text i == 36) && ((i == 0) || is_blank (slice_index text (i - 1))) && ((i + 1 == length text) || is_blank (slice_index text (i + 1)))

-- the first of the n places from i on at which the test passes, or else the place after them
abbrev pub first_place : (ℕ → Bool) → ℕ → ℕ → ℕ
first_place test i zero = i
first_place test i (suc n) = if test i then i else first_place test (i + 1) n

-- the text as cut: before its first lone `$` in a netlist, before its first `#` in the other files
unfoldable pub cut : FileKind → List ℕ → List ℕ
cut kind text = if is_netlist kind then take (first_place (is_lone_dollar text) 0 (length text)) text else before_first (λ b. b == 35) text

-- from the first byte on that is no blank
abbrev pub unindented : List ℕ → List ℕ
unindented [] = []
unindented (x ∷ xs) = if is_blank x then unindented xs else x ∷ xs

abbrev pub begins_with_dot : List ℕ → Bool
begins_with_dot [] = false
begins_with_dot (x ∷ xs) = x == 46

-- what a line of a netlist is, by its first byte that is no blank
abbrev pub card_shape : List ℕ → Shape
card_shape [] = Skipped
card_shape (x ∷ xs) = if x == 42 then (if begins_with_dot xs then Directive else Skipped) else (if x == 43 then Continuation else Card)

-- a line of another file that has a byte other than blanks is a row
abbrev pub row_shape : List ℕ → Shape
row_shape [] = Skipped
row_shape (x ∷ xs) = Card

unfoldable pub shape_of : FileKind → List ℕ → Shape
shape_of kind text = if is_netlist kind then card_shape (unindented text) else row_shape (unindented text)

-- a token begins at each equals sign that is a token of its own, and at each word's byte that no word's byte stands before
abbrev pub begins_token : FileKind → Bool → ℕ → Bool
begins_token kind inside x = is_alone kind x || (is_word kind x && not inside)

-- an equals sign alone, else the longest run of words' bytes
abbrev pub token_text : FileKind → ℕ → List ℕ → List ℕ
token_text kind x xs = if is_alone kind x then x ∷ [] else take_while (is_word kind) (x ∷ xs)

-- the tokens of the bytes from this column on; `inside` says whether a word's byte stands before them
unfoldable pub tokens_from : FileKind → ℕ → Bool → ℕ → List ℕ → List Token
tokens_from kind number inside column [] = []
tokens_from kind number inside column (x ∷ xs) =
    if begins_token kind inside x
    then record { text = token_text kind x xs; line = number; column = column } ∷ tokens_from kind number (is_word kind x) (column + 1) xs
    else tokens_from kind number (is_word kind x) (column + 1) xs

-- how many bytes of a continuation stand before its tokens: its indent and the `+`
abbrev pub past_plus : List ℕ → ℕ
past_plus text = prefix_len is_blank text + 1

abbrev pub tokens_of : FileKind → ℕ → Shape → List ℕ → List Token
tokens_of kind number Skipped text = []
tokens_of kind number Directive text = tokens_from kind number false 1 text
tokens_of kind number Card text = tokens_from kind number false 1 text
tokens_of kind number Continuation text = tokens_from kind number false (past_plus text + 1) (drop (past_plus text) text)

-- how many bytes the line adds to its logical line: the text as cut, without the `+`
abbrev pub size_of : Shape → List ℕ → ℕ
size_of Skipped text = 0
size_of Directive text = length text
size_of Card text = length text
size_of Continuation text = length text - 1

-- a physical line as it is read
pub record Read : Type 0 where
  pub number : ℕ
  -- its text has a byte that no text may have
  pub bad : Bool
  pub shape : Shape
  pub size : ℕ
  pub tokens : List Token

abbrev pub read_text : FileKind → ℕ → List ℕ → List ℕ → Read
read_text kind number text kept = record {
  number = number;
  bad = list_any is_bad text;
  shape = shape_of kind kept;
  size = size_of (shape_of kind kept) kept;
  tokens = tokens_of kind number (shape_of kind kept) kept;
}

unfoldable pub read : FileKind → ℕ → List ℕ → Read
read kind number line = read_text kind number (text_of line) (cut kind (text_of line))

-- the lines as they are read, numbered from n on
abbrev pub reads_from : FileKind → ℕ → List (List ℕ) → List Read
reads_from kind n [] = []
reads_from kind n (line ∷ lines) = read kind n line ∷ reads_from kind (n + 1) lines

abbrev pub is_long : Token → Bool
is_long token = nat_lt token_limit (length token.text)
