-- Bytes of a piece, by the ends of lines in them.
use Rattle.std.specs.Prelude.{◌≡◌, ℕ, ◌<◌, ◌≤◌, false, List, [], ◌∷◌, ◌++◌, length, take, Option, Some, None}
use Rattle.std.specs.List.{list_any}
use Rattle.cvc_lex.specs.Bytes.{is_line_feed}

-- bytes that end the open physical line, and bytes that don't
abbrev pub IsLineEnd : List ℕ → Type 0
IsLineEnd bytes = (q : List ℕ) × (bytes ≡ q ++ 10 ∷ []) × (list_any is_line_feed q ≡ false)

abbrev pub HasNoEnd : List ℕ → Type 0
HasNoEnd bytes = list_any is_line_feed bytes ≡ false

-- the first line of some bytes has this length, with its LF
abbrev pub IsFirstLine : List ℕ → Option ℕ → Type 0
IsFirstLine bytes None = HasNoEnd bytes
IsFirstLine bytes (Some n) = (n ≤ length bytes) × (0 < n) × IsLineEnd (take n bytes)
