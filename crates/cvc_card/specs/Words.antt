-- Tests of one text. Keywords are compared without regard to ASCII case, everything else byte by byte.
use Rattle.std.specs.Prelude.{ℕ, ◌-◌, Bool, false, ◌==◌, ◌&&◌, ◌||◌, not, nat_eq, nat_lt, List, [], ◌∷◌, length, drop, take, if◌then◌else◌, codes, is_ok}
use Rattle.std.specs.List.{starts_with, ends_with}
use Rattle.std.specs.Str.{bytes_eq, str_eq_ignore_ascii_case}
use Rattle.cvc_units.specs.Number.{number_of}

abbrev pub is_keyword : List ℕ → List ℕ → Bool
is_keyword word text = str_eq_ignore_ascii_case text word

abbrev pub is_equals : List ℕ → Bool
is_equals text = bytes_eq text (codes "=")

abbrev pub is_slash : List ℕ → Bool
is_slash text = bytes_eq text (codes "/")

-- it begins with a dollar sign
abbrev pub is_dollar : List ℕ → Bool
is_dollar [] = false
is_dollar (c ∷ _) = c == 36

-- without one dollar sign at its front
abbrev pub without_dollar : List ℕ → List ℕ
without_dollar [] = []
without_dollar (c ∷ cs) = if c == 36 then cs else c ∷ cs

-- one of `'`, `"`, `{` and `(` begins a quoted text or an expression
abbrev pub opens_expression : ℕ → Bool
opens_expression c = (c == 39) || (c == 34) || (c == 123) || (c == 40)

abbrev pub is_expression : List ℕ → Bool
is_expression [] = false
is_expression (c ∷ _) = opens_expression c

-- it begins with `$[`
abbrev pub is_bracket : List ℕ → Bool
is_bracket text = starts_with nat_eq text (codes "$[")

-- of a text that begins with `$[`: it ends with `]`, and there is something between
abbrev pub is_closed : List ℕ → Bool
is_closed text = ends_with nat_eq text (codes "]") && nat_lt 3 (length text)

abbrev pub is_model_bracket : List ℕ → Bool
is_model_bracket text = is_bracket text && is_closed text

-- `$[]`, or `$[` without `]` at the end
abbrev pub is_broken_bracket : List ℕ → Bool
is_broken_bracket text = is_bracket text && not (is_closed text)

-- m of `$[m]`
abbrev pub between_brackets : List ℕ → List ℕ
between_brackets text = take (length text - 3) (drop 2 text)

abbrev pub is_number : List ℕ → Bool
is_number text = is_ok (number_of text)
