-- Lines of printed text: words with a blank between each two, and LF at the end. Numbers are plain decimals, with `-` where negative.
use Rattle.std.specs.Prelude.{ℕ, List, [], ◌∷◌, ◌++◌}
use Rattle.std.specs.List.{flat_map}

-- each word behind a blank
abbrev pub blank_before : List (List ℕ) → List ℕ
blank_before words = flat_map (λ w. 32 ∷ w) words

-- the end of a line, from a blank on
abbrev pub line_end : List (List ℕ) → List ℕ
line_end words = blank_before words ++ 10 ∷ []

abbrev pub line : List (List ℕ) → List ℕ
line [] = 10 ∷ []
line (word ∷ words) = word ++ line_end words
