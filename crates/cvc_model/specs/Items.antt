-- An item of a model row. The first byte among `<`, `>` and `=` decides what it says: `KEY=VALUE`, `PARAMETER<NUMBER` or `PARAMETER>=NUMBER`. It is
-- no item where there is no such byte, where a `>` stands first and no `=` follows it, or where a side is empty.
use Rattle.std.specs.Prelude.{ℕ, Bool, not, ◌||◌, ◌==◌, if◌then◌else◌, List, [], ◌∷◌, length, take, drop, Option, Some, None}
use Rattle.std.specs.List.{prefix_len}

-- what an item says: the value of a key, or that a parameter is less than a number, or at least that number
pub data Item : Type 0 where
  Sets : List ℕ → List ℕ → Item
  IsLess : List ℕ → List ℕ → Item
  IsAtLeast : List ℕ → List ℕ → Item

-- `<`, `=` and `>`
abbrev pub is_sign : ℕ → Bool
is_sign b = (b == 60) || (b == 61) || (b == 62)

abbrev pub is_plain : ℕ → Bool
is_plain b = not (is_sign b)

abbrev pub is_empty : List ℕ → Bool
is_empty bytes = length bytes == 0

-- the item of these sides, unless one is empty
abbrev pub of_sides : (List ℕ → List ℕ → Item) → List ℕ → List ℕ → Option Item
of_sides item left right = if is_empty left || is_empty right then None else Some (item left right)

abbrev pub after_greater : List ℕ → List ℕ → Option Item
after_greater left [] = None
after_greater left (b ∷ right) = if b == 61 then of_sides IsAtLeast left right else None

-- what the bytes from the first sign on make of the bytes before it
abbrev pub item_from : List ℕ → List ℕ → Option Item
item_from left [] = None
item_from left (b ∷ rest) =
    if b == 61 then of_sides Sets left rest
    else (if b == 60 then of_sides IsLess left rest else (if b == 62 then after_greater left rest else None))

-- how many bytes stand before the first sign
abbrev pub left_len : List ℕ → ℕ
left_len text = prefix_len is_plain text

-- the item that a text is, if it is one
unfoldable pub item_in : List ℕ → Option Item
item_in text = item_from (take (left_len text) text) (drop (left_len text) text)
