-- Names by their places in a table that has each of them once, and lists in which a name stands twice.
use Rattle.std.specs.Prelude.{◌≡◌, ℕ, ◌<◌, ◌≤◌, ◌||◌, Bool, false, List, [], ◌∷◌, ◌++◌, length, map, Option, position, slice_index_or, if◌then◌else◌}
use Rattle.std.specs.Borrow.{Bor}
use Rattle.std.specs.List.{list_any, slice_range}
use Rattle.std.specs.Str.{bytes_eq}
use Rattle.cvc_names.specs.Chains.{text_hash}

-- a name as a borrower has it
abbrev pub lent : Bor (List ℕ) → List ℕ
lent name = name.now

-- a name stands among these
abbrev pub is_among : List (List ℕ) → List ℕ → Bool
is_among names name = list_any (bytes_eq name) names

-- where the name stands first
abbrev pub place_of : List (List ℕ) → List ℕ → Option ℕ
place_of names name = position (bytes_eq name) names

-- the name at a place
abbrev pub name_at : List (List ℕ) → ℕ → List ℕ
name_at names k = slice_index_or names k []

-- the names, and this one if it is new
abbrev pub with_name : List (List ℕ) → List ℕ → List (List ℕ)
with_name names name = if is_among names name then names else names ++ name ∷ []

-- no two places have one name
abbrev pub AreApart : List (List ℕ) → Type 0
AreApart names = (i j : ℕ) → i < length names → j < length names → name_at names i ≡ name_at names j → i ≡ j

-- ## A table in memory: its names lie one behind another

-- where the text at a place begins: where the one before it ends, and the first one here
abbrev pub start_at : ℕ → List ℕ → ℕ → ℕ
start_at from ends k = slice_index_or (from ∷ ends) k 0

abbrev pub end_at : List ℕ → ℕ → ℕ
end_at ends k = slice_index_or ends k 0

-- the texts that lie in these bytes, from here on, and end there
unfoldable pub texts_in : List ℕ → ℕ → List ℕ → List (List ℕ)
texts_in bytes from [] = []
texts_in bytes from (end ∷ ends) = slice_range bytes from end ∷ texts_in bytes end ends

-- the ends ascend from here on, and the last one is the end of so many bytes
pub record AreEnds (from : ℕ) (ends : List ℕ) (count : ℕ) : Type 0 where
  pub ascend : (k : ℕ) → k < length ends → start_at from ends k ≤ end_at ends k
  pub last : start_at from ends (length ends) ≡ count

-- no name is there twice, and these are their hashes
pub record IsTable (bytes ends hashes : List ℕ) : Type 0 where
  pub ascending : AreEnds 0 ends (length bytes)
  pub apart : AreApart (texts_in bytes 0 ends)
  pub hashed : hashes ≡ map text_hash (texts_in bytes 0 ends)

-- ## Lists of names

-- some name stands twice
abbrev pub has_twice : List (List ℕ) → Bool
has_twice [] = false
has_twice (x ∷ xs) = list_any (bytes_eq x) xs || has_twice xs
