-- Lists of pairs by their names. An index of a list has, for each name in lower case, the place of the last pair of the name.
use Rattle.std.specs.Prelude.{◌≡◌, ℕ, ◌<◌, List, length, Option, IfSome, filter, slice_get, slice_index_or, Vec, Bool}
use Rattle.std.specs.Option.{option_and_then}
use Rattle.std.specs.declared.alloc.Global.{Global}
use Rattle.std.specs.Str.{bytes_eq, str_to_ascii_lowercase}
use Rattle.indexmap.specs.IndexMap.{get_by}
use Rattle.cvc_base.specs.declared.param.Pair.{Pair}
use Rattle.cvc_card.specs.Parts.{last_of}
use Rattle.cvc_params.specs.declared.pair_index.PairIndex.{PairIndex}
use Rattle.cvc_params.specs.declared.pair_index.PairIndexes.{PairIndexes}

abbrev pub value_of_pair : Pair → List ℕ
value_of_pair p = p.value

-- the last pair of a name that is given in lower case
abbrev pub last_low : List Pair → List ℕ → Option Pair
last_low pairs low = last_of (filter (λ (p : Pair). bytes_eq low (str_to_ascii_lowercase p.name)) pairs)

abbrev pub is_key : List ℕ → Vec ℕ Global → Bool
is_key low key = bytes_eq low key.items

abbrev pub place_in : PairIndex → List ℕ → Option ℕ
place_in index low = get_by (is_key low) index.last

pub record IsIndexOf (index : PairIndex) (pairs : List Pair) : Type 0 where
  pub inside : (low : List ℕ) → IfSome (place_in index low) (λ k. k < length pairs)
  pub last : (low : List ℕ) → option_and_then (slice_get pairs) (place_in index low) ≡ last_low pairs low

-- the list of that number has these pairs
pub record IsListed (indexes : PairIndexes) (k : ℕ) (pairs : List Pair) : Type 0 where
  pub inside : k < length indexes.lists.items
  pub is : (d : PairIndex) → IsIndexOf (slice_index_or indexes.lists.items k d) pairs
