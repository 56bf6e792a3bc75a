-- A set of names by a table of names and a mark for each of its places.
use Rattle.std.specs.Prelude.{ℕ, Bool, false, List, Option, Some, None, slice_index_or}
use Rattle.cvc_names.specs.Names.{place_of}
use Rattle.cvc_delta.specs.declared.left.NameSet.{NameSet}

abbrev pub is_marked : List Bool → Option ℕ → Bool
is_marked marks None = false
is_marked marks (Some place) = slice_index_or marks place false

-- the name has a place that is marked
abbrev pub has_name : NameSet → List ℕ → Bool
has_name set name = is_marked set.marks.items (place_of set.names name)
