-- The nets that names find, in order, no net twice. A name that finds no net is a fault, and so is one that finds the net of an earlier name, whatever the
-- two names are. The first fault is told, by the place of its name, from 0.
use Rattle.std.specs.Prelude.{◌≡◌, ◌<◌, ℕ, Bool, false, ◌==◌, List, [], ◌∷◌, ◌++◌, length, Option, Some, None, Result, Ok, Err, slice_index_or, if◌then◌else◌}
use Rattle.std.specs.List.{list_any}
use Rattle.cvc_base.specs.declared.cause.Cause.TheVariants.{UnknownNet, SameNetTwice}
use Rattle.cvc_base.specs.declared.ids.NetId.{NetId}
use Rattle.cvc_base.specs.Order.{◌>>=◌}
use Rattle.cvc_flat.specs.Flat.{FlatList}
use Rattle.cvc_flat.specs.FindNet.{find_net}
use Rattle.cvc_bind.specs.declared.nets.Misnamed.{Misnamed}

-- the net of this number is one of the nets
abbrev pub stands_in : List NetId → ℕ → Bool
stands_in nets n = list_any (λ (net : NetId). net.0 == n) nets

-- what the next name finds, behind names that found the earlier nets
abbrev pub next_net : List NetId → Option ℕ → Result NetId Misnamed
next_net earlier None = Err record { place = length earlier; cause = UnknownNet }
next_net earlier (Some n) = if stands_in earlier n then Err record { place = length earlier; cause = SameNetTwice } else Ok record { 0 = n }

-- the earlier nets, and then those of the names
unfoldable pub nets_behind : FlatList → List NetId → List (List ℕ) → Result (List NetId) Misnamed
nets_behind f earlier [] = Ok earlier
nets_behind f earlier (name ∷ names) = do
  net ← next_net earlier (find_net f name)
  nets_behind f (earlier ++ net ∷ []) names

abbrev pub nets_of : FlatList → List (List ℕ) → Result (List NetId) Misnamed
nets_of f names = nets_behind f [] names

-- a mark for each net of the flat list: whether it is one of the nets
pub record AreMarked (marks : List Bool) (nets : List NetId) : Type 0 where
  pub right : (n : ℕ) → n < length marks → slice_index_or marks n false ≡ stands_in nets n
