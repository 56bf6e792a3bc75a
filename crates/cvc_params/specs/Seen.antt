-- What an instance sees as values are resolved: the levels on the way to it, and for the main level, the top and each level the lists of pairs by
-- the numbers of their indexes. A text is resolved on the main level or in one of the instances on the way.
use Rattle.std.specs.Prelude.{◌≡◌, ℕ, ◌<◌, ◌≤◌, List, [], length, take, slice_index_or}
use Rattle.cvc_cdl.specs.Instances.{Instance, cell_at}
use Rattle.cvc_params.specs.declared.level.Level.{Level}
use Rattle.cvc_params.specs.declared.params.Lists.{Lists}
use Rattle.cvc_params.specs.declared.params.Sight.{Sight}
use Rattle.cvc_params.specs.declared.params.Site.{Site}
use Rattle.cvc_params.specs.declared.params.Site.TheVariants as sites
use Rattle.cvc_params.specs.declared.params.Spot.{Spot}
use Rattle.cvc_params.specs.Levels.{AreLevels, instance_of}
use Rattle.cvc_params.specs.PairIndexes.{IsIndexOf, IsListed}
use Rattle.cvc_params.specs.Params.{Scope, Inside, Main, Use}

-- the instance that is so many levels below the top
abbrev pub way_to : List Level → ℕ → Instance
way_to levels depth = instance_of (take depth levels)

abbrev pub scope_in : List Level → Site → Scope
scope_in levels sites.Main = Main
scope_in levels (sites.Below depth) = Inside (way_to levels depth)

abbrev pub use_in : List Level → Spot → Use
use_in levels spot = record { text = spot.text.now; scope = scope_in levels spot.site }

-- the main level, or an instance on the way
abbrev pub IsOnWay : List Level → Site → Type 0
IsOnWay levels sites.Main = Unit {0}
IsOnWay levels (sites.Below depth) = depth ≤ length levels

-- the levels are those of the netlist, and each number is that of its list
pub record HasLists (s : Sight) : Type 0 where
  pub main : IsIndexOf s.indexes.main s.netlist.now.params
  pub top : s.top.now ≡ cell_at s.netlist.now []
  pub top_list : IsListed s.indexes 0 s.top.now.pairs
  pub levels : AreLevels s.netlist.now s.levels.items
  pub count : length s.lists.items ≡ length s.levels.items
  pub cards : (k : ℕ) (d : Lists) (e : Level) → k < length s.levels.items
      → IsListed s.indexes (slice_index_or s.lists.items k d).card (slice_index_or s.levels.items k e).card.now.pairs
  pub cells : (k : ℕ) (d : Lists) (e : Level) → k < length s.levels.items
      → IsListed s.indexes (slice_index_or s.lists.items k d).cell (slice_index_or s.levels.items k e).cell.now.pairs
