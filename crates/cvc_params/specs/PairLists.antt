-- The lists of pairs that a netlist has: for each cell that of its own pairs, and for each instance in it that of its card's pairs, by the numbers of
-- their indexes.
use Rattle.std.specs.Prelude.{◌≡◌, ℕ, List}
use Rattle.std.specs.List.{AllZip}
use Rattle.cvc_base.specs.declared.param.Pair.{Pair}
use Rattle.cvc_cdl.specs.declared.netlist.Cell.{Cell}
use Rattle.cvc_cdl.specs.declared.netlist.Item.{Item}
use Rattle.cvc_cdl.specs.declared.netlist.Item.TheVariants as items
use Rattle.cvc_params.specs.declared.pair_index.PairIndexes.{PairIndexes}
use Rattle.cvc_params.specs.declared.pair_lists.CellLists.{CellLists}
use Rattle.cvc_params.specs.declared.params.Sight.{Sight}
use Rattle.cvc_params.specs.PairIndexes.{IsListed}
use Rattle.cvc_params.specs.Sights.{IsSight}

-- the number of the list of an instance's card
abbrev pub IsItemListed : PairIndexes → Item → ℕ → Type 0
IsItemListed x (items.Device card) list = Unit {0}
IsItemListed x (items.Inst card) list = IsListed x list card.pairs

abbrev pub AreItemsListed : PairIndexes → List Item → List ℕ → Type 0
AreItemsListed x its lists = AllZip (IsItemListed x) its lists

pub record IsCellListed (x : PairIndexes) (c : Cell) (l : CellLists) : Type 0 where
  pub own : IsListed x l.own c.pairs
  pub items : AreItemsListed x c.items l.items.items

abbrev pub AreListed : PairIndexes → List Cell → List CellLists → Type 0
AreListed x cells lists = AllZip (IsCellListed x) cells lists

-- the same sight with more lists
pub record ListsMore (old new : Sight) : Type 0 where
  pub sight : IsSight new
  pub lists : (k : ℕ) (pairs : List Pair) → IsListed old.indexes k pairs → IsListed new.indexes k pairs
  pub netlist : new.netlist.now ≡ old.netlist.now
  pub levels : new.levels.items ≡ old.levels.items
