-- Lists of pairs as more are added: each keeps its number.
use Rattle.std.proofs.Common.{ℕ, List, refl, ◌∙◌}
use Rattle.cvc_cdl.specs.declared.netlist.Cell.{Cell}
use Rattle.cvc_cdl.specs.declared.netlist.Item.{Item}
use Rattle.cvc_cdl.specs.declared.netlist.Item.TheVariants as items
use Rattle.cvc_cdl.proofs.Zips.{zip_map}
use Rattle.cvc_params.specs.declared.pair_lists.CellLists.{CellLists}
use Rattle.cvc_params.specs.declared.params.Sight.{Sight}
use Rattle.cvc_params.specs.PairLists.{AreItemsListed, AreListed, IsCellListed, IsItemListed, ListsMore}
use Rattle.cvc_params.specs.Sights.{IsSight}

pub more_none : (s : Sight) → IsSight s → ListsMore s s
more_none s h = record { sight = h; lists = λ k pairs l. l; netlist = refl; levels = refl }

pub more_twice : (a b c : Sight) → ListsMore a b → ListsMore b c → ListsMore a c
more_twice a b c g h = record {
  sight = h.sight;
  lists = λ k pairs l. h.lists k pairs (g.lists k pairs l);
  netlist = h.netlist ∙ g.netlist;
  levels = h.levels ∙ g.levels;
}

item_stays : (a b : Sight) → ListsMore a b → (item : Item) (list : ℕ) → IsItemListed a.indexes item list → IsItemListed b.indexes item list
item_stays a b g (items.Device card) list h = tt
item_stays a b g (items.Inst card) list h = g.lists list card.pairs h

pub items_stay : (a b : Sight) (its : List Item) (lists : List ℕ) → ListsMore a b → AreItemsListed a.indexes its lists → AreItemsListed b.indexes its lists
items_stay a b its lists g z = zip_map (IsItemListed a.indexes) (IsItemListed b.indexes) its lists (item_stays a b g) z

cell_stays : (a b : Sight) → ListsMore a b → (c : Cell) (l : CellLists) → IsCellListed a.indexes c l → IsCellListed b.indexes c l
cell_stays a b g c l h = record { own = g.lists l.own c.pairs h.own; items = items_stay a b c.items l.items.items g h.items }

pub cells_stay : (a b : Sight) (cells : List Cell) (lists : List CellLists) → ListsMore a b → AreListed a.indexes cells lists → AreListed b.indexes cells lists
cells_stay a b cells lists g z = zip_map (IsCellListed a.indexes) (IsCellListed b.indexes) cells lists (cell_stays a b g) z
