-- What the instance that a walk is in sees: the lists of pairs on the way to it.
use Rattle.std.proofs.Common.{◌≡◌, ℕ, ◌<◌, List, [], ◌∷◌, ◌++◌, length, get_or, sym, ap, subst, ◌∙◌, length-append, arith}
use Rattle.std.proofs.lemmas.List.{get_or_append_left}
use Rattle.cvc_card.specs.declared.card.InstCard.{InstCard}
use Rattle.cvc_cdl.specs.declared.netlist.Cell.{Cell}
use Rattle.cvc_cdl.specs.declared.netlist.Item.{Item}
use Rattle.cvc_cdl.specs.declared.netlist.Item.TheVariants as items
use Rattle.cvc_cdl.specs.declared.netlist.Netlist.{Netlist}
use Rattle.cvc_cdl.specs.Instances.{all_cells, cell_for, no_cell}
use Rattle.cvc_cdl.proofs.Zips.{zip_at, zip_length}
use Rattle.cvc_params.specs.declared.level.Level.{Level}
use Rattle.cvc_params.specs.declared.pair_index.PairIndexes.{PairIndexes}
use Rattle.cvc_params.specs.declared.pair_lists.CellLists.{CellLists}
use Rattle.cvc_params.specs.declared.params.Sight.{Sight}
use Rattle.cvc_params.specs.PairIndexes.{IsListed}
use Rattle.cvc_params.specs.PairLists.{AreListed, IsCellListed, IsItemListed}
use Rattle.cvc_params.specs.Sights.{IsSight}
use Rattle.cvc_plan.specs.declared.cards.Plan.{Plan}
use Rattle.cvc_plan.specs.Planning.{IsInstPlan}
use Rattle.cvc_flat.specs.declared.rows.InstanceRow.{InstanceRow}
use Rattle.cvc_flat.specs.declared.steps.Made.{Made}
use Rattle.cvc_flat.specs.declared.walk.Mark.{Mark}
use Rattle.cvc_flat.proofs.States.{IsState, here, levels_long}

-- a sight of the netlist, with all its lists
pub record Sees (n : Netlist) (lists : List CellLists) (s : Sight) : Type 0 where
  pub sight : IsSight s
  pub same : s.netlist.now ≡ n
  pub listed : AreListed s.indexes (all_cells n) lists

-- the same lists from other levels
pub sees_on : (n : Netlist) (lists : List CellLists) (old new : Sight) → Sees n lists old → IsSight new → (new.netlist.now ≡ old.netlist.now) × (new.indexes ≡ old.indexes) → Sees n lists new
sees_on n lists old new h sight same = record { sight = sight; same = same.0 ∙ h.same; listed = subst (λ x. AreListed x (all_cells n) lists) (sym same.1) h.listed }

module _ (n : Netlist) (p : Plan) (rows : List InstanceRow) (made : Made) (levels : List Level) (mark : Mark) (above : List Mark) (s : IsState n p rows made levels mark above)
    (x : PairIndexes) (lists : List CellLists) (listed : AreListed x (all_cells n) lists) where
  pub lists_inside : mark.plan < length lists
  lists_inside = omega (arith, zip_length (IsCellListed x) (all_cells n) lists listed, length-append n.cells (n.main ∷ []), (here n p rows made levels mark above s).known)

  pub cell_listed : (k : CellLists) → k ≡ get_or lists mark.plan k → IsCellListed x mark.cell.now k
  cell_listed k e =
      let m = here n p rows made levels mark above s in
      let inside : mark.plan < length (all_cells n) = omega (arith, length-append n.cells (n.main ∷ []), m.known) in
      subst (λ (c : Cell). IsCellListed x c k) m.plan (subst (IsCellListed x (get_or (all_cells n) mark.plan no_cell)) (sym e) (zip_at (IsCellListed x) (all_cells n) lists mark.plan no_cell k listed inside))

  pub items_listed : (k : CellLists) → k ≡ get_or lists mark.plan k → length k.items.items ≡ length mark.cell.now.items
  items_listed k e = zip_length (IsItemListed x) mark.cell.now.items k.items.items (cell_listed k e).items

  pub card_listed : (k : CellLists) (item : Item) (card : InstCard) (list d : ℕ) → k ≡ get_or lists mark.plan k → mark.next < length mark.cell.now.items → item ≡ get_or mark.cell.now.items mark.next item → list ≡ get_or k.items.items mark.next d
      → item ≡ items.Inst card → IsListed x list card.pairs
  card_listed k item card list d e inside a b is =
      subst (λ i. IsItemListed x i list) is (subst (λ i. IsItemListed x i list) (sym a) (subst (IsItemListed x (get_or mark.cell.now.items mark.next item)) (sym b)
      (zip_at (IsItemListed x) mark.cell.now.items k.items.items mark.next item d (cell_listed k e).items inside)))

-- the list of the cell that an instance's card names
module _ (n : Netlist) (x : PairIndexes) (lists : List CellLists) (listed : AreListed x (all_cells n) lists) (plan : ℕ) (known : plan < length n.cells) where
  pub used_inside : plan < length lists
  used_inside = omega (arith, zip_length (IsCellListed x) (all_cells n) lists listed, length-append n.cells (n.main ∷ []), known)

  pub used_listed : (cell : Cell) (k : CellLists) → cell ≡ get_or (all_cells n) plan no_cell → k ≡ get_or lists plan k → IsListed x k.own cell.pairs
  used_listed cell k e b =
      let inside : plan < length (all_cells n) = omega (arith, length-append n.cells (n.main ∷ []), known) in
      let h : IsCellListed x cell k = subst (λ (c : Cell). IsCellListed x c k) (sym e) (subst (IsCellListed x (get_or (all_cells n) plan no_cell)) (sym b) (zip_at (IsCellListed x) (all_cells n) lists plan no_cell k listed inside)) in
      h.own

pub used_cell : (n m : Netlist) (p : Plan) (card : InstCard) (number plan : ℕ) (cell : Cell) → m ≡ n → IsInstPlan n p.cards card number plan → cell ≡ get_or (all_cells n) plan no_cell → cell ≡ cell_for m card.cell
used_cell n m p card number plan cell same h e =
    e ∙ get_or_append_left n.cells (n.main ∷ []) no_cell plan h.known ∙ h.used ∙ ap (λ (k : Netlist). cell_for k card.cell) (sym same)

-- there is a level where a mark is above
pub some_level : (n : Netlist) (p : Plan) (rows : List InstanceRow) (made : Made) (mark : Mark) (levels : List Level) (old above : List Mark) (a : Mark) → IsState n p rows made levels mark old → old ≡ above ++ a ∷ [] → 0 < length levels
some_level n p rows made mark levels old above a s is = omega (arith, levels_long n p rows made mark levels old s, ap length is, length-append above (a ∷ []))
