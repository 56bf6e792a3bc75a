-- Groups that devices share, as groups come and are taken.
use Rattle.std.proofs.Common.{◌≡◌, ℕ, ◌<◌, false, List, [], ◌∷◌, ◌++◌, length, get_or, set, replicate, sym, ap, subst, ◌∙◌, length-append, arith}
use Rattle.std.specs.Prelude.{IfSome, Option, Some, None, is_none}
use Rattle.std.specs.List.{AllZip}
use Rattle.std.proofs.lemmas.List.{append-nil, get_or_append_left}
use Rattle.cvc_base.specs.declared.param.Pair.{Pair}
use Rattle.cvc_base.specs.declared.param.Param.{Param}
use Rattle.cvc_card.specs.declared.card.DeviceCard.{DeviceCard}
use Rattle.cvc_cdl.specs.declared.netlist.Cell.{Cell}
use Rattle.cvc_cdl.specs.declared.netlist.Item.{Item}
use Rattle.cvc_cdl.specs.declared.netlist.Item.TheVariants as items
use Rattle.cvc_cdl.specs.declared.netlist.Netlist.{Netlist}
use Rattle.cvc_cdl.specs.Instances.{Instance, all_cells, no_cell}
use Rattle.cvc_cdl.proofs.Zips.{zip_at, zip_length, zip_map}
use Rattle.cvc_params.specs.declared.level.Level.{Level}
use Rattle.cvc_params.specs.Params.{params_in}
use Rattle.cvc_params.specs.Places.{has_loop}
use Rattle.cvc_params.proofs.Loops.{params_none}
use Rattle.cvc_plan.specs.declared.cards.Plan.{Plan}
use Rattle.cvc_plan.specs.declared.rows.DevicePart.{DevicePart}
use Rattle.cvc_plan.specs.Plans.{IsPlanOf}
use Rattle.cvc_plan.proofs.Planned.{zip_set}
use Rattle.cvc_flat.specs.declared.shared.CellGroups.{CellGroups}
use Rattle.cvc_flat.specs.declared.rows.Group.{Group}
use Rattle.cvc_flat.specs.declared.rows.InstanceRow.{InstanceRow}
use Rattle.cvc_flat.specs.declared.steps.Made.{Made}
use Rattle.cvc_flat.specs.declared.walk.Mark.{Mark}
use Rattle.cvc_names.specs.Names.{AreApart}
use Rattle.cvc_flat.specs.Sharing.{AreItemsShared, AreShared, HasNoGroups, IsGroupOf, IsItemShared, IsNumbered, IsShared, TakesGroup}
use Rattle.cvc_flat.specs.Tables.{no_group}
use Rattle.cvc_flat.proofs.States.{IsState, here}

-- ## A group that is taken

pub no_loop : (n : Netlist) (p : Instance) (groups : List Group) (pairs : List Pair) (model g : ℕ) → IsGroupOf groups pairs model g → false ≡ has_loop n p pairs
no_loop n p groups pairs model g h = sym (ap is_none (h.params n p)) ∙ params_none n p pairs

pub takes_known : (n : Netlist) (p : Instance) (groups : List Group) (pairs : List Pair) (model g : ℕ) → IsGroupOf groups pairs model g → TakesGroup n p pairs model groups groups g
takes_known n p groups pairs model g h = record {
  more = [];
  groups = sym (append-nil groups);
  few = omega arith;
  models = λ k d b. absurd (omega (arith, b));
  inside = h.inside;
  of_model = h.of_model;
  params = h.params n p;
}

-- a group that was looked up, for pairs that have these parameters in the instance
pub takes_numbered : (n : Netlist) (p : Instance) (pairs : List Pair) (model : ℕ) (params : List Param) (old new : List Group) (g : ℕ)
    → params_in n p pairs ≡ Some params → IsNumbered model params old new g → TakesGroup n p pairs model old new g
takes_numbered n p pairs model params old new g is h = record {
  more = h.more;
  groups = h.groups;
  few = h.few;
  models = h.models;
  inside = h.inside;
  of_model = ap (λ (x : Group). x.model) h.group;
  params = is ∙ ap (λ (x : Group). Some x.params) (sym h.group);
}

-- and for pairs that have them in every instance
pub numbered_shared : (pairs : List Pair) (model : ℕ) (params : List Param) (old new : List Group) (g : ℕ)
    → ((n : Netlist) (p : Instance) → params_in n p pairs ≡ Some params) → IsNumbered model params old new g → IsGroupOf new pairs model g
numbered_shared pairs model params old new g is h = record {
  inside = h.inside;
  of_model = ap (λ (x : Group). x.model) h.group;
  params = λ n p. is n p ∙ ap (λ (x : Group). Some x.params) (sym h.group);
}

-- ## By numbers, and by the card

pub by_number : (names : List (List ℕ)) (groups : List Group) (card : DeviceCard) (part : DevicePart) (model : ℕ) (shared : Option ℕ) → AreApart names → IsPlanOf names card part model
    → IfSome shared (IsShared names groups card) → IfSome shared (IsGroupOf groups card.pairs model)
by_number names groups card part model None apart kept h = tt
by_number names groups card part model (Some g) apart kept h = subst (λ m. IsGroupOf groups card.pairs m g) (apart h.model model h.known kept.known (h.named ∙ sym kept.model)) h.group

pub by_card : (names : List (List ℕ)) (groups : List Group) (card : DeviceCard) (part : DevicePart) (model : ℕ) (shared : Option ℕ) → IsPlanOf names card part model
    → IfSome shared (IsGroupOf groups card.pairs model) → IfSome shared (IsShared names groups card)
by_card names groups card part model None kept h = tt
by_card names groups card part model (Some g) kept h = record { model = model; known = kept.known; named = kept.model; group = h }

-- ## More groups

group_stays : (groups more : List Group) (pairs : List Pair) (model g : ℕ) → IsGroupOf groups pairs model g → IsGroupOf (groups ++ more) pairs model g
group_stays groups more pairs model g h =
    let same = get_or_append_left groups more no_group g h.inside in
    record {
      inside = omega (arith, h.inside, length-append groups more);
      of_model = ap (λ (x : Group). x.model) same ∙ h.of_model;
      params = λ n p. h.params n p ∙ ap (λ (x : Group). Some x.params) (sym same);
    }

item_stays : (names : List (List ℕ)) (groups more : List Group) (item : Item) (shared : Option ℕ) → IsItemShared names groups item shared → IsItemShared names (groups ++ more) item shared
item_stays names groups more (items.Device card) None h = tt
item_stays names groups more (items.Device card) (Some g) h = record { model = h.model; known = h.known; named = h.named; group = group_stays groups more card.pairs h.model g h.group }
item_stays names groups more (items.Inst card) shared h = tt

cells_stay : (names : List (List ℕ)) (groups more : List Group) (cells : List Cell) (shared : List CellGroups) → AreShared names groups cells shared → AreShared names (groups ++ more) cells shared
cells_stay names groups more cells shared z =
    zip_map (λ (c : Cell) (s : CellGroups). AreItemsShared names groups c.items s.items.items) (λ (c : Cell) (s : CellGroups). AreItemsShared names (groups ++ more) c.items s.items.items) cells shared
    (λ c s w. zip_map (IsItemShared names groups) (IsItemShared names (groups ++ more)) c.items s.items.items (item_stays names groups more) w) z

-- ## None at first

items_none : (names : List (List ℕ)) (groups : List Group) (its : List Item) → AreItemsShared names groups its (replicate (length its) None)
items_none names groups [] = tt
items_none names groups (items.Device card ∷ its) = (tt, items_none names groups its)
items_none names groups (items.Inst card ∷ its) = (tt, items_none names groups its)

pub none_shared : (names : List (List ℕ)) (groups : List Group) (cells : List Cell) (shared : List CellGroups) → AllZip HasNoGroups cells shared → AreShared names groups cells shared
none_shared names groups cells shared z =
    zip_map HasNoGroups (λ (c : Cell) (s : CellGroups). AreItemsShared names groups c.items s.items.items) cells shared
    (λ c s e. subst (AreItemsShared names groups c.items) (sym e) (items_none names groups c.items)) z

-- ## One card's

module _ (n : Netlist) (p : Plan) (rows : List InstanceRow) (made : Made) (levels : List Level) (mark : Mark) (above : List Mark) (s : IsState n p rows made levels mark above)
    (names : List (List ℕ)) (groups : List Group) (shared : List CellGroups) (are : AreShared names groups (all_cells n) shared) where
  abbrev IsCellShared : Cell → CellGroups → Type 0
  IsCellShared c k = AreItemsShared names groups c.items k.items.items

  here_inside : mark.plan < length (all_cells n)
  here_inside = omega (arith, length-append n.cells (n.main ∷ []), (here n p rows made levels mark above s).known)

  pub shared_inside : mark.plan < length shared
  shared_inside = omega (arith, zip_length IsCellShared (all_cells n) shared are, here_inside)

  pub cell_shared : (k : CellGroups) → k ≡ get_or shared mark.plan k → AreItemsShared names groups mark.cell.now.items k.items.items
  cell_shared k e =
      subst (λ (c : Cell). IsCellShared c k) (here n p rows made levels mark above s).plan
      (subst (IsCellShared (get_or (all_cells n) mark.plan no_cell)) (sym e) (zip_at IsCellShared (all_cells n) shared mark.plan no_cell k are here_inside))

  pub items_shared : (k : CellGroups) → k ≡ get_or shared mark.plan k → length k.items.items ≡ length mark.cell.now.items
  items_shared k e = zip_length (IsItemShared names groups) mark.cell.now.items k.items.items (cell_shared k e)

  pub card_shared : (k : CellGroups) (card : DeviceCard) (group d : Option ℕ) → k ≡ get_or shared mark.plan k → mark.next < length mark.cell.now.items
      → get_or mark.cell.now.items mark.next (items.Device card) ≡ items.Device card → group ≡ get_or k.items.items mark.next d → IfSome group (IsShared names groups card)
  card_shared k card group d e inside item at =
      subst (IsItemShared names groups (items.Device card)) (sym at)
      (subst (λ (i : Item). IsItemShared names groups i (get_or k.items.items mark.next d)) item
      (zip_at (IsItemShared names groups) mark.cell.now.items k.items.items mark.next (items.Device card) d (cell_shared k e) inside))

-- the card's group, which may be new, as further groups come
pub shared_on : (n : Netlist) (p : Plan) (rows : List InstanceRow) (made : Made) (levels : List Level) (mark : Mark) (above : List Mark) (s : IsState n p rows made levels mark above)
    (names : List (List ℕ)) (old new more : List Group) (shared : List CellGroups) (k changed : CellGroups) (card : DeviceCard) (group : Option ℕ)
    → new ≡ old ++ more → AreShared names old (all_cells n) shared → k ≡ get_or shared mark.plan k → get_or mark.cell.now.items mark.next (items.Device card) ≡ items.Device card
    → IfSome group (IsShared names new card) → changed.items.items ≡ set k.items.items mark.next group → AreShared names new (all_cells n) (set shared mark.plan changed)
shared_on n p rows made levels mark above s names old new more shared k changed card group is are e item one at =
    let grown : AreShared names new (all_cells n) shared = subst (λ (gs : List Group). AreShared names gs (all_cells n) shared) (sym is) (cells_stay names old more (all_cells n) shared are) in
    let cell : AreItemsShared names new mark.cell.now.items changed.items.items =
    subst (AreItemsShared names new mark.cell.now.items) (sym at)
    (zip_set (IsItemShared names new) mark.cell.now.items k.items.items mark.next (items.Device card) group (cell_shared n p rows made levels mark above s names new shared grown k e)
    (subst (λ (i : Item). IsItemShared names new i group) (sym item) one)) in
    zip_set (λ (c : Cell) (x : CellGroups). AreItemsShared names new c.items x.items.items) (all_cells n) shared mark.plan no_cell changed grown
    (subst (λ (c : Cell). AreItemsShared names new c.items changed.items.items) (sym (here n p rows made levels mark above s).plan) cell)
