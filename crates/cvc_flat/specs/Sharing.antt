-- Groups that devices share. A card whose values are all numbers has one group for all its devices, in all instances, which is known from its first
-- device on; for each other device its group is looked up. A group is made where none has that model and those parameters.
use Rattle.std.specs.Prelude.{◌≡◌, ℕ, ◌<◌, ◌≤◌, List, ◌++◌, length, All, Option, Some, None, IfSome, replicate}
use Rattle.std.specs.List.{AllZip}
use Rattle.cvc_base.specs.declared.param.Pair.{Pair}
use Rattle.cvc_base.specs.declared.param.Param.{Param}
use Rattle.cvc_card.specs.declared.card.DeviceCard.{DeviceCard}
use Rattle.cvc_cdl.specs.declared.netlist.Cell.{Cell}
use Rattle.cvc_cdl.specs.declared.netlist.Item.{Item}
use Rattle.cvc_cdl.specs.declared.netlist.Item.TheVariants as items
use Rattle.cvc_cdl.specs.declared.netlist.Netlist.{Netlist}
use Rattle.cvc_cdl.specs.Instances.{Instance}
use Rattle.cvc_params.specs.Params.{params_in}
use Rattle.cvc_plan.specs.Parts.{text}
use Rattle.cvc_flat.specs.declared.shared.CellGroups.{CellGroups}
use Rattle.cvc_flat.specs.declared.rows.Group.{Group}
use Rattle.cvc_flat.specs.Tables.{group_at}

-- the group has this model and, in every instance, the parameters of these pairs
pub record IsGroupOf (groups : List Group) (pairs : List Pair) (model g : ℕ) : Type 0 where
  pub inside : g < length groups
  pub of_model : (group_at groups g).model ≡ model
  pub params : (n : Netlist) (p : Instance) → params_in n p pairs ≡ Some (group_at groups g).params

-- in an instance, a device of this model with these pairs takes the group, which may be a new one
pub record TakesGroup (n : Netlist) (p : Instance) (pairs : List Pair) (model : ℕ) (old new : List Group) (g : ℕ) : Type 0 where
  pub more : List Group
  pub groups : new ≡ old ++ more
  pub few : length more ≤ 1
  pub models : All (λ (x : Group). x.model ≡ model) more
  pub inside : g < length new
  pub of_model : (group_at new g).model ≡ model
  pub params : params_in n p pairs ≡ Some (group_at new g).params

-- the group has this model and these parameters; it is one of the old ones or the only new one
pub record IsNumbered (model : ℕ) (params : List Param) (old new : List Group) (g : ℕ) : Type 0 where
  pub more : List Group
  pub groups : new ≡ old ++ more
  pub few : length more ≤ 1
  pub models : All (λ (x : Group). x.model ≡ model) more
  pub inside : g < length new
  pub group : group_at new g ≡ record { model = model; params = params }

-- all devices of the card have the group
pub record IsShared (names : List (List ℕ)) (groups : List Group) (card : DeviceCard) (g : ℕ) : Type 0 where
  pub model : ℕ
  pub known : model < length names
  pub named : text names model ≡ card.model
  pub group : IsGroupOf groups card.pairs model g

abbrev pub IsItemShared : List (List ℕ) → List Group → Item → Option ℕ → Type 0
IsItemShared names groups (items.Device card) group = IfSome group (IsShared names groups card)
IsItemShared names groups (items.Inst card) group = Unit {0}

abbrev pub AreItemsShared : List (List ℕ) → List Group → List Item → List (Option ℕ) → Type 0
AreItemsShared names groups its shared = AllZip (IsItemShared names groups) its shared

abbrev pub AreShared : List (List ℕ) → List Group → List Cell → List CellGroups → Type 0
AreShared names groups cells shared = AllZip (λ (c : Cell) (s : CellGroups). AreItemsShared names groups c.items s.items.items) cells shared

-- no card has a group
abbrev pub HasNoGroups : Cell → CellGroups → Type 0
HasNoGroups c s = s.items.items ≡ replicate (length c.items) None
