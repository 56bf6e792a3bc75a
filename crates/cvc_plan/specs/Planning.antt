-- The plan of a walk: of each card that the walk has come to what is kept of it, with its names by their numbers. The top is walked once, so a plan of
-- its items serves but one visit; each other cell that is used has the plans of its items, in order, for all its instances.
use Rattle.std.specs.Prelude.{◌≡◌, ℕ, ◌^◌, ◌<◌, ◌≤◌, List, [], ◌++◌, All, IfSome, IsSome, Option, Some, None, length, map, take, slice_get, slice_index_or}
use Rattle.std.specs.List.{AllZip}
use Rattle.std.specs.Option.{option_and_then}
use Rattle.cvc_card.specs.declared.card.DeviceCard.{DeviceCard}
use Rattle.cvc_card.specs.declared.card.InstCard.{InstCard}
use Rattle.cvc_cdl.specs.declared.netlist.Cell.{Cell}
use Rattle.cvc_cdl.specs.declared.netlist.Global.{Global as GlobalNet}
use Rattle.cvc_cdl.specs.declared.netlist.Item.{Item}
use Rattle.cvc_cdl.specs.declared.netlist.Item.TheVariants as items
use Rattle.cvc_cdl.specs.declared.netlist.Netlist.{Netlist}
use Rattle.cvc_cdl.specs.Instances.{all_cells, cell_at, cell_for, no_cell}
use Rattle.cvc_cdl.specs.Netlist.{name_of_cell}
use Rattle.cvc_plan.specs.declared.cards.CellPlan.{CellPlan}
use Rattle.cvc_plan.specs.declared.cards.Cards.{Cards}
use Rattle.cvc_plan.specs.declared.cards.ItemPlan.{ItemPlan}
use Rattle.cvc_plan.specs.declared.cards.ItemPlan.TheVariants as plans
use Rattle.cvc_plan.specs.declared.cards.OpeningPlan.{OpeningPlan}
use Rattle.cvc_plan.specs.declared.cards.Plan.{Plan}
use Rattle.cvc_plan.specs.declared.pins.PortPlan.{PortPlan}
use Rattle.cvc_plan.specs.declared.plan.DevicePlan.{DevicePlan}
use Rattle.cvc_plan.specs.declared.rows.DevicePart.{DevicePart}
use Rattle.cvc_plan.specs.declared.rows.InstancePart.{InstancePart}
use Rattle.cvc_plan.specs.Nets.{Opening, global_names, link_of, opening_at}
use Rattle.cvc_names.specs.Names.{AreApart}
use Rattle.cvc_plan.specs.Names.{Grows}
use Rattle.cvc_plan.specs.Pins.{ArePins, ArePortPlans}
use Rattle.cvc_plan.specs.Plans.{IsPlanOf}
use Rattle.cvc_plan.specs.Parts.{IsPart, link_at, part_at, text}

-- ## What is kept of cards

-- more cards, behind those that there were
pub record CardsGrow (old new : Cards) : Type 0 where
  pub names : Grows old.names new.names
  pub more_parts : List InstancePart
  pub parts : new.parts.items ≡ old.parts.items ++ more_parts
  pub more_devices : List DevicePart
  pub devices : new.devices.items ≡ old.devices.items ++ more_devices

-- all numbers are those of names
pub record AreSoundCards (k : Cards) : Type 0 where
  pub parts : All (IsPart k.names) k.parts.items
  pub devices : All (λ (d : DevicePart). d.name < length k.names) k.devices.items

pub record IsDevicePlan (k : Cards) (card : DeviceCard) (number : ℕ) (plan : DevicePlan) : Type 0 where
  pub inside : number < length k.devices.items
  pub kept : IsPlanOf k.names card (part_at k.devices.items number) plan.model

pub record IsInstPlan (n : Netlist) (k : Cards) (card : InstCard) (number cell : ℕ) : Type 0 where
  pub inside : number < length k.parts.items
  pub link : link_at k.names k.parts.items number ≡ link_of n card
  pub known : cell < length n.cells
  pub used : slice_index_or n.cells cell no_cell ≡ cell_for n card.cell

-- the pins of a device in a cell of these ports
abbrev pub ArePinsOf : Netlist → Cards → List (List ℕ) → DeviceCard → DevicePlan → Type 0
ArePinsOf n k ports card plan = ArePins k.names (global_names n) ports card.nets plan.pins.items

-- the plans of the ports of the cell that an instance in a cell of these ports names
abbrev pub ArePortsOf : Netlist → Cards → List (List ℕ) → InstCard → List PortPlan → Type 0
ArePortsOf n k ports card plans = ArePortPlans k.names (global_names n) ports (link_of n card).connections (cell_for n card.cell).ports plans

-- what is kept of an item in a cell of these ports
abbrev pub IsItemPlan : Netlist → Cards → List (List ℕ) → Item → ItemPlan → Type 0
IsItemPlan n k ports (items.Device card) (plans.Device number plan) = IsDevicePlan k card number plan × ArePinsOf n k ports card plan
IsItemPlan n k ports (items.Device card) (plans.Inst number plan) = ⊥
IsItemPlan n k ports (items.Inst card) (plans.Device number plan) = ⊥
IsItemPlan n k ports (items.Inst card) (plans.Inst number plan) = IsInstPlan n k card number plan.cell × ArePortsOf n k ports card plan.ports.items

abbrev pub IsCellPlan : Netlist → Cards → Cell → CellPlan → Type 0
IsCellPlan n k c plan = AllZip (IsItemPlan n k c.ports) c.items plan.items.items

-- the plan of each cell that has one
abbrev pub AreCellPlans : Netlist → Cards → List Cell → List (Option CellPlan) → Type 0
AreCellPlans n k cells plans = AllZip (λ (c : Cell) (plan : Option CellPlan). IfSome plan (IsCellPlan n k c)) cells plans

-- no item of the cell is kept
abbrev pub HasNoPlan : Cell → Option CellPlan → Type 0
HasNoPlan c plan = plan ≡ None

-- what is kept of the item at this place of a cell: its own plan, or the one in the plan of the cell
abbrev pub kept_of : List (Option CellPlan) → Option ItemPlan → ℕ → ℕ → Option ItemPlan
kept_of plans (Some own) cell place = Some own
kept_of plans None cell place = option_and_then (λ (kept : CellPlan). slice_get kept.items.items place) (slice_index_or plans cell None)

-- ## Openings

abbrev pub opening_of : List (List ℕ) → OpeningPlan → Opening
opening_of names o = opening_at o.line (text names o.name)

-- the globals and the ports of this top
abbrev pub openings_at : List GlobalNet → Cell → List Opening
openings_at globals top = map (λ (g : GlobalNet). opening_at g.line g.name) globals ++ map (opening_at top.line) top.ports

-- ## The plan

pub record IsPlan (n : Netlist) (p : Plan) : Type 0 where
  pub apart : AreApart p.cards.names
  pub name_count : length p.cards.names < 2 ^ 32
  pub below : p.globals ≤ length p.cards.names
  pub globals : take p.globals p.cards.names ≡ global_names n
  pub cards : AreSoundCards p.cards
  pub cells : AreCellPlans n p.cards (all_cells n) p.cells.items
  pub known : p.top ≤ length n.cells
  pub top : slice_index_or (all_cells n) p.top no_cell ≡ cell_at n []
  pub openings : map (opening_of p.cards.names) p.openings.items ≡ openings_at n.globals (cell_at n [])
  pub opened : All (λ (o : OpeningPlan). o.name < length p.cards.names) p.openings.items
  pub places : p.places ≡ map name_of_cell n.cells
  pub ports : p.ports ≡ (cell_at n []).ports

-- the items of the cell of this number are kept
abbrev pub HasPlan : Plan → ℕ → Type 0
HasPlan p number = IsSome (slice_index_or p.cells.items number None)

-- there is a plan of this item, its own or in the plan of its cell
abbrev pub IsKept : Netlist → Plan → List (List ℕ) → Item → Option ItemPlan → ℕ → ℕ → Type 0
IsKept n p ports item own cell place = (plan : ItemPlan) × (kept_of p.cells.items own cell place ≡ Some plan) × IsItemPlan n p.cards ports item plan

-- the same plan with more cards
pub record PlanGrows (old new : Plan) : Type 0 where
  pub cards : CardsGrow old.cards new.cards
  pub globals : new.globals ≡ old.globals
