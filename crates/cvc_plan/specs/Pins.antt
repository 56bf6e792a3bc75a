-- Names of a cell, found once for all of its instances. A name is global, or that of a port of the cell, or it is a name of the instance itself. So the
-- net of a pin in an instance follows from the instance's number and the nets of its ports alone. A port of an instance's cell is connected to a name of
-- the cell that the instance stands in, or it is left out.
use Rattle.std.specs.Prelude.{◌≡◌, ℕ, ◌<◌, true, false, List, length, Option, Some, None, find, if◌then◌else◌, slice_index_or}
use Rattle.std.specs.List.{AllZip}
use Rattle.std.specs.Option.{option_map}
use Rattle.std.specs.Str.{bytes_eq}
use Rattle.cvc_base.specs.declared.param.Pair.{Pair}
use Rattle.cvc_cdl.specs.Building.{is_among}
use Rattle.cvc_plan.specs.declared.cards.OpeningPlan.{OpeningPlan}
use Rattle.cvc_plan.specs.declared.pins.Pin.{Pin}
use Rattle.cvc_plan.specs.declared.pins.Pin.TheVariants as pins
use Rattle.cvc_plan.specs.declared.pins.PortPlan.{PortPlan}
use Rattle.cvc_plan.specs.declared.pins.PortPlan.TheVariants as plans
use Rattle.cvc_plan.specs.declared.rows.NetRow.{NetRow}
use Rattle.cvc_plan.specs.Parts.{text}

-- ## Names

-- the pin of a name in a cell of these ports, where these names are global
abbrev pub IsPin : List (List ℕ) → List (List ℕ) → List (List ℕ) → List ℕ → Pin → Type 0
IsPin names globals ports name (pins.Global k) = (k < length names) × (text names k ≡ name) × (is_among globals name ≡ true)
IsPin names globals ports name (pins.Port k) = (k < length ports) × (text ports k ≡ name)
IsPin names globals ports name (pins.Own k) = (k < length names) × (text names k ≡ name) × (is_among globals name ≡ false) × (is_among ports name ≡ false)

abbrev pub ArePins : List (List ℕ) → List (List ℕ) → List (List ℕ) → List (List ℕ) → List Pin → Type 0
ArePins names globals ports wanted ps = AllZip (IsPin names globals ports) wanted ps

abbrev pub name_of_pair : Pair → List ℕ
name_of_pair c = c.name

-- the net that a port is connected to
abbrev pub net_given : List Pair → List ℕ → Option (List ℕ)
net_given pairs port = option_map (λ (c : Pair). c.value) (find (λ (c : Pair). bytes_eq port c.name) pairs)

-- the name above that a port stands for: a global stands for itself, whatever it is connected to
abbrev pub stands_for : List (List ℕ) → Option (List ℕ) → List ℕ → Option (List ℕ)
stands_for globals net port = if is_among globals port then Some port else net

-- the plan of a port that is connected to this net in a cell of these ports
abbrev pub IsPortPlan : List (List ℕ) → List (List ℕ) → List (List ℕ) → Option (List ℕ) → List ℕ → PortPlan → Type 0
IsPortPlan names globals ports net port (plans.Joined pin) = (name : List ℕ) × (stands_for globals net port ≡ Some name) × IsPin names globals ports name pin
IsPortPlan names globals ports net port (plans.LeftOut k) = (k < length names) × (text names k ≡ port) × (stands_for globals net port ≡ None)

-- the plans of the ports of a cell that is used with these connections
abbrev pub ArePortPlans : List (List ℕ) → List (List ℕ) → List (List ℕ) → List Pair → List (List ℕ) → List PortPlan → Type 0
ArePortPlans names globals ports pairs used qs = AllZip (λ port q. IsPortPlan names globals ports (net_given pairs port) port q) used qs

-- ## Rows

abbrev pub no_net_row : NetRow
no_net_row = record { instance = 0; name = 0 }

-- the net of a pin in an instance whose ports have these nets
abbrev pub pin_row : ℕ → List NetRow → Pin → NetRow
pin_row i ports (pins.Global k) = record { instance = 0; name = k }
pin_row i ports (pins.Port k) = slice_index_or ports k no_net_row
pin_row i ports (pins.Own k) = record { instance = i; name = k }

-- the net of a port of an instance in one whose ports have these nets
abbrev pub port_row : ℕ → List NetRow → ℕ → PortPlan → NetRow
port_row above ports i (plans.Joined pin) = pin_row above ports pin
port_row above ports i (plans.LeftOut k) = record { instance = i; name = k }

abbrev pub row_of_opening : OpeningPlan → NetRow
row_of_opening o = record { instance = 0; name = o.name }

-- a port is one of so many
abbrev pub IsPinWithin : ℕ → Pin → Type 0
IsPinWithin count (pins.Global k) = Unit {0}
IsPinWithin count (pins.Port k) = k < count
IsPinWithin count (pins.Own k) = Unit {0}

abbrev pub IsPlanWithin : ℕ → PortPlan → Type 0
IsPlanWithin count (plans.Joined pin) = IsPinWithin count pin
IsPlanWithin count (plans.LeftOut k) = Unit {0}
