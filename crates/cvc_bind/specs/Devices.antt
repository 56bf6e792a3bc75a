-- The devices of a circuit. Each device of the flat list keeps its pins and takes the kind and the voltages of the row that is chosen for it, if that kind
-- fits its letter. The first device that can't is the fault, at the line of its card in the netlist.
use Rattle.std.specs.Prelude.{ℕ, Bool, true, false, List, map, Option, Some, None, Result, Ok, Err, slice_get, if◌then◌else◌}
use Rattle.cvc_base.specs.declared.cause.Cause.{Cause}
use Rattle.cvc_base.specs.declared.cause.Cause.TheVariants.{NoModel, ParamText, WrongKind}
use Rattle.cvc_base.specs.declared.device.Kind.{Kind}
use Rattle.cvc_base.specs.declared.device.Kind.TheVariants.{Nmos, Pmos, Resistor, Diode, Capacitor, Inductor, Bipolar}
use Rattle.cvc_base.specs.declared.fault.Fault.{Fault}
use Rattle.cvc_base.specs.declared.fault.FileKind.TheVariants.{Netlist}
use Rattle.cvc_base.specs.Faults.{fault_on}
use Rattle.cvc_base.specs.Verdicts.{rows_or_fault}
use Rattle.cvc_card.specs.declared.card.Letter.{Letter}
use Rattle.cvc_card.specs.declared.card.Letter.TheVariants.{M, D, R, C, L, Q}
use Rattle.cvc_law.specs.declared.device.Device.{Device}
use Rattle.cvc_flat.specs.Flat.{FlatDevice, FlatList}
use Rattle.cvc_model.specs.declared.models.Choice.{Choice}
use Rattle.cvc_model.specs.declared.models.Choice.TheVariants.{Chosen, Nothing, WordMet}
use Rattle.cvc_model.specs.declared.row.ModelRow.{ModelRow}
use Rattle.cvc_model.specs.Chosen.{choice_of}

-- a MOS takes a row of an nmos or a pmos, and each other letter a row of its own kind
abbrev pub fits : Letter → Kind → Bool
fits M Nmos = true
fits M Pmos = true
fits D Diode = true
fits R Resistor = true
fits C Capacitor = true
fits L Inductor = true
fits Q Bipolar = true
fits _ _ = false

abbrev pub with_row : FlatDevice → Option ModelRow → Result Device Cause
with_row d None = Err NoModel
with_row d (Some row) = if fits d.letter row.kind then Ok record { kind = row.kind; pins = record { items = d.pins }; volts = row.volts } else Err WrongKind

abbrev pub with_choice : List ModelRow → FlatDevice → Choice → Result Device Cause
with_choice rows d Nothing = Err NoModel
with_choice rows d WordMet = Err ParamText
with_choice rows d (Chosen place) = with_row d (slice_get rows place)

abbrev pub at_card : ℕ → Result Device Cause → Result Device Fault
at_card line (Ok d) = Ok d
at_card line (Err cause) = Err (fault_on Netlist line cause)

-- the choice among the rows by the device's model and parameters
abbrev pub device_choice : List ModelRow → FlatDevice → Choice
device_choice rows d = choice_of rows d.model d.params

-- the device of the circuit, or its fault
unfoldable pub device_of : List ModelRow → FlatDevice → Result Device Fault
device_of rows d = at_card d.line (with_choice rows d (device_choice rows d))

-- all devices, or the first fault among them
abbrev pub devices_of : FlatList → List ModelRow → Result (List Device) Fault
devices_of f rows = rows_or_fault (map (device_of rows) f.devices)
