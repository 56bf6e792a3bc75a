-- The circuit of a flat list, model rows and power rows: each device with its chosen row, each net with what a power row declares it at. Or the first
-- fault, among all devices in order and then among all power rows in order.
use Rattle.std.specs.Prelude.{List, Result, Ok}
use Rattle.cvc_base.specs.declared.fault.Fault.{Fault}
use Rattle.cvc_base.specs.Order.{◌>>=◌}
use Rattle.cvc_bind.specs.Devices.{devices_of}
use Rattle.cvc_bind.specs.DeclaredNets.{fixed_of}
use Rattle.cvc_law.specs.Network.{Network}
use Rattle.cvc_flat.specs.Flat.{FlatList}
use Rattle.cvc_model.specs.declared.row.ModelRow.{ModelRow}
use Rattle.cvc_power.specs.declared.row.PowerRow.{PowerRow}

-- the circuit, or the first fault
abbrev pub circuit_of : FlatList → List ModelRow → List PowerRow → Result Network Fault
circuit_of f models power = do
  devices ← devices_of f models
  fixed ← fixed_of f power
  Ok record { fixed = fixed; devices = devices }
