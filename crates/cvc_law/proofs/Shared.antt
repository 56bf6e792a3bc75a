-- Circuits and families may be read by many threads at once.
use denote.Param.Send.{IsSync, sendable}
use Rattle.std.proofs.Crossing.{crosses}
use Rattle.cvc_law.specs.contracts.device.Device as Device
use Rattle.cvc_law.specs.contracts.family.Family as Family
use Rattle.cvc_law.specs.contracts.circuit.Circuit as Circuit

device_sync : IsSync Device.the_row
device_sync = search sendable depth 60 fits 30000

pub family_sync : IsSync Family.the_row
family_sync = search (sendable, crosses) depth 40

pub circuit_sync : IsSync Circuit.the_row
circuit_sync = search (device_sync, sendable, crosses) depth 60 fits 100000
