-- A circuit that is bound from a flat list of nets and devices: it has as many nets and as many devices, and each device is on the same nets, pin by pin.
use Rattle.std.specs.Prelude.{ℕ, ◌≡◌, List, map}
use Rattle.cvc_base.specs.declared.ids.NetId.{NetId}
use Rattle.cvc_law.specs.declared.device.Device.{Device}
use Rattle.cvc_law.specs.Network.{Network, nets}

abbrev pub pins_of_device : Device → List NetId
pins_of_device d = d.pins.items

-- from a list of so many nets, and of devices with these pins
pub record IsBound (net_count : ℕ) (pins : List (List NetId)) (c : Network) : Type 0 where
  pub every_net : nets c ≡ net_count
  pub every_device : map pins_of_device c.devices ≡ pins
