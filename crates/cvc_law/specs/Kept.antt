-- What a circuit keeps beside its nets and devices, so that it is computed once: what conduction reads of each device, the fans, the floor and the ceiling.
use Rattle.std.specs.Prelude.{ℕ, ◌≡◌, ℤ, List, length, map, Option}
use Rattle.cvc_base.specs.declared.ids.DevId.{DevId}
use Rattle.cvc_law.specs.declared.interval.Fixed.{Fixed}
use Rattle.cvc_law.specs.declared.device.Device.{Device}
use Rattle.cvc_law.specs.declared.conductor.Conductor.{Conductor}
use Rattle.cvc_law.specs.Network.{IsCircuit, least_low, greatest_high}
use Rattle.cvc_law.specs.ReachWord.{IsInMillion}
use Rattle.cvc_law.specs.Conductor.{conductor_of}
use Rattle.cvc_law.specs.Fans.{IsFans}

pub record IsKept (fixed : List (Option Fixed)) (devices : List Device) (compact : List Conductor) (offsets : List ℕ) (fan_devices : List DevId) (lowest highest : Option ℤ) : Type 0 where
  pub circuit : IsCircuit fixed devices
  pub conductors : compact ≡ map conductor_of devices
  pub fans : IsFans (length fixed) devices offsets fan_devices
  pub floor : lowest ≡ least_low fixed
  pub ceiling : highest ≡ greatest_high fixed
  pub in_million : IsInMillion record { fixed = fixed; devices = devices }
