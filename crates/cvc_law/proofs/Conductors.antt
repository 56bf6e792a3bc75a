-- What a circuit keeps of a device for conduction says of it what the device says.
use Rattle.std.proofs.Common.{◌≡◌, ◌<◌, ℕ, zero, suc, List, get_or, map, refl, ap, sym, ◌∙◌, subst}
use Rattle.std.proofs.lemmas.List.{get_or-map}
use Rattle.cvc_base.specs.declared.device.Kind.{Kind}
use Rattle.cvc_base.specs.declared.device.Kind.TheVariants.{Nmos, Pmos, Resistor, Diode, Capacitor, Inductor, Bipolar}
use Rattle.cvc_base.specs.declared.device.Volts.{Volts}
use Rattle.cvc_law.specs.declared.conductor.Conductor.{Conductor}
use Rattle.cvc_law.specs.declared.device.Device.{Device}
use Rattle.cvc_law.specs.declared.interval.Interval.{Interval}
use Rattle.cvc_law.specs.declared.interval.Reads.{Reads}
use Rattle.cvc_law.specs.Network.{Network, nets, devices, IsDevice, IsCircuit}
use Rattle.cvc_law.specs.Conduction.{low_from, high_from, diode_gives, end_gives, offered}
use Rattle.cvc_law.specs.Conductor.{voltage_of, conductor_of, volts_of, IsOnNets, net_at}
use Rattle.cvc_law.specs.Reach.{device_at, no_device, end_net}
use Rattle.cvc_law.proofs.ReachPlaces.{device_sound, end_within}

on_nets : (n : ℕ) (d : Device) → IsDevice n d → IsOnNets n (conductor_of d)
on_nets n d sound = record { a = end_within n d sound 0; b = end_within n d sound 1; gate = end_within n d sound 2 }

module _ (n : Network) (compact : List Conductor) (i : ℕ) (c : Conductor) (kept : compact ≡ map conductor_of n.devices) (inside : i < devices n) (is : c ≡ get_or compact i c) where
  pub kept_at : c ≡ conductor_of (device_at n i)
  kept_at = is ∙ (ap (λ (cs : List Conductor). get_or cs i c) kept ∙ get_or-map conductor_of n.devices i no_device c inside)

  pub kept_on_nets : IsCircuit n.fixed n.devices → IsOnNets (nets n) c
  kept_on_nets circuit = subst (IsOnNets (nets n)) (sym kept_at) (on_nets (nets n) (device_at n i) (device_sound n circuit i inside))

-- its nets are the device's
pub net_of : (d : Device) (p : ℕ) → net_at (conductor_of d) p ≡ end_net d p
net_of d zero = refl
net_of d (suc zero) = refl
net_of d (suc (suc p)) = refl

-- ---- conduction by the one voltage
low_by : (k : Kind) (v : Volts) (near gate : Interval) → low_from k (volts_of (voltage_of k v)) near gate ≡ low_from k v near gate
low_by Nmos v near gate = refl
low_by Pmos v near gate = refl
low_by Resistor v near gate = refl
low_by Diode v near gate = refl
low_by Capacitor v near gate = refl
low_by Inductor v near gate = refl
low_by Bipolar v near gate = refl

high_by : (k : Kind) (v : Volts) (near gate : Interval) → high_from k (volts_of (voltage_of k v)) near gate ≡ high_from k v near gate
high_by Nmos v near gate = refl
high_by Pmos v near gate = refl
high_by Resistor v near gate = refl
high_by Diode v near gate = refl
high_by Capacitor v near gate = refl
high_by Inductor v near gate = refl
high_by Bipolar v near gate = refl

end_by : (k : Kind) (v : Volts) (slot : ℕ) (r : Reads) → end_gives k (volts_of (voltage_of k v)) slot r ≡ end_gives k v slot r
end_by k v zero r = low_by k v r.a r.g
end_by k v (suc zero) r = high_by k v r.a r.g
end_by k v (suc (suc zero)) r = low_by k v r.b r.g
end_by k v (suc (suc (suc zero))) r = high_by k v r.b r.g
end_by k v (suc (suc (suc (suc slot)))) r = refl

diode_by : (v : Volts) (slot : ℕ) (r : Reads) → diode_gives (volts_of v.drop) slot r ≡ diode_gives v slot r
diode_by v zero r = refl
diode_by v (suc zero) r = refl
diode_by v (suc (suc zero)) r = refl
diode_by v (suc (suc (suc slot))) r = refl

pub offered_by : (k : Kind) (v : Volts) (slot : ℕ) (r : Reads) → offered k (volts_of (voltage_of k v)) slot r ≡ offered k v slot r
offered_by Nmos v slot r = end_by Nmos v slot r
offered_by Pmos v slot r = end_by Pmos v slot r
offered_by Resistor v slot r = end_by Resistor v slot r
offered_by Diode v slot r = diode_by v slot r
offered_by Capacitor v slot r = end_by Capacitor v slot r
offered_by Inductor v slot r = end_by Inductor v slot r
offered_by Bipolar v slot r = end_by Bipolar v slot r
