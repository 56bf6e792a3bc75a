-- The bounds that devices read and give to lie within the circuit's, and what its declarations reach.
use Rattle.std.proofs.Common.{◌≡◌, ℕ, zero, suc, ◌/◌, ◌<◌, ◌≤◌, true, false, cond, Option, Some, None, List, [], ◌∷◌, arith, subst}
use Rattle.std.proofs.lemmas.Int.{ints, clamps}
use Rattle.std.specs.Prelude.{ℤ, ◌≤ℤ◌, slice_index_or, slice_get, nat_lt, IsSomeAnd}
use Rattle.std.proofs.lemmas.Option.{slice_get_within, get_or_from_slice_get, slice_get-get_or}
use Rattle.cvc_base.specs.declared.device.Kind.{Kind}
use Rattle.cvc_base.specs.declared.device.Kind.TheVariants.{Nmos, Pmos, Resistor, Diode, Capacitor, Inductor, Bipolar}
use Rattle.cvc_law.specs.declared.interval.Fixed.{Fixed}
use Rattle.cvc_law.specs.declared.device.Device.{Device}
use Rattle.cvc_law.specs.Conduction.{target}
use Rattle.cvc_law.specs.Family.{IsInRange}
use Rattle.cvc_law.specs.Network.{Network, nets, devices, pin, pins_of, second_end, end_a, end_b, fixed_at, floor_of, ceiling_of, least_low, greatest_high, lesser, greater, IsDevice, IsCircuit}
use Rattle.cvc_law.specs.Reach.{device_at, no_device, end_net, read_place, target_place, width}

pub device_at_is : (c : Network) (i : ℕ) (d : Device) → slice_get c.devices i ≡ Some d → (i < devices c) × (device_at c i ≡ d)
device_at_is c i d h = (slice_get_within c.devices i d h, get_or_from_slice_get c.devices i d no_device h)

pub device_at_get : (c : Network) (i : ℕ) → i < devices c → slice_get c.devices i ≡ Some (device_at c i)
device_at_get c i lt = slice_get-get_or c.devices i no_device lt

pub device_sound : (c : Network) → IsCircuit c.fixed c.devices → (i : ℕ) → i < devices c → IsDevice (nets c) (device_at c i)
device_sound c circuit i lt = circuit.sound i (device_at c i) (device_at_get c i lt)

two_pins : (k : Kind) → 2 ≤ pins_of k
two_pins Nmos = omega arith
two_pins Pmos = omega arith
two_pins Bipolar = omega arith
two_pins Resistor = omega arith
two_pins Inductor = omega arith
two_pins Diode = omega arith
two_pins Capacitor = omega arith

second_within : (n : ℕ) (k : Kind) (d : Device) → ((i : ℕ) → i < pins_of k → pin d i < n) → second_end k d < n
second_within n Nmos d on = on 2 (omega arith)
second_within n Pmos d on = on 2 (omega arith)
second_within n Bipolar d on = on 1 (omega arith)
second_within n Resistor d on = on 1 (omega arith)
second_within n Inductor d on = on 1 (omega arith)
second_within n Diode d on = on 1 (omega arith)
second_within n Capacitor d on = on 1 (omega arith)

-- each end and the gate is a net
pub end_within : (n : ℕ) (d : Device) → IsDevice n d → (p : ℕ) → end_net d p < n
end_within n d sound zero = sound.on_nets 0 (omega (arith, two_pins d.kind))
end_within n d sound (suc zero) = second_within n d.kind d sound.on_nets
end_within n d sound (suc (suc p)) = sound.on_nets 1 (omega (arith, two_pins d.kind))

pub target_within : (n : ℕ) (d : Device) → IsDevice n d → (k : ℕ) → target d k < n
target_within n d sound k = elim (nat_lt k 2) as (λ b. cond b (end_b d) (end_a d) < n) [
  | true ↦ end_within n d sound 1
  | false ↦ end_within n d sound 0
]

-- the bounds that a device reads and gives to are the circuit's
pub read_place_within : (c : Network) (d : Device) → IsDevice (nets c) d → (i : ℕ) → read_place d i < width c
read_place_within c d sound i = let net : end_net d (i / 2) < nets c = end_within (nets c) d sound (i / 2) in omega arith

pub target_place_within : (c : Network) (d : Device) → IsDevice (nets c) d → (k : ℕ) → target_place d k < width c
target_place_within c d sound k = let net : target d k < nets c = target_within (nets c) d sound k in omega arith

lesser_own : (x : ℤ) (o : Option ℤ) → IsSomeAnd (lesser x o) (λ z. z ≤ℤ x)
lesser_own x None = omega (arith, ints)
lesser_own x (Some y) = omega (arith, ints, clamps)

lesser_keeps : (x y : ℤ) (o : Option ℤ) → IsSomeAnd o (λ z. z ≤ℤ y) → IsSomeAnd (lesser x o) (λ z. z ≤ℤ y)
lesser_keeps x y None h = absurd h
lesser_keeps x y (Some z) h = omega (arith, ints, clamps)

greater_own : (x : ℤ) (o : Option ℤ) → IsSomeAnd (greater x o) (λ z. x ≤ℤ z)
greater_own x None = omega (arith, ints)
greater_own x (Some y) = omega (arith, ints, clamps)

greater_keeps : (x y : ℤ) (o : Option ℤ) → IsSomeAnd o (λ z. y ≤ℤ z) → IsSomeAnd (greater x o) (λ z. y ≤ℤ z)
greater_keeps x y None h = absurd h
greater_keeps x y (Some z) h = omega (arith, ints, clamps)

floor_below : (xs : List (Option Fixed)) (n : ℕ) (w : Fixed) → slice_index_or xs n None ≡ Some w → IsSomeAnd (least_low xs) (λ floor. floor ≤ℤ w.low)
floor_below [] n w is = cc
floor_below (None ∷ xs) zero w is = cc
floor_below (Some v ∷ xs) zero w is = let same : v ≡ w = cc in subst (λ (z : Fixed). IsSomeAnd (lesser v.low (least_low xs)) (λ floor. floor ≤ℤ z.low)) same (lesser_own v.low (least_low xs))
floor_below (None ∷ xs) (suc n) w is = floor_below xs n w is
floor_below (Some v ∷ xs) (suc n) w is = lesser_keeps v.low w.low (least_low xs) (floor_below xs n w is)

ceiling_above : (xs : List (Option Fixed)) (n : ℕ) (w : Fixed) → slice_index_or xs n None ≡ Some w → IsSomeAnd (greatest_high xs) (λ ceiling. w.high ≤ℤ ceiling)
ceiling_above [] n w is = cc
ceiling_above (None ∷ xs) zero w is = cc
ceiling_above (Some v ∷ xs) zero w is = let same : v ≡ w = cc in subst (λ (z : Fixed). IsSomeAnd (greater v.high (greatest_high xs)) (λ ceiling. z.high ≤ℤ ceiling)) same (greater_own v.high (greatest_high xs))
ceiling_above (None ∷ xs) (suc n) w is = ceiling_above xs n w is
ceiling_above (Some v ∷ xs) (suc n) w is = greater_keeps v.high w.high (greatest_high xs) (ceiling_above xs n w is)

between : (floor ceiling : Option ℤ) (low high : ℤ) → low ≤ℤ high → IsSomeAnd floor (λ z. z ≤ℤ low) → IsSomeAnd ceiling (λ z. high ≤ℤ z)
    → (IsSomeAnd floor (λ z. z ≤ℤ low) × IsSomeAnd ceiling (λ z. low ≤ℤ z)) × (IsSomeAnd floor (λ z. z ≤ℤ high) × IsSomeAnd ceiling (λ z. high ≤ℤ z))
between None ceiling low high h f g = absurd f
between (Some x) None low high h f g = absurd g
between (Some x) (Some y) low high h f g = ((f, omega (arith, ints)), (omega (arith, ints), g))

-- a declared bound lies from the floor to the ceiling
pub declared_in_range : (c : Network) → IsCircuit c.fixed c.devices → (n : ℕ) (w : Fixed) → fixed_at c n ≡ Some w → IsInRange c w.low × IsInRange c w.high
declared_in_range c circuit n w is = between (floor_of c) (ceiling_of c) w.low w.high (circuit.ordered n w is) (floor_below c.fixed n w is) (ceiling_above c.fixed n w is)
