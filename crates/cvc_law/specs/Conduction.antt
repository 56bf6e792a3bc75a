-- Conduction: what a device hands on to the net at one of its ends, by what is known of its nets.
-- Slots 0 and 1 hand a low and a high from end a to end b, slots 2 and 3 a low and a high from b to a. A diode has the slots 1 and 2 alone.
-- A slot gives nothing where a bound that its row names is unknown, where the row's condition fails, or where the value lies below the floor or above the ceiling.
use Rattle.std.specs.Prelude.{ℕ, zero, suc, ℤ, ◌+ℤ◌, ◌-ℤ◌, int_le, Option, Some, None, ◌&&◌, nat_lt, if◌then◌else◌}
use Rattle.std.specs.Int.{int_min, int_max}
use Rattle.cvc_base.specs.declared.device.Kind.{Kind}
use Rattle.cvc_base.specs.declared.device.Kind.TheVariants.{Nmos, Pmos, Resistor, Diode, Inductor}
use Rattle.cvc_base.specs.declared.device.Volts.{Volts}
use Rattle.cvc_law.specs.declared.interval.Interval.{Interval}
use Rattle.cvc_law.specs.declared.interval.Reads.{Reads}
use Rattle.cvc_law.specs.declared.device.Device.{Device}
use Rattle.cvc_law.specs.Network.{Network, floor_of, ceiling_of, end_a, end_b}

-- of one known bound
abbrev pub of_one : Option ℤ → (ℤ → ℤ) → Option ℤ
of_one None f = None
of_one (Some x) f = Some (f x)

-- of two known bounds
abbrev pub of_two : Option ℤ → Option ℤ → (ℤ → ℤ → Option ℤ) → Option ℤ
of_two (Some x) (Some y) f = f x y
of_two _ _ f = None

-- the low that a device hands on from the net at its near end
abbrev pub low_from : Kind → Volts → Interval → Interval → Option ℤ
low_from Resistor v near gate = near.low
low_from Inductor v near gate = near.low
low_from Nmos v near gate = of_two near.low gate.high (λ low gate_high. if int_le (low +ℤ v.threshold) gate_high then Some low else None)
low_from Pmos v near gate = of_two near.low gate.low (λ low gate_low. Some (int_max low (gate_low +ℤ v.threshold)))
low_from _ v near gate = None

-- the high that a device hands on from the net at its near end
abbrev pub high_from : Kind → Volts → Interval → Interval → Option ℤ
high_from Resistor v near gate = near.high
high_from Inductor v near gate = near.high
high_from Nmos v near gate = of_two near.high gate.high (λ high gate_high. Some (int_min high (gate_high -ℤ v.threshold)))
high_from Pmos v near gate = of_two near.high gate.low (λ high gate_low. if int_le (gate_low +ℤ v.threshold) high then Some high else None)
high_from _ v near gate = None

-- a diode gives its cathode a high, and its anode a low
abbrev pub diode_gives : Volts → ℕ → Reads → Option ℤ
diode_gives v (suc zero) r = of_one r.a.high (λ anode. anode -ℤ v.drop)
diode_gives v (suc (suc zero)) r = of_one r.b.low (λ cathode. cathode +ℤ v.drop)
diode_gives v _ r = None

abbrev pub end_gives : Kind → Volts → ℕ → Reads → Option ℤ
end_gives k v zero r = low_from k v r.a r.g
end_gives k v (suc zero) r = high_from k v r.a r.g
end_gives k v (suc (suc zero)) r = low_from k v r.b r.g
end_gives k v (suc (suc (suc zero))) r = high_from k v r.b r.g
end_gives k v _ r = None

-- before the floor and the ceiling are looked at
abbrev pub offered : Kind → Volts → ℕ → Reads → Option ℤ
offered Diode v slot r = diode_gives v slot r
offered k v slot r = end_gives k v slot r

-- the value, if it lies between two bounds that are there
abbrev pub kept_within : Option ℤ → Option ℤ → Option ℤ → Option ℤ
kept_within (Some floor) (Some ceiling) (Some x) = if int_le floor x && int_le x ceiling then Some x else None
kept_within _ _ _ = None

-- the value that a slot of the device gives on these reads
abbrev pub given : Network → Device → ℕ → Reads → Option ℤ
given c d slot r = kept_within (floor_of c) (ceiling_of c) (offered d.kind d.volts slot r)

-- the net that a slot gives to
abbrev pub target : Device → ℕ → ℕ
target d slot = if nat_lt slot 2 then end_b d else end_a d
