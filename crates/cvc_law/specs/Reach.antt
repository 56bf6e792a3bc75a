-- The reach form of conduction, which proofs stand on: a bound as one natural number.
-- The reach of a bound is how many of the voltages from the floor to the ceiling it takes in, in whole millivolts: a low takes in those from itself to the ceiling, a high those from the floor to itself, an unknown bound none.
-- So the wider of two bounds of a net and side has the greater reach. A bound's index is twice its net for a low, and one more for a high; reads 0 to 5 are the low and high of a, of b and of the gate, and slot k hands on what read k has.
use Rattle.std.specs.Prelude.{ℕ, zero, suc, ◌+◌, ◌*◌, ◌/◌, ◌%◌, min, ℤ, pos, negsuc, ◌+ℤ◌, ◌-ℤ◌, int_le, List, [], Option, Some, None, Bool, ◌||◌, ◌==◌, nat_lt, if◌then◌else◌, slice_index, slice_index_or}
use Rattle.cvc_base.specs.declared.device.Kind.{Kind}
use Rattle.cvc_base.specs.declared.device.Kind.TheVariants.{Nmos, Pmos, Resistor, Diode, Capacitor, Inductor, Bipolar}
use Rattle.cvc_base.specs.declared.device.Volts.{Volts}
use Rattle.cvc_law.specs.declared.interval.Interval.{Interval}
use Rattle.cvc_law.specs.declared.interval.Fixed.{Fixed}
use Rattle.cvc_law.specs.declared.interval.Reads.{Reads}
use Rattle.cvc_law.specs.declared.device.Device.{Device}
use Rattle.cvc_law.specs.Network.{Network, nets, fixed_at, is_declared, floor_of, ceiling_of, end_a, end_b, gate}
use Rattle.cvc_law.specs.Family.{unknown}
use Rattle.cvc_law.specs.Conduction.{target}

-- 0 for a negative number
abbrev pub natural : ℤ → ℕ
natural (pos n) = n
natural (negsuc n) = 0

-- how many voltages lie from the first to the second
abbrev pub span : ℤ → ℤ → ℕ
span x y = natural (y -ℤ x +ℤ pos 1)

-- of a ceiling and a low
abbrev pub low_reach : Option ℤ → Option ℤ → ℕ
low_reach (Some ceiling) (Some low) = span low ceiling
low_reach _ _ = 0

-- of a floor and a high
abbrev pub high_reach : Option ℤ → Option ℤ → ℕ
high_reach (Some floor) (Some high) = span floor high
high_reach _ _ = 0

-- the reach of a bound of side 0, the lows, or 1, the highs
abbrev pub reach_of : Network → ℕ → Option ℤ → ℕ
reach_of c zero bound = low_reach (ceiling_of c) bound
reach_of c (suc n) bound = high_reach (floor_of c) bound

-- the greatest reach of a circuit: 0 where nothing is declared
abbrev pub widest : Network → ℕ
widest c = low_reach (ceiling_of c) (floor_of c)

-- the low of a reach, under a ceiling
abbrev pub low_of : Option ℤ → ℕ → Option ℤ
low_of (Some ceiling) (suc x) = Some (ceiling -ℤ pos x)
low_of _ _ = None

-- the high of a reach, over a floor
abbrev pub high_of : Option ℤ → ℕ → Option ℤ
high_of (Some floor) (suc x) = Some (floor +ℤ pos x)
high_of _ _ = None

-- the bound of a side that has the reach
abbrev pub bound_of : Network → ℕ → ℕ → Option ℤ
bound_of c zero x = low_of (ceiling_of c) x
bound_of c (suc n) x = high_of (floor_of c) x

-- the bound of an interval on a side
abbrev pub bound_on : ℕ → Interval → Option ℤ
bound_on zero i = i.low
bound_on (suc n) i = i.high

abbrev pub reach_on : Network → ℕ → Interval → ℕ
reach_on c side i = reach_of c side (bound_on side i)

-- what is known of a net by its declaration alone
abbrev pub declared_interval : Option Fixed → Interval
declared_interval None = unknown
declared_interval (Some w) = record { low = Some w.low; high = Some w.high }

-- the number of bounds
abbrev pub width : Network → ℕ
width c = 2 * nets c

abbrev pub is_declared_bound : Network → ℕ → Bool
is_declared_bound c b = is_declared c (b / 2)

-- the reach of a bound by the declarations alone
abbrev pub declared_reach : Network → ℕ → ℕ
declared_reach c b = reach_on c (b % 2) (declared_interval (fixed_at c (b / 2)))

abbrev pub no_volts : Volts
no_volts = record { threshold = pos 0; weak = pos 0; drop = pos 0; junction = pos 0; vgs = None; vgd = None; vds = None; vbs = None; vbd = None; vbg = None }

-- stands where a device's number is too great; it hands nothing on
abbrev pub no_device : Device
no_device = record { kind = Capacitor; pins = record { items = [] }; volts = no_volts }

abbrev pub device_at : Network → ℕ → Device
device_at c i = slice_index_or c.devices i no_device

-- the net at end a, at end b and at the gate
abbrev pub end_net : Device → ℕ → ℕ
end_net d zero = end_a d
end_net d (suc zero) = end_b d
end_net d (suc (suc n)) = gate d

-- the bound that a read reads
abbrev pub read_place : Device → ℕ → ℕ
read_place d i = 2 * end_net d (i / 2) + i % 2

-- the bound that a slot gives to
abbrev pub target_place : Device → ℕ → ℕ
target_place d k = 2 * target d k + k % 2

-- how many reads a device needs: those below that number
abbrev pub read_count : Kind → ℕ
read_count Nmos = 6
read_count Pmos = 6
read_count Capacitor = 0
read_count Bipolar = 0
read_count _ = 4

abbrev pub needs : Kind → ℕ → Bool
needs k i = nat_lt i (read_count k)

-- a read that isn't needed counts as unknown
abbrev pub needed_reads : Kind → (ℕ → ℕ) → ℕ → ℕ
needed_reads k r i = if needs k i then r i else 0

-- what is left of a known bound's reach when it moves in by a voltage
abbrev pub moved_in : ℤ → ℕ → ℕ
moved_in v zero = 0
moved_in v (suc x) = natural (pos (suc x) -ℤ v)

-- a MOS hands on a bound as it is, where its gate reaches far enough beyond it
abbrev pub if_on : ℕ → ℤ → ℕ → ℕ → ℕ
if_on room threshold own zero = 0
if_on room threshold own (suc y) = if int_le (pos (suc room) +ℤ threshold) (pos (own + suc y)) then own else 0

-- or a bound goes no further than another one less a voltage
abbrev pub limited_by : ℤ → ℕ → ℕ → ℕ
limited_by v own other = min own (moved_in v other)

-- on these reads, in a circuit of that greatest reach. A diode's drop isn't negative, so it hands on no more than it has
abbrev pub hands_on : Kind → Volts → ℕ → ℕ → (ℕ → ℕ) → ℕ
hands_on Resistor v room k r = r k
hands_on Inductor v room k r = r k
hands_on Nmos v room k r = if k % 2 == 0 then if_on room v.threshold (r k) (r 5) else limited_by v.threshold (r k) (r 5)
hands_on Pmos v room k r = if k % 2 == 0 then limited_by v.threshold (r k) (r 4) else if_on room v.threshold (r k) (r 4)
hands_on Diode v room k r = if (k == 1) || (k == 2) then limited_by v.drop (r k) (r k) else 0
hands_on _ v room k r = 0

-- the reach that a slot of the device gives on these reads, 0 where it gives nothing
unfoldable pub reach_given : Network → Device → ℕ → (ℕ → ℕ) → ℕ
reach_given c d k r = hands_on d.kind d.volts (widest c) k r

-- what a device reads of a family
abbrev pub reach_reads : List ℕ → Device → ℕ → ℕ
reach_reads f d i = slice_index f (read_place d i)

-- the intervals that reads name: of a, of b and of the gate
abbrev pub read_interval : Reads → ℕ → Interval
read_interval r zero = r.a
read_interval r (suc zero) = r.b
read_interval r (suc (suc n)) = r.g

-- the reaches of reads that are given as intervals
abbrev pub reaches_of_reads : Network → Reads → ℕ → ℕ
reaches_of_reads c r i = reach_on c (i % 2) (read_interval r (i / 2))

-- the interval of an end whose reads have these reaches: 0 is a, 1 is b, 2 the gate
abbrev pub interval_of_reaches : Network → (ℕ → ℕ) → ℕ → Interval
interval_of_reaches c r p = record { low = bound_of c 0 (r (2 * p)); high = bound_of c 1 (r (2 * p + 1)) }

-- reads of these reaches, as intervals
abbrev pub reads_of_reaches : Network → (ℕ → ℕ) → Reads
reads_of_reaches c r = record { a = interval_of_reaches c r 0; b = interval_of_reaches c r 1; g = interval_of_reaches c r 2 }
