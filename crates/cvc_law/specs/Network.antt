-- A circuit as plain data: what each net is declared at, and the devices with their pins.
-- A net or a device is the number of its place in its list. The floor is the least declared minimum, and the ceiling the greatest declared maximum.
use Rattle.std.specs.Prelude.{ℕ, ◌+◌, ◌≡◌, ◌<◌, ◌≤◌, ℤ, pos, ◌≤ℤ◌, List, [], ◌∷◌, length, Option, Some, None, Bool, true, false, ◌||◌, ◌&&◌, ◌==◌, slice_index_or, is_some, slice_get, if◌then◌else◌}
use Rattle.std.specs.Int.{int_min, int_max}
use Rattle.cvc_base.specs.declared.device.Kind.{Kind}
use Rattle.cvc_base.specs.declared.device.Kind.TheVariants.{Nmos, Pmos, Capacitor, Bipolar}
use Rattle.cvc_base.specs.declared.ids.NetId.{NetId}
use Rattle.cvc_law.specs.declared.interval.Fixed.{Fixed}
use Rattle.cvc_law.specs.declared.device.Device.{Device}

pub record Network : Type 0 where
  pub fixed : List (Option Fixed)
  pub devices : List Device

abbrev pub nets : Network → ℕ
nets c = length c.fixed

abbrev pub devices : Network → ℕ
devices c = length c.devices

-- what a net is declared at
abbrev pub fixed_at : Network → ℕ → Option Fixed
fixed_at c n = slice_index_or c.fixed n None

abbrev pub is_declared : Network → ℕ → Bool
is_declared c n = is_some (fixed_at c n)

abbrev pub no_net : NetId
no_net = record { 0 = 0 }

-- the net of the pin at a place of the card
abbrev pub pin : Device → ℕ → ℕ
pin d i = (slice_index_or d.pins.items i no_net).0

abbrev pub is_mos : Kind → Bool
is_mos Nmos = true
is_mos Pmos = true
is_mos _ = false

-- a MOS has drain, gate, source and bulk, a bipolar collector, base and emitter, and each other kind two pins
abbrev pub pins_of : Kind → ℕ
pins_of Nmos = 4
pins_of Pmos = 4
pins_of Bipolar = 3
pins_of _ = 2

-- it has as many pins as its kind
abbrev pub HasPins : Device → Type 0
HasPins d = length d.pins.items ≡ pins_of d.kind

-- the end a: the drain of a MOS, the anode of a diode, the first net of the others
abbrev pub end_a : Device → ℕ
end_a d = pin d 0

abbrev pub second_end : Kind → Device → ℕ
second_end Nmos d = pin d 2
second_end Pmos d = pin d 2
second_end _ d = pin d 1

-- the end b: the source of a MOS, the cathode of a diode, the second net of the others
abbrev pub end_b : Device → ℕ
end_b d = second_end d.kind d

-- of a MOS
abbrev pub gate : Device → ℕ
gate d = pin d 1

-- of a MOS
abbrev pub bulk : Device → ℕ
bulk d = pin d 3

-- whether devices of the kind can hand a voltage on at all
abbrev pub conducts : Kind → Bool
conducts Capacitor = false
conducts Bipolar = false
conducts _ = true

-- whether the device reads the bounds of the net
abbrev pub touches : ℕ → Device → Bool
touches n d = conducts d.kind && ((end_a d == n) || (end_b d == n) || (is_mos d.kind && (gate d == n)))

abbrev pub touching_from : ℕ → ℕ → List Device → List ℕ
touching_from n i [] = []
touching_from n i (d ∷ ds) = if touches n d then i ∷ touching_from n (i + 1) ds else touching_from n (i + 1) ds

-- the devices that read the bounds of the net, each once, in order
abbrev pub fan_of : Network → ℕ → List ℕ
fan_of c n = touching_from n 0 c.devices

abbrev pub lesser : ℤ → Option ℤ → Option ℤ
lesser x None = Some x
lesser x (Some y) = Some (int_min x y)

abbrev pub greater : ℤ → Option ℤ → Option ℤ
greater x None = Some x
greater x (Some y) = Some (int_max x y)

abbrev pub least_low : List (Option Fixed) → Option ℤ
least_low [] = None
least_low (None ∷ rest) = least_low rest
least_low (Some w ∷ rest) = lesser w.low (least_low rest)

abbrev pub greatest_high : List (Option Fixed) → Option ℤ
greatest_high [] = None
greatest_high (None ∷ rest) = greatest_high rest
greatest_high (Some w ∷ rest) = greater w.high (greatest_high rest)

-- None where nothing is declared
abbrev pub floor_of : Network → Option ℤ
floor_of c = least_low c.fixed

abbrev pub ceiling_of : Network → Option ℤ
ceiling_of c = greatest_high c.fixed

-- what a circuit must meet
pub record IsDevice (net_count : ℕ) (d : Device) : Type 0 where
  pub pin_count : HasPins d
  pub on_nets : (i : ℕ) → i < pins_of d.kind → pin d i < net_count
  pub drop : pos 0 ≤ℤ d.volts.drop
  pub junction : pos 0 ≤ℤ d.volts.junction
  pub threshold : d.kind ≡ Pmos → pos 0 ≤ℤ d.volts.threshold
  -- the corner that conducts most has the lesser threshold
  pub corners : d.volts.threshold ≤ℤ d.volts.weak

pub record IsCircuit (fixed : List (Option Fixed)) (devices : List Device) : Type 0 where
  pub few_nets : length fixed ≤ 1000000
  pub few_devices : length devices ≤ 500000
  -- no declared low lies above its high
  pub ordered : (n : ℕ) (w : Fixed) → slice_index_or fixed n None ≡ Some w → w.low ≤ℤ w.high
  pub sound : (i : ℕ) (d : Device) → slice_get devices i ≡ Some d → IsDevice (length fixed) d
