-- What conduction reads of a device, which a circuit keeps in a compact array beside its devices: the kind, the nets of the ends and of the gate, and one voltage.
-- That voltage is the drop of a diode and the threshold of a MOS; the other kinds conduct without one.
use Rattle.std.specs.Prelude.{ℕ, zero, suc, ◌<◌, ℤ, List, nat_lt, if◌then◌else◌}
use Rattle.cvc_base.specs.declared.device.Kind.{Kind}
use Rattle.cvc_base.specs.declared.device.Kind.TheVariants.{Diode}
use Rattle.cvc_base.specs.declared.device.Volts.{Volts}
use Rattle.cvc_law.specs.declared.conductor.Conductor.{Conductor}
use Rattle.cvc_law.specs.declared.device.Device.{Device}
use Rattle.cvc_law.specs.declared.interval.Interval.{Interval}
use Rattle.cvc_law.specs.declared.interval.Reads.{Reads}
use Rattle.cvc_law.specs.Network.{end_a, end_b, gate}
use Rattle.cvc_law.specs.Family.{interval_at}
use Rattle.cvc_law.specs.Reach.{no_volts}

-- the voltage that devices of the kind conduct by
abbrev pub voltage_of : Kind → Volts → ℤ
voltage_of Diode v = v.drop
voltage_of _ v = v.threshold

abbrev pub conductor_of : Device → Conductor
conductor_of d = record { kind = d.kind; a = record { 0 = end_a d }; b = record { 0 = end_b d }; gate = record { 0 = gate d }; voltage = voltage_of d.kind d.volts }

-- voltages of which conduction by this one makes the same
abbrev pub volts_of : ℤ → Volts
volts_of v = record no_volts { threshold = v; drop = v }

-- its ends and its gate are among this many nets
pub record IsOnNets (net_count : ℕ) (c : Conductor) : Type 0 where
  pub a : c.a.0 < net_count
  pub b : c.b.0 < net_count
  pub gate : c.gate.0 < net_count

-- the net that a slot gives to
abbrev pub target_net : Conductor → ℕ → ℕ
target_net c slot = if nat_lt slot 2 then c.b.0 else c.a.0

-- the net at end a, at end b and at the gate
abbrev pub net_at : Conductor → ℕ → ℕ
net_at c zero = c.a.0
net_at c (suc zero) = c.b.0
net_at c (suc (suc n)) = c.gate.0

-- what a family says of its nets
abbrev pub reads_at : List Interval → Conductor → Reads
reads_at f c = record { a = interval_at f c.a.0; b = interval_at f c.b.0; g = interval_at f c.gate.0 }
