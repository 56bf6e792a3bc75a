-- What one slot of a device widens: the one bound that it gives to, just as far as what it gives, where the net isn't declared and the bound doesn't cover that yet.
use Rattle.std.specs.Prelude.{ℕ, ◌≡◌, ◌%◌, ◌==◌, ℤ, List, Some, false, if◌then◌else◌}
use Rattle.cvc_law.specs.declared.interval.Interval.{Interval}
use Rattle.cvc_law.specs.declared.device.Device.{Device}
use Rattle.cvc_law.specs.Network.{Network, is_declared}
use Rattle.cvc_law.specs.Family.{interval_at}
use Rattle.cvc_law.specs.Conduction.{given, target}
use Rattle.cvc_law.specs.Least.{reads_of, Covers}
use Rattle.cvc_serial.specs.declared.widen.Widening.{Widening}

-- even slots give a low, odd ones a high
abbrev pub with_bound : Interval → ℕ → ℤ → Interval
with_bound i slot v = if slot % 2 == 0 then record { low = Some v; high = i.high } else record { low = i.low; high = Some v }

-- the net that the slot gives to, and its interval with what the slot gives in place of the bound, which didn't cover that
pub record IsWidening (c : Network) (f : List Interval) (d : Device) (k : ℕ) (w : Widening) : Type 0 where
  pub net : w.bound.net.0 ≡ target d k
  pub free : is_declared c (target d k) ≡ false
  pub is_given : given c d k (reads_of f d) ≡ Some w.value
  pub not_covered : Covers (interval_at f (target d k)) k w.value → ⊥
  pub interval : w.interval ≡ with_bound (interval_at f (target d k)) k w.value
