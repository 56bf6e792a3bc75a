-- Where settling may start beside the declarations: at bounds that the least family covers. What is said of declared nets isn't used, and a bound that
-- lies below the floor or above the ceiling is left out.
use Rattle.std.specs.Prelude.{ℕ, ◌≡◌, ◌<◌, List, length, Option, None, Some, false}
use Rattle.cvc_law.specs.declared.interval.Interval.{Interval}
use Rattle.cvc_law.specs.declared.interval.Fixed.{Fixed}
use Rattle.cvc_law.specs.Network.{Network, nets, fixed_at, is_declared, floor_of, ceiling_of}
use Rattle.cvc_law.specs.Conduction.{kept_within}
use Rattle.cvc_law.specs.Family.{interval_at}
use Rattle.cvc_law.specs.Least.{IsLeast}
use Rattle.cvc_law.specs.Monotone.{IsAsWide}
use Rattle.cvc_law.specs.Reach.{declared_interval}

-- the least family covers each known bound of an undeclared net
abbrev pub IsCovered : Network → List Interval → Type 0
IsCovered c f = (g : List Interval) (n : ℕ) → IsLeast c g → is_declared c n ≡ false → IsAsWide (interval_at f n) (interval_at g n)

-- a family of the circuit from which settling may start
pub record IsStart (c : Network) (f : List Interval) : Type 0 where
  pub every_net : length f ≡ nets c
  pub covered : IsCovered c f

-- what settling begins with at a net: a declared net as declared, and another as given, so far as that lies from the floor to the ceiling
abbrev pub started : Network → Option Fixed → Interval → Interval
started c None i = record { low = kept_within (floor_of c) (ceiling_of c) i.low; high = kept_within (floor_of c) (ceiling_of c) i.high }
started c (Some w) i = declared_interval (Some w)

-- of each net
pub record AreStarted (c : Network) (f bounds : List Interval) : Type 0 where
  pub every_net : length bounds ≡ nets c
  pub at : (n : ℕ) → n < nets c → interval_at bounds n ≡ started c (fixed_at c n) (interval_at f n)
