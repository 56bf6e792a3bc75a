-- Families in the reach form, where a family is the list of the reaches of its bounds: closed families and the least one. Wider is greater, so within is at most.
-- `reaches` turns the intervals of a family into this form, and `intervals` turns it back.
use Rattle.std.specs.Prelude.{ℕ, ◌≡◌, ◌<◌, ◌≤◌, List, [], ◌∷◌, length, map, true, false, slice_index}
use Rattle.cvc_law.specs.declared.interval.Interval.{Interval}
use Rattle.cvc_law.specs.declared.device.Device.{Device}
use Rattle.cvc_law.specs.Network.{Network, devices, is_declared}
use Rattle.cvc_law.specs.Conduction.{target}
use Rattle.cvc_law.specs.Reach.{reach_on, bound_of, widest, width, is_declared_bound, declared_reach, declared_interval, device_at, target_place, reach_given, reach_reads}

abbrev pub reaches : Network → List Interval → List ℕ
reaches c [] = []
reaches c (i ∷ f) = reach_on c 0 i ∷ reach_on c 1 i ∷ reaches c f

abbrev pub intervals : Network → List ℕ → List Interval
intervals c (x ∷ y ∷ f) = record { low = bound_of c 0 x; high = bound_of c 1 y } ∷ intervals c f
intervals c _ = []

-- the declared nets as declared, and nothing known of the others
abbrev pub opening : Network → List ℕ
opening c = reaches c (map declared_interval c.fixed)

pub record IsReachFamily (c : Network) (f : List ℕ) : Type 0 where
  pub every_bound : length f ≡ width c
  pub declared : (b : ℕ) → is_declared_bound c b ≡ true → slice_index f b ≡ declared_reach c b
  pub in_range : (b : ℕ) → slice_index f b ≤ widest c

abbrev pub IsReachWithin : List ℕ → List ℕ → Type 0
IsReachWithin f g = (b : ℕ) → slice_index f b ≤ slice_index g b

-- each slot gives a net that isn't declared no more than it has
abbrev pub IsReachClosedAt : Network → List ℕ → Device → Type 0
IsReachClosedAt c f d = (k : ℕ) → k < 4 → is_declared c (target d k) ≡ false → reach_given c d k (reach_reads f d) ≤ slice_index f (target_place d k)

abbrev pub IsReachClosed : Network → List ℕ → Type 0
IsReachClosed c f = (i : ℕ) → i < devices c → IsReachClosedAt c f (device_at c i)

pub record IsReachLeast (c : Network) (f : List ℕ) : Type 0 where
  pub family : IsReachFamily c f
  pub closed : IsReachClosed c f
  pub least : (g : List ℕ) → IsReachFamily c g → IsReachClosed c g → IsReachWithin f g
