-- Closed families and the least one agree between the two forms.
use Rattle.std.proofs.Common.{◌≡◌, ℕ, zero, suc, ◌+◌, ◌-◌, ◌*◌, ◌/◌, ◌%◌, ◌<◌, ◌≤◌, true, Option, Some, None, List, [], ◌∷◌, length, arith, refl, sym, ap, ◌∙◌, subst}
use Rattle.std.specs.Prelude.{ℤ, pos, ◌≤ℤ◌, slice_index, IfSome}
use Rattle.cvc_law.specs.declared.interval.Interval.{Interval}
use Rattle.cvc_law.specs.declared.interval.Fixed.{Fixed}
use Rattle.cvc_law.specs.declared.device.Device.{Device}
use Rattle.cvc_law.specs.Network.{Network, nets, fixed_at, floor_of, ceiling_of, end_a, end_b, gate, IsCircuit}
use Rattle.cvc_law.specs.Family.{interval_at, IsInRange, IsFamily}
use Rattle.cvc_law.specs.Conduction.{given, target}
use Rattle.cvc_law.specs.Least.{reads_of, IsClosedAt, IsClosed, IsLeast}
use Rattle.cvc_law.specs.Monotone.{AreInRange}
use Rattle.cvc_law.specs.Reach.{low_reach, high_reach, low_of, high_of, bound_of, reach_of, reach_on, widest, is_declared_bound, declared_reach, device_at, end_net, read_place, target_place, reach_given, reach_reads, read_interval, reaches_of_reads}
use Rattle.cvc_law.specs.ReachLeast.{reaches, intervals, IsReachFamily, IsReachWithin, IsReachClosedAt, IsReachClosed, IsReachLeast}
use Rattle.cvc_law.proofs.ReachValues.{low_of_reach, high_of_reach, low_of_between, high_of_between, low_of_low, high_of_high}
use Rattle.cvc_law.proofs.ReachPlaces.{device_at_is, device_at_get, device_sound, declared_in_range}
use Rattle.cvc_law.proofs.ReachConduct.{gives_is, given_in_range, reaches_covered, covers_reached}
use Rattle.cvc_law.proofs.ReachGiving.{gives_same}
use Rattle.cvc_law.proofs.ReachFamilies.{reach_at, length_intervals, family_reaches, within_reaches, within_from_reaches}

module _ (c : Network) where
  -- ---- closed
  pub reads_in_range : (f : List Interval) (d : Device) → IsFamily c f → AreInRange c (reads_of f d)
  reads_in_range f d family = record {
    a = (family.low_in_range (end_a d), family.high_in_range (end_a d));
    b = (family.low_in_range (end_b d), family.high_in_range (end_b d));
    g = (family.low_in_range (gate d), family.high_in_range (gate d));
  }

  read_at : (f : List Interval) (d : Device) (p : ℕ) → read_interval (reads_of f d) p ≡ interval_at f (end_net d p)
  read_at f d zero = refl
  read_at f d (suc zero) = refl
  read_at f d (suc (suc p)) = refl

  pub reads_reaches : (f : List Interval) (d : Device) (i : ℕ) → reach_reads (reaches c f) d i ≡ reaches_of_reads c (reads_of f d) i
  reads_reaches f d i = let side : read_place d i % 2 ≡ i % 2 = omega arith in let net : read_place d i / 2 ≡ end_net d (i / 2) = omega arith in
      reach_at c f (read_place d i) ∙ (ap (λ (s : ℕ). reach_on c s (interval_at f (read_place d i / 2))) side ∙ (ap (λ (n : ℕ). reach_on c (i % 2) (interval_at f n)) net ∙ ap (reach_on c (i % 2)) (sym (read_at f d (i / 2)))))

  -- what the table gives on a family's own bounds has the reach that the reach form gives
  pub gives_on_family : (f : List Interval) (d : Device) (k : ℕ) → k < 4 → pos 0 ≤ℤ d.volts.drop → IsFamily c f → reach_given c d k (reach_reads (reaches c f) d) ≡ reach_of c (k % 2) (given c d k (reads_of f d))
  gives_on_family f d k lt drop family = gives_same c d k (reach_reads (reaches c f) d) (reaches_of_reads c (reads_of f d)) (reads_reaches f d) ∙ gives_is c d k (reads_of f d) lt drop (reads_in_range f d family)

  target_at : (f : List Interval) (d : Device) (k : ℕ) → slice_index (reaches c f) (target_place d k) ≡ reach_on c (k % 2) (interval_at f (target d k))
  target_at f d k = let side : target_place d k % 2 ≡ k % 2 = omega arith in let net : target_place d k / 2 ≡ target d k = omega arith in
      reach_at c f (target_place d k) ∙ (ap (λ (s : ℕ). reach_on c s (interval_at f (target_place d k / 2))) side ∙ ap (λ (n : ℕ). reach_on c (k % 2) (interval_at f n)) net)

  pub closed_at_reaches : (f : List Interval) (d : Device) → pos 0 ≤ℤ d.volts.drop → IsFamily c f → IsClosedAt c f d → IsReachClosedAt c (reaches c f) d
  closed_at_reaches f d drop family closed k lt free = let as_table : reach_given c d k (reach_reads (reaches c f) d) ≡ reach_of c (k % 2) (given c d k (reads_of f d)) = gives_on_family f d k lt drop family in
      let there : slice_index (reaches c f) (target_place d k) ≡ reach_on c (k % 2) (interval_at f (target d k)) = target_at f d k in
      let covered : reach_of c (k % 2) (given c d k (reads_of f d)) ≤ reach_on c (k % 2) (interval_at f (target d k)) = reaches_covered c (interval_at f (target d k)) k (given c d k (reads_of f d)) lt (λ v is. closed k v lt free is) in omega arith

  pub closed_at_from_reaches : (f : List Interval) (d : Device) → pos 0 ≤ℤ d.volts.drop → IsFamily c f → IsReachClosedAt c (reaches c f) d → IsClosedAt c f d
  closed_at_from_reaches f d drop family closed k v lt free is = let as_table : reach_given c d k (reach_reads (reaches c f) d) ≡ reach_of c (k % 2) (given c d k (reads_of f d)) = gives_on_family f d k lt drop family in
      let there : slice_index (reaches c f) (target_place d k) ≡ reach_on c (k % 2) (interval_at f (target d k)) = target_at f d k in
      let same : reach_of c (k % 2) (given c d k (reads_of f d)) ≡ reach_of c (k % 2) (Some v) = ap (reach_of c (k % 2)) is in
      covers_reached c (interval_at f (target d k)) k v lt (given_in_range c d k (reads_of f d) v is) (omega (arith, closed k lt free))

  pub closed_reaches : IsCircuit c.fixed c.devices → (f : List Interval) → IsFamily c f → IsClosed c f → IsReachClosed c (reaches c f)
  closed_reaches circuit f family closed i lt = closed_at_reaches f (device_at c i) (device_sound c circuit i lt).drop family (closed i (device_at c i) (device_at_get c i lt))

  pub closed_from_reaches : IsCircuit c.fixed c.devices → (f : List Interval) → IsFamily c f → IsReachClosed c (reaches c f) → IsClosed c f
  closed_from_reaches circuit f family closed i d is = let there = device_at_is c i d is in
      closed_at_from_reaches f d (circuit.sound i d is).drop family (subst (IsReachClosedAt c (reaches c f)) there.1 (closed i there.0))

  -- ---- there and back
  bound_unknown-low : (ce : Option ℤ) → low_of ce 0 ≡ None
  bound_unknown-low None = refl
  bound_unknown-low (Some x) = refl

  bound_unknown-high : (fl : Option ℤ) → high_of fl 0 ≡ None
  bound_unknown-high None = refl
  bound_unknown-high (Some x) = refl

  abbrev as_interval : ℕ → ℕ → Interval
  as_interval x y = record { low = bound_of c 0 x; high = bound_of c 1 y }

  pub interval_of : (f : List ℕ) (m n : ℕ) → length f ≡ 2 * m → interval_at (intervals c f) n ≡ as_interval (slice_index f (2 * n)) (slice_index f (2 * n + 1))
  interval_of [] m n h = rw (bound_unknown-low (ceiling_of c), bound_unknown-high (floor_of c)) refl
  interval_of (x ∷ []) m n h = absurd (omega arith)
  interval_of (x ∷ y ∷ f) m zero h = refl
  interval_of (x ∷ y ∷ f) m (suc n) h = let low : 2 * suc n ≡ suc (suc (2 * n)) = omega arith in let high : suc (suc (2 * n)) + 1 ≡ suc (suc (2 * n + 1)) = omega arith in rw (low, high) (interval_of f (m - 1) n (omega arith))

  pub reaches_intervals : (f : List ℕ) (m : ℕ) → length f ≡ 2 * m → ((b : ℕ) → slice_index f b ≤ widest c) → reaches c (intervals c f) ≡ f
  reaches_intervals [] m h range = refl
  reaches_intervals (x ∷ []) m h range = absurd (omega arith)
  reaches_intervals (x ∷ y ∷ f) m h range = let low : low_reach (ceiling_of c) (low_of (ceiling_of c) x) ≡ x = low_of_reach (floor_of c) (ceiling_of c) x (range 0) in
      let high : high_reach (floor_of c) (high_of (floor_of c) y) ≡ y = high_of_reach (floor_of c) (ceiling_of c) y (range 1) in
      let rest : reaches c (intervals c f) ≡ f = reaches_intervals f (m - 1) (omega arith) (λ b. range (suc (suc b))) in rw (low, high, rest) refl

  declared_low : (n : ℕ) (w : Fixed) → fixed_at c n ≡ Some w → (is_declared_bound c (2 * n) ≡ true) × (declared_reach c (2 * n) ≡ low_reach (ceiling_of c) (Some w.low))
  declared_low n w is = let side : 2 * n % 2 ≡ 0 = omega arith in let net : 2 * n / 2 ≡ n = omega arith in (rw (net, is) refl, rw (side, net, is) refl)

  declared_high : (n : ℕ) (w : Fixed) → fixed_at c n ≡ Some w → (is_declared_bound c (2 * n + 1) ≡ true) × (declared_reach c (2 * n + 1) ≡ high_reach (floor_of c) (Some w.high))
  declared_high n w is = let side : (2 * n + 1) % 2 ≡ 1 = omega arith in let net : (2 * n + 1) / 2 ≡ n = omega arith in (rw (net, is) refl, rw (side, net, is) refl)

  declared_back : IsCircuit c.fixed c.devices → (n : ℕ) (w : Fixed) (x y : ℕ) → fixed_at c n ≡ Some w → x ≡ low_reach (ceiling_of c) (Some w.low) → y ≡ high_reach (floor_of c) (Some w.high) → as_interval x y ≡ record { low = Some w.low; high = Some w.high }
  declared_back circuit n w x y is low high = let within = declared_in_range c circuit n w is in
      let low_is : low_of (ceiling_of c) x ≡ Some w.low = ap (low_of (ceiling_of c)) low ∙ low_of_low (floor_of c) (ceiling_of c) (Some w.low) within.0 in
      let high_is : high_of (floor_of c) y ≡ Some w.high = ap (high_of (floor_of c)) high ∙ high_of_high (floor_of c) (ceiling_of c) (Some w.high) within.1 in rw (low_is, high_is) refl

  pub family_intervals : IsCircuit c.fixed c.devices → (f : List ℕ) → IsReachFamily c f → IsFamily c (intervals c f)
  family_intervals circuit f family = record {
    every_net = length_intervals c f (nets c) family.every_bound;
    declared = λ n w is. let low = declared_low n w is in let high = declared_high n w is in
        interval_of f (nets c) n family.every_bound ∙ declared_back circuit n w (slice_index f (2 * n)) (slice_index f (2 * n + 1)) is (family.declared (2 * n) low.0 ∙ low.1) (family.declared (2 * n + 1) high.0 ∙ high.1);
    low_in_range = λ n. subst (λ (i : Interval). IfSome i.low (IsInRange c)) (sym (interval_of f (nets c) n family.every_bound)) (low_of_between (floor_of c) (ceiling_of c) (slice_index f (2 * n)) (family.in_range (2 * n)));
    high_in_range = λ n. subst (λ (i : Interval). IfSome i.high (IsInRange c)) (sym (interval_of f (nets c) n family.every_bound)) (high_of_between (floor_of c) (ceiling_of c) (slice_index f (2 * n + 1)) (family.in_range (2 * n + 1)));
  }

  -- ---- least
  pub least_reaches : IsCircuit c.fixed c.devices → (f : List Interval) → IsLeast c f → IsReachLeast c (reaches c f)
  least_reaches circuit f least = record {
    family = family_reaches c f least.family;
    closed = closed_reaches circuit f least.family least.closed;
    least = λ g family closed. let back : reaches c (intervals c g) ≡ g = reaches_intervals g (nets c) family.every_bound family.in_range in
        let as_intervals = family_intervals circuit g family in
        let within = within_reaches c f (intervals c g) (least.least (intervals c g) as_intervals (closed_from_reaches circuit (intervals c g) as_intervals (subst (IsReachClosed c) (sym back) closed))) in
        subst (λ (h : List ℕ). IsReachWithin (reaches c f) h) back within;
  }

  pub least_from_reaches : IsCircuit c.fixed c.devices → (f : List Interval) → IsFamily c f → IsReachLeast c (reaches c f) → IsLeast c f
  least_from_reaches circuit f family least = record {
    family = family;
    closed = closed_from_reaches circuit f family least.closed;
    least = λ g other closed. within_from_reaches c f g family (least.least (reaches c g) (family_reaches c g other) (closed_reaches circuit g other closed));
  }

  -- the intervals of the least reaches are the least family
  pub least_intervals : IsCircuit c.fixed c.devices → (f : List ℕ) → IsReachLeast c f → IsLeast c (intervals c f)
  least_intervals circuit f least = let back : reaches c (intervals c f) ≡ f = reaches_intervals f (nets c) least.family.every_bound least.family.in_range in
      least_from_reaches circuit (intervals c f) (family_intervals circuit f least.family) (subst (IsReachLeast c) (sym back) least)
