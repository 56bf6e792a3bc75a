-- Families agree between the two forms: what a family is, within, closed and least.
use Rattle.std.proofs.Common.{◌≡◌, ℕ, zero, suc, ◌+◌, ◌-◌, ◌*◌, ◌/◌, ◌%◌, ◌<◌, ◌≤◌, true, Option, Some, None, List, [], ◌∷◌, length, map, arith, refl, sym, ap, ◌∙◌}
use Rattle.std.proofs.lemmas.List.{length-map}
use Rattle.std.proofs.Math.ListN.{get_or-map}
use Rattle.std.specs.Prelude.{ℤ, ◌≤ℤ◌, slice_index, slice_set, IfSome, IsSomeAnd, is_some}
use Rattle.cvc_law.specs.declared.interval.Interval.{Interval}
use Rattle.cvc_law.specs.declared.interval.Fixed.{Fixed}
use Rattle.cvc_law.specs.Network.{Network, fixed_at, floor_of, ceiling_of, IsCircuit}
use Rattle.cvc_law.specs.Family.{unknown, interval_at, IsInRange, IsFamily, IsWithin}
use Rattle.cvc_law.specs.Monotone.{IsKnownInRange}
use Rattle.cvc_law.specs.Reach.{low_reach, high_reach, reach_on, widest, declared_reach, declared_interval}
use Rattle.cvc_law.specs.ReachLeast.{reaches, intervals, opening, IsReachFamily, IsReachWithin}
use Rattle.cvc_law.proofs.ReachValues.{low_none, high_none, low_wider, high_wider, low_back, high_back, low_at_most, high_at_most}
use Rattle.cvc_law.proofs.ReachPlaces.{declared_in_range}

module _ (c : Network) where
  pub reach_unknown : (side : ℕ) → reach_on c side unknown ≡ 0
  reach_unknown zero = low_none (ceiling_of c)
  reach_unknown (suc n) = high_none (floor_of c)

  -- ---- the reaches of a list of intervals
  pub reach_at : (f : List Interval) (b : ℕ) → slice_index (reaches c f) b ≡ reach_on c (b % 2) (interval_at f (b / 2))
  reach_at [] b = sym (reach_unknown (b % 2))
  reach_at (i ∷ f) zero = refl
  reach_at (i ∷ f) (suc zero) = refl
  reach_at (i ∷ f) (suc (suc b)) = let side : suc (suc b) % 2 ≡ b % 2 = omega arith in let net : suc (suc b) / 2 ≡ suc (b / 2) = omega arith in rw (side, net) (reach_at f b)

  pub length_reaches : (f : List Interval) → length (reaches c f) ≡ 2 * length f
  length_reaches [] = refl
  length_reaches (i ∷ f) = let rest : length (reaches c f) ≡ 2 * length f = length_reaches f in omega arith

  pub length_intervals : (f : List ℕ) (n : ℕ) → length f ≡ 2 * n → length (intervals c f) ≡ n
  length_intervals [] n h = omega arith
  length_intervals (x ∷ []) n h = absurd (omega arith)
  length_intervals (x ∷ y ∷ f) n h = let rest : length (intervals c f) ≡ n - 1 = length_intervals f (n - 1) (omega arith) in omega arith

  -- ---- the declarations alone
  pub opening_at : (b : ℕ) → slice_index (opening c) b ≡ declared_reach c b
  opening_at b = reach_at (map declared_interval c.fixed) b ∙ ap (reach_on c (b % 2)) (get_or-map declared_interval c.fixed (b / 2) None)

  opens_within : (o : Option Fixed) → ((w : Fixed) → o ≡ Some w → IsInRange c w.low × IsInRange c w.high) → (side : ℕ) → reach_on c side (declared_interval o) ≤ widest c
  opens_within None h zero = low_at_most (floor_of c) (ceiling_of c) None tt
  opens_within None h (suc n) = high_at_most (floor_of c) (ceiling_of c) None tt
  opens_within (Some w) h zero = low_at_most (floor_of c) (ceiling_of c) (Some w.low) (h w refl).0
  opens_within (Some w) h (suc n) = high_at_most (floor_of c) (ceiling_of c) (Some w.high) (h w refl).1

  -- the declared bounds are no wider than from the floor to the ceiling
  pub declared_reach_at_most : IsCircuit c.fixed c.devices → (b : ℕ) → declared_reach c b ≤ widest c
  declared_reach_at_most circuit b = opens_within (fixed_at c (b / 2)) (declared_in_range c circuit (b / 2)) (b % 2)

  pub opening_family : IsCircuit c.fixed c.devices → IsReachFamily c (opening c)
  opening_family circuit = record {
    every_bound = length_reaches (map declared_interval c.fixed) ∙ ap (λ (n : ℕ). 2 * n) (length-map c.fixed declared_interval);
    declared = λ b _. opening_at b;
    in_range = λ b. let same : slice_index (opening c) b ≡ declared_reach c b = opening_at b in let most : declared_reach c b ≤ widest c = declared_reach_at_most circuit b in omega arith;
  }

  opens_none : (o : Option Fixed) (side x : ℕ) → (is_some o ≡ true → x ≡ reach_on c side (declared_interval o)) → reach_on c side (declared_interval o) ≤ x
  opens_none None side x h = let none : reach_on c side unknown ≡ 0 = reach_unknown side in omega arith
  opens_none (Some w) side x h = let same : x ≡ reach_on c side (declared_interval (Some w)) = h refl in omega arith

  -- it is within every family
  pub opening_within : (g : List ℕ) → IsReachFamily c g → IsReachWithin (opening c) g
  opening_within g family b = let same : slice_index (opening c) b ≡ declared_reach c b = opening_at b in
      let below : declared_reach c b ≤ slice_index g b = opens_none (fixed_at c (b / 2)) (b % 2) (slice_index g b) (family.declared b) in omega arith

  -- ---- families
  declared_same : (n : ℕ) (o : Option Fixed) (i : Interval) → is_some o ≡ true → ((w : Fixed) → o ≡ Some w → i ≡ record { low = Some w.low; high = Some w.high }) → i ≡ declared_interval o
  declared_same n None i is h = cc
  declared_same n (Some w) i is h = h w refl

  known_in_range : (f : List Interval) → IsFamily c f → (n : ℕ) → IsKnownInRange c (interval_at f n)
  known_in_range f family n = (family.low_in_range n, family.high_in_range n)

  at_most_on : (i : Interval) → IsKnownInRange c i → (side : ℕ) → reach_on c side i ≤ widest c
  at_most_on i h zero = low_at_most (floor_of c) (ceiling_of c) i.low h.0
  at_most_on i h (suc n) = high_at_most (floor_of c) (ceiling_of c) i.high h.1

  pub family_reaches : (f : List Interval) → IsFamily c f → IsReachFamily c (reaches c f)
  family_reaches f family = record {
    every_bound = length_reaches f ∙ ap (λ (n : ℕ). 2 * n) family.every_net;
    declared = λ b is. reach_at f b ∙ ap (reach_on c (b % 2)) (declared_same (b / 2) (fixed_at c (b / 2)) (interval_at f (b / 2)) is (family.declared (b / 2)));
    in_range = λ b. let same : slice_index (reaches c f) b ≡ reach_on c (b % 2) (interval_at f (b / 2)) = reach_at f b in
        let most : reach_on c (b % 2) (interval_at f (b / 2)) ≤ widest c = at_most_on (interval_at f (b / 2)) (known_in_range f family (b / 2)) (b % 2) in omega arith;
  }

  -- ---- within
  pub wider_on : (i j : Interval) → IfSome i.low (λ x. IsSomeAnd j.low (λ y. y ≤ℤ x)) → IfSome i.high (λ x. IsSomeAnd j.high (λ y. x ≤ℤ y)) → (side : ℕ) → reach_on c side i ≤ reach_on c side j
  wider_on i j low high zero = low_wider (ceiling_of c) i.low j.low low
  wider_on i j low high (suc n) = high_wider (floor_of c) i.high j.high high

  pub within_reaches : (f g : List Interval) → IsWithin f g → IsReachWithin (reaches c f) (reaches c g)
  within_reaches f g within b = let at_f : slice_index (reaches c f) b ≡ reach_on c (b % 2) (interval_at f (b / 2)) = reach_at f b in
      let at_g : slice_index (reaches c g) b ≡ reach_on c (b % 2) (interval_at g (b / 2)) = reach_at g b in
      let wider : reach_on c (b % 2) (interval_at f (b / 2)) ≤ reach_on c (b % 2) (interval_at g (b / 2)) = wider_on (interval_at f (b / 2)) (interval_at g (b / 2)) (within.low (b / 2)) (within.high (b / 2)) (b % 2) in omega arith

  low_place : (f : List Interval) (n : ℕ) → slice_index (reaches c f) (2 * n) ≡ low_reach (ceiling_of c) (interval_at f n).low
  low_place f n = let side : 2 * n % 2 ≡ 0 = omega arith in let net : 2 * n / 2 ≡ n = omega arith in reach_at f (2 * n) ∙ rw (side, net) refl

  high_place : (f : List Interval) (n : ℕ) → slice_index (reaches c f) (2 * n + 1) ≡ high_reach (floor_of c) (interval_at f n).high
  high_place f n = let side : (2 * n + 1) % 2 ≡ 1 = omega arith in let net : (2 * n + 1) / 2 ≡ n = omega arith in reach_at f (2 * n + 1) ∙ rw (side, net) refl

  pub within_from_reaches : (f g : List Interval) → IsFamily c f → IsReachWithin (reaches c f) (reaches c g) → IsWithin f g
  within_from_reaches f g family within = record {
    low = λ n. low_back (floor_of c) (ceiling_of c) (interval_at f n).low (interval_at g n).low (family.low_in_range n) (omega (arith, within (2 * n), low_place f n, low_place g n));
    high = λ n. high_back (floor_of c) (ceiling_of c) (interval_at f n).high (interval_at g n).high (family.high_in_range n) (omega (arith, within (2 * n + 1), high_place f n, high_place g n));
  }

  -- ---- one interval changed
  pub reaches-set : (f : List Interval) (n : ℕ) (i : Interval) → reaches c (slice_set f n i) ≡ slice_set (slice_set (reaches c f) (2 * n) (reach_on c 0 i)) (2 * n + 1) (reach_on c 1 i)
  reaches-set [] n i = refl
  reaches-set (j ∷ f) zero i = refl
  reaches-set (j ∷ f) (suc n) i = let low : 2 * suc n ≡ suc (suc (2 * n)) = omega arith in let high : suc (suc (2 * n)) + 1 ≡ suc (suc (2 * n + 1)) = omega arith in
      rw (low, high) (ap (λ (g : List ℕ). reach_on c 0 j ∷ reach_on c 1 j ∷ g) (reaches-set f n i))

  pub reaches-set_low : (f : List Interval) (n : ℕ) (low : Option ℤ) → n < length f → reaches c (slice_set f n record { low = low; high = (interval_at f n).high }) ≡ slice_set (reaches c f) (2 * n) (low_reach (ceiling_of c) low)
  reaches-set_low [] n low lt = absurd (omega arith)
  reaches-set_low (j ∷ f) zero low lt = refl
  reaches-set_low (j ∷ f) (suc n) low lt = let place : 2 * suc n ≡ suc (suc (2 * n)) = omega arith in
      rw place (ap (λ (g : List ℕ). reach_on c 0 j ∷ reach_on c 1 j ∷ g) (reaches-set_low f n low (omega arith)))

  pub reaches-set_high : (f : List Interval) (n : ℕ) (high : Option ℤ) → n < length f → reaches c (slice_set f n record { low = (interval_at f n).low; high = high }) ≡ slice_set (reaches c f) (2 * n + 1) (high_reach (floor_of c) high)
  reaches-set_high [] n high lt = absurd (omega arith)
  reaches-set_high (j ∷ f) zero high lt = refl
  reaches-set_high (j ∷ f) (suc n) high lt = let place : 2 * suc n + 1 ≡ suc (suc (2 * n + 1)) = omega arith in
      rw place (ap (λ (g : List ℕ). reach_on c 0 j ∷ reach_on c 1 j ∷ g) (reaches-set_high f n high (omega arith)))
