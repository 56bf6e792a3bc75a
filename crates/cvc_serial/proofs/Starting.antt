-- The start: the declarations and what is given are a family, which is within every closed family where the least one covers what is given.
use Rattle.std.proofs.Common.{◌≡◌, ℕ, ◌<◌, false, Option, Some, None, List, [], inl, inr, arith, refl, sym, ap, ◌∙◌, subst}
use Rattle.std.proofs.lemmas.Bool.{cases_lt}
use Rattle.std.proofs.lemmas.Int.{ints}
use Rattle.std.proofs.lemmas.List.{get_or_past, length-map, ext_get_or}
use Rattle.std.proofs.Math.ListN.{get_or-map}
use Rattle.std.specs.Prelude.{ℤ, IfSome, is_some}
use Rattle.cvc_law.specs.declared.interval.Interval.{Interval}
use Rattle.cvc_law.specs.declared.interval.Fixed.{Fixed}
use Rattle.cvc_law.specs.Network.{Network, nets, fixed_at, is_declared, floor_of, ceiling_of, IsCircuit}
use Rattle.cvc_law.specs.Family.{unknown, interval_at, IsInRange, IsFamily, IsWithin}
use Rattle.cvc_law.specs.Least.{IsLeast}
use Rattle.cvc_law.specs.Monotone.{IsAsWide}
use Rattle.cvc_law.specs.Reach.{declared_interval}
use Rattle.cvc_law.proofs.LawsUnique.{exactly_one}
use Rattle.cvc_law.proofs.ReachPlaces.{declared_in_range}
use Rattle.cvc_law.proofs.ReachRows.{kept_none}
use Rattle.cvc_serial.specs.Derivation.{declared_family}
use Rattle.cvc_serial.specs.Settling.{IsReached}
use Rattle.cvc_serial.specs.Starting.{IsCovered, AreStarted, started}
use Rattle.cvc_serial.proofs.Kept.{kept_in_range, kept_low, kept_high, through}

-- declared bounds lie in the range
known_in : (c : Network) → IsCircuit c.fixed c.devices → (n : ℕ) (i : Interval) → IfSome (started c (fixed_at c n) i).low (IsInRange c) × IfSome (started c (fixed_at c n) i).high (IsInRange c)
known_in c circuit n i = by (fixed_at c n) (declared_in_range c circuit n) where
  by : (o : Option Fixed) → ((w : Fixed) → o ≡ Some w → IsInRange c w.low × IsInRange c w.high) → IfSome (started c o i).low (IsInRange c) × IfSome (started c o i).high (IsInRange c)
  by None own = (kept_in_range (floor_of c) (ceiling_of c) i.low, kept_in_range (floor_of c) (ceiling_of c) i.high)
  by (Some w) own = own w refl

as_wide : (c : Network) (o : Option Fixed) (i j : Interval) → (is_some o ≡ false → IsAsWide i j) → ((w : Fixed) → o ≡ Some w → j ≡ record { low = Some w.low; high = Some w.high }) → IsAsWide (started c o i) j
as_wide c None i j free own = let h = free refl in (kept_low (floor_of c) (ceiling_of c) i.low j.low h.0, kept_high (floor_of c) (ceiling_of c) i.high j.high h.1)
as_wide c (Some w) i j free own = subst (λ (k : Interval). IsAsWide (declared_interval (Some w)) k) (sym (own w refl)) (omega (arith, ints), omega (arith, ints))

module _ (c : Network) (circuit : IsCircuit c.fixed c.devices) (f bounds : List Interval) (are : AreStarted c f bounds) where
  -- what holds at each net, and of an unknown interval, holds of all
  at_all : (P : ℕ → Interval → Type 0) → ((n : ℕ) → n < nets c → P n (started c (fixed_at c n) (interval_at f n))) → ((n : ℕ) → P n unknown) → (n : ℕ) → P n (interval_at bounds n)
  at_all P inside outside n = elim (cases_lt n (nets c)) [
    | inl less ↦ subst (P n) (sym (are.at n less)) (inside n less)
    | inr more ↦ subst (P n) (sym (get_or_past bounds n unknown (omega (arith, are.every_net)))) (outside n)
  ]

  declared_at : (n : ℕ) (w : Fixed) → fixed_at c n ≡ Some w → interval_at bounds n ≡ record { low = Some w.low; high = Some w.high }
  declared_at n w is = elim (cases_lt n (nets c)) [
    | inl less ↦ are.at n less ∙ ap (λ (o : Option Fixed). started c o (interval_at f n)) is
    | inr more ↦ absurd (let none : fixed_at c n ≡ None = get_or_past c.fixed n None more in let no : None ≡ Some w = sym none ∙ is in cc)
  ]

  pub family_started : IsFamily c bounds
  family_started = record {
    every_net = are.every_net;
    declared = declared_at;
    low_in_range = at_all (λ (n : ℕ) (j : Interval). IfSome j.low (IsInRange c)) (λ n less. (known_in c circuit n (interval_at f n)).0) (λ n. tt);
    high_in_range = at_all (λ (n : ℕ) (j : Interval). IfSome j.high (IsInRange c)) (λ n less. (known_in c circuit n (interval_at f n)).1) (λ n. tt);
  }

  -- within a family that covers what is given on undeclared nets
  pub within_started : (h : List Interval) → IsFamily c h → ((n : ℕ) → is_declared c n ≡ false → IsAsWide (interval_at f n) (interval_at h n)) → IsWithin bounds h
  within_started h family covers =
      let all : (n : ℕ) → IsAsWide (interval_at bounds n) (interval_at h n) = at_all (λ (n : ℕ) (j : Interval). IsAsWide j (interval_at h n))
      (λ n less. as_wide c (fixed_at c n) (interval_at f n) (interval_at h n) (covers n) (family.declared n)) (λ n. (tt, tt)) in
      record { low = λ n. (all n).0; high = λ n. (all n).1 }

  -- no closed family goes without the bounds
  pub reached_started : IsCovered c f → IsReached c bounds
  reached_started covered = record {
    circuit = circuit;
    family = family_started;
    within = λ g other closed.
        let found = exactly_one c circuit in let h = found.0 in let least : IsLeast c h = found.1 in
        let first : IsWithin bounds h = within_started h least.family (λ n free. covered h n least free) in
        let rest : IsWithin h g = least.least g other closed in
        let all : (n : ℕ) → IsAsWide (interval_at bounds n) (interval_at g n) = λ n. through (interval_at bounds n) (interval_at h n) (interval_at g n) (first.low n, first.high n) (rest.low n, rest.high n) in
        record { low = λ n. (all n).0; high = λ n. (all n).1 };
  }

-- ---- the declarations alone
started_unknown : (c : Network) (o : Option Fixed) → started c o unknown ≡ declared_interval o
started_unknown c None = ap (λ (x : Option ℤ). record { low = x; high = x }) (kept_none (floor_of c) (ceiling_of c))
started_unknown c (Some w) = refl

pub are_declared : (c : Network) → AreStarted c [] (declared_family c)
are_declared c = record {
  every_net = length-map c.fixed declared_interval;
  at = λ n less. get_or-map declared_interval c.fixed n None ∙ sym (started_unknown c (fixed_at c n));
}

pub declared_is : (c : Network) (bounds : List Interval) → AreStarted c [] bounds → bounds ≡ declared_family c
declared_is c bounds are = let own = are_declared c in
    ext_get_or unknown bounds (declared_family c) (are.every_net ∙ sym own.every_net) (λ n lt. let less : n < nets c = omega (arith, are.every_net) in are.at n less ∙ sym (own.at n less))
