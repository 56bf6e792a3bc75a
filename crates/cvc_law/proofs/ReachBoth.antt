-- What a slot gives on reads of some reaches: the reach that the reach form gives is that of the value in millivolts, and the value is the bound of that reach.
use Rattle.std.proofs.Common.{◌≡◌, ℕ, zero, suc, ◌%◌, ◌<◌, ◌≤◌, true, Option, Some, None, arith, ap, refl, sym, ◌∙◌}
use Rattle.std.proofs.lemmas.Bool.Decides.{nat_tests}
use Rattle.std.specs.Prelude.{ℤ, pos, ◌≤ℤ◌, IfSome}
use Rattle.cvc_base.specs.declared.device.Kind.{Kind}
use Rattle.cvc_base.specs.declared.device.Kind.TheVariants.{Nmos, Pmos, Resistor, Diode, Capacitor, Inductor, Bipolar}
use Rattle.cvc_law.specs.declared.interval.Reads.{Reads}
use Rattle.cvc_law.specs.declared.device.Device.{Device}
use Rattle.cvc_law.specs.Network.{Network, floor_of, ceiling_of}
use Rattle.cvc_law.specs.Conduction.{given}
use Rattle.cvc_law.specs.Family.{IsInRange}
use Rattle.cvc_law.specs.Monotone.{AreInRange}
use Rattle.cvc_law.specs.Reach.{widest, bound_of, reach_of, read_count, needs, reach_given, reaches_of_reads, reads_of_reaches}
use Rattle.cvc_law.proofs.ReachValues.{low_of_low, high_of_high, low_of_reach, high_of_reach, low_of_between, high_of_between}
use Rattle.cvc_law.proofs.ReachGiving.{gives_needed}
use Rattle.cvc_law.proofs.ReachConduct.{gives_is, given_in_range}

pub six_reads : (kind : Kind) → read_count kind ≤ 6
six_reads Nmos = omega arith
six_reads Pmos = omega arith
six_reads Resistor = omega arith
six_reads Inductor = omega arith
six_reads Diode = omega arith
six_reads Capacitor = omega arith
six_reads Bipolar = omega arith

below_six : (kind : Kind) (i : ℕ) → needs kind i ≡ true → i < 6
below_six kind i need = let few = six_reads kind in let lt : i < read_count kind = grind (arith, nat_tests) in omega arith

-- a bound in range is that of its reach
bound_back : (c : Network) (side : ℕ) (o : Option ℤ) → IfSome o (IsInRange c) → bound_of c side (reach_of c side o) ≡ o
bound_back c zero o h = low_of_low (floor_of c) (ceiling_of c) o h
bound_back c (suc n) o h = high_of_high (floor_of c) (ceiling_of c) o h

given_known_in_range : (c : Network) (d : Device) (k : ℕ) (reads : Reads) (o : Option ℤ) → given c d k reads ≡ o → IfSome o (IsInRange c)
given_known_in_range c d k reads None is = tt
given_known_in_range c d k reads (Some v) is = given_in_range c d k reads v is

module _ (c : Network) (r : ℕ → ℕ) (most : (i : ℕ) → r i ≤ widest c) where
  pub reads_in_range : AreInRange c (reads_of_reaches c r)
  reads_in_range = record {
    a = (low_of_between (floor_of c) (ceiling_of c) (r 0) (most 0), high_of_between (floor_of c) (ceiling_of c) (r 1) (most 1));
    b = (low_of_between (floor_of c) (ceiling_of c) (r 2) (most 2), high_of_between (floor_of c) (ceiling_of c) (r 3) (most 3));
    g = (low_of_between (floor_of c) (ceiling_of c) (r 4) (most 4), high_of_between (floor_of c) (ceiling_of c) (r 5) (most 5));
  }

  reads_back : (i : ℕ) → i < 6 → r i ≡ reaches_of_reads c (reads_of_reaches c r) i
  reads_back zero lt = sym (low_of_reach (floor_of c) (ceiling_of c) (r 0) (most 0))
  reads_back (suc zero) lt = sym (high_of_reach (floor_of c) (ceiling_of c) (r 1) (most 1))
  reads_back (suc (suc zero)) lt = sym (low_of_reach (floor_of c) (ceiling_of c) (r 2) (most 2))
  reads_back (suc (suc (suc zero))) lt = sym (high_of_reach (floor_of c) (ceiling_of c) (r 3) (most 3))
  reads_back (suc (suc (suc (suc zero)))) lt = sym (low_of_reach (floor_of c) (ceiling_of c) (r 4) (most 4))
  reads_back (suc (suc (suc (suc (suc zero))))) lt = sym (high_of_reach (floor_of c) (ceiling_of c) (r 5) (most 5))
  reads_back (suc (suc (suc (suc (suc (suc i)))))) lt = absurd (omega arith)

  pub reach_of_given : (d : Device) (k : ℕ) → k < 4 → pos 0 ≤ℤ d.volts.drop → reach_given c d k r ≡ reach_of c (k % 2) (given c d k (reads_of_reaches c r))
  reach_of_given d k lt drop = gives_needed c d k r (reaches_of_reads c (reads_of_reaches c r)) lt (λ i need. reads_back i (below_six d.kind i need)) ∙ gives_is c d k (reads_of_reaches c r) lt drop reads_in_range

  pub given_of_reach : (d : Device) (k : ℕ) → k < 4 → pos 0 ≤ℤ d.volts.drop → given c d k (reads_of_reaches c r) ≡ bound_of c (k % 2) (reach_given c d k r)
  given_of_reach d k lt drop = let o : Option ℤ = given c d k (reads_of_reaches c r) in
      sym (bound_back c (k % 2) o (given_known_in_range c d k (reads_of_reaches c r) o refl)) ∙ ap (bound_of c (k % 2)) (sym (reach_of_given d k lt drop))
