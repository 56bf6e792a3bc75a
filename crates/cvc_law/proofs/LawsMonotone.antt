-- Conduction is monotone, by its reach form.
use Rattle.std.proofs.Common.{◌≡◌, ℕ, zero, suc, ◌/◌, ◌%◌, ◌<◌, ◌≤◌, Some, None, arith, refl, ap, ◌∙◌}
use Rattle.std.specs.Prelude.{ℤ, pos, ◌≤ℤ◌, IsSomeAnd}
use Rattle.cvc_base.specs.declared.device.Kind.{Kind}
use Rattle.cvc_base.specs.declared.device.Kind.TheVariants.{Nmos, Pmos, Resistor, Diode, Capacitor, Inductor, Bipolar}
use Rattle.cvc_base.specs.declared.device.Volts.{Volts}
use Rattle.cvc_law.specs.declared.interval.Interval.{Interval}
use Rattle.cvc_law.specs.declared.interval.Reads.{Reads}
use Rattle.cvc_law.specs.declared.device.Device.{Device}
use Rattle.cvc_law.specs.Network.{Network, floor_of, ceiling_of}
use Rattle.cvc_law.specs.Conduction.{offered, kept_within, given}
use Rattle.cvc_law.specs.Monotone.{AreInRange, AreAsWide, IsAsWide, TakesIn}
use Rattle.cvc_law.specs.Reach.{reach_of, reach_on, reach_given, read_interval, reaches_of_reads}
use Rattle.cvc_law.proofs.ReachValues.{low_back, high_back}
use Rattle.cvc_law.proofs.ReachRows.{kept_none}
use Rattle.cvc_law.proofs.ReachConduct.{gives_is, given_in_range}
use Rattle.cvc_law.proofs.ReachGiving.{gives-le}
use Rattle.cvc_law.proofs.ReachFamilies.{wider_on}

no_slot : (kind : Kind) (v : Volts) (k : ℕ) (r : Reads) → offered kind v (suc (suc (suc (suc k)))) r ≡ None
no_slot Nmos v k r = refl
no_slot Pmos v k r = refl
no_slot Resistor v k r = refl
no_slot Inductor v k r = refl
no_slot Diode v k r = refl
no_slot Capacitor v k r = refl
no_slot Bipolar v k r = refl

module _ (c : Network) (d : Device) (r s : Reads) (drop : pos 0 ≤ℤ d.volts.drop) (first : AreInRange c r) (second : AreInRange c s) (wider : AreAsWide r s) where
  on_interval : (i j : Interval) → IsAsWide i j → (side : ℕ) → reach_on c side i ≤ reach_on c side j
  on_interval i j h side = wider_on c i j h.0 h.1 side

  reads_wider : (p side : ℕ) → reach_on c side (read_interval r p) ≤ reach_on c side (read_interval s p)
  reads_wider zero side = on_interval r.a s.a wider.a side
  reads_wider (suc zero) side = on_interval r.b s.b wider.b side
  reads_wider (suc (suc p)) side = on_interval r.g s.g wider.g side

  reaches_wider : (k : ℕ) (v : ℤ) → k < 4 → given c d k r ≡ Some v → reach_of c (k % 2) (Some v) ≤ reach_of c (k % 2) (given c d k s)
  reaches_wider k v lt is =
      let before : reach_given c d k (reaches_of_reads c r) ≡ reach_of c (k % 2) (Some v) = gives_is c d k r lt drop first ∙ ap (reach_of c (k % 2)) is in
      let after : reach_given c d k (reaches_of_reads c s) ≡ reach_of c (k % 2) (given c d k s) = gives_is c d k s lt drop second in
      let more : reach_given c d k (reaches_of_reads c r) ≤ reach_given c d k (reaches_of_reads c s) = gives-le c d k (reaches_of_reads c r) (reaches_of_reads c s) (λ i. reads_wider (i / 2) (i % 2)) in
      omega arith

  pub monotone : (k : ℕ) (v : ℤ) → given c d k r ≡ Some v → IsSomeAnd (given c d k s) (TakesIn k v)
  monotone zero v is = low_back (floor_of c) (ceiling_of c) (Some v) (given c d 0 s) (given_in_range c d 0 r v is) (reaches_wider 0 v (omega arith) is)
  monotone (suc zero) v is = high_back (floor_of c) (ceiling_of c) (Some v) (given c d 1 s) (given_in_range c d 1 r v is) (reaches_wider 1 v (omega arith) is)
  monotone (suc (suc zero)) v is = low_back (floor_of c) (ceiling_of c) (Some v) (given c d 2 s) (given_in_range c d 2 r v is) (reaches_wider 2 v (omega arith) is)
  monotone (suc (suc (suc zero))) v is = high_back (floor_of c) (ceiling_of c) (Some v) (given c d 3 s) (given_in_range c d 3 r v is) (reaches_wider 3 v (omega arith) is)
  monotone (suc (suc (suc (suc k)))) v is =
      let none : given c d (suc (suc (suc (suc k)))) r ≡ None = ap (kept_within (floor_of c) (ceiling_of c)) (no_slot d.kind d.volts k r) ∙ kept_none (floor_of c) (ceiling_of c) in cc
