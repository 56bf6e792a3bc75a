-- Conduction agrees between its two forms: the reach of what the table gives is what the reach form gives on the reads' reaches.
use Rattle.std.proofs.Common.{◌≡◌, ℕ, zero, suc, ◌%◌, ◌<◌, ◌≤◌, Bool, true, false, cond, Option, Some, None, arith, refl, sym}
use Rattle.std.proofs.lemmas.Int.{ints}
use Rattle.std.specs.Prelude.{ℤ, pos, ◌≤ℤ◌, int_le, ◌&&◌, IfSome, IsSomeAnd}
use Rattle.cvc_base.specs.declared.device.Kind.{Kind}
use Rattle.cvc_base.specs.declared.device.Kind.TheVariants.{Nmos, Pmos, Resistor, Diode, Capacitor, Inductor, Bipolar}
use Rattle.cvc_base.specs.declared.device.Volts.{Volts}
use Rattle.cvc_law.specs.declared.interval.Interval.{Interval}
use Rattle.cvc_law.specs.declared.interval.Reads.{Reads}
use Rattle.cvc_law.specs.declared.device.Device.{Device}
use Rattle.cvc_law.specs.Network.{Network, floor_of, ceiling_of}
use Rattle.cvc_law.specs.Conduction.{offered, kept_within, given}
use Rattle.cvc_law.specs.Family.{IsInRange}
use Rattle.cvc_law.specs.Least.{Covers}
use Rattle.cvc_law.specs.Monotone.{AreInRange}
use Rattle.cvc_law.specs.Reach.{reach_of, reach_on, widest, hands_on, reach_given, reaches_of_reads}
use Rattle.cvc_law.proofs.ReachValues.{Between, low_wider, high_wider, low_back, high_back}
use Rattle.cvc_law.proofs.ReachRows.{low_same, high_same, low_if_on, high_if_on, low_up_to, high_up_to, low_drop, high_drop, low_nothing, high_nothing}

module _ (c : Network) (v : Volts) (r : Reads) (drop : pos 0 ≤ℤ v.drop) (range : AreInRange c r) where
  row : (kind : Kind) (k : ℕ) → k < 4 → reach_of c (k % 2) (kept_within (floor_of c) (ceiling_of c) (offered kind v k r)) ≡ hands_on kind v (widest c) k (reaches_of_reads c r)
  row Resistor zero lt = low_same (floor_of c) (ceiling_of c) r.a.low range.a.0
  row Resistor (suc zero) lt = high_same (floor_of c) (ceiling_of c) r.a.high range.a.1
  row Resistor (suc (suc zero)) lt = low_same (floor_of c) (ceiling_of c) r.b.low range.b.0
  row Resistor (suc (suc (suc zero))) lt = high_same (floor_of c) (ceiling_of c) r.b.high range.b.1
  row Inductor zero lt = low_same (floor_of c) (ceiling_of c) r.a.low range.a.0
  row Inductor (suc zero) lt = high_same (floor_of c) (ceiling_of c) r.a.high range.a.1
  row Inductor (suc (suc zero)) lt = low_same (floor_of c) (ceiling_of c) r.b.low range.b.0
  row Inductor (suc (suc (suc zero))) lt = high_same (floor_of c) (ceiling_of c) r.b.high range.b.1
  row Nmos zero lt = low_if_on (floor_of c) (ceiling_of c) v.threshold r.a.low r.g.high range.a.0 range.g.1
  row Nmos (suc zero) lt = high_up_to (floor_of c) (ceiling_of c) v.threshold r.a.high r.g.high range.a.1 range.g.1
  row Nmos (suc (suc zero)) lt = low_if_on (floor_of c) (ceiling_of c) v.threshold r.b.low r.g.high range.b.0 range.g.1
  row Nmos (suc (suc (suc zero))) lt = high_up_to (floor_of c) (ceiling_of c) v.threshold r.b.high r.g.high range.b.1 range.g.1
  row Pmos zero lt = low_up_to (floor_of c) (ceiling_of c) v.threshold r.a.low r.g.low range.a.0 range.g.0
  row Pmos (suc zero) lt = high_if_on (floor_of c) (ceiling_of c) v.threshold r.a.high r.g.low range.a.1 range.g.0
  row Pmos (suc (suc zero)) lt = low_up_to (floor_of c) (ceiling_of c) v.threshold r.b.low r.g.low range.b.0 range.g.0
  row Pmos (suc (suc (suc zero))) lt = high_if_on (floor_of c) (ceiling_of c) v.threshold r.b.high r.g.low range.b.1 range.g.0
  row Diode zero lt = low_nothing (floor_of c) (ceiling_of c)
  row Diode (suc zero) lt = high_drop (floor_of c) (ceiling_of c) v.drop r.a.high drop range.a.1
  row Diode (suc (suc zero)) lt = low_drop (floor_of c) (ceiling_of c) v.drop r.b.low drop range.b.0
  row Diode (suc (suc (suc zero))) lt = high_nothing (floor_of c) (ceiling_of c)
  row Capacitor zero lt = low_nothing (floor_of c) (ceiling_of c)
  row Capacitor (suc zero) lt = high_nothing (floor_of c) (ceiling_of c)
  row Capacitor (suc (suc zero)) lt = low_nothing (floor_of c) (ceiling_of c)
  row Capacitor (suc (suc (suc zero))) lt = high_nothing (floor_of c) (ceiling_of c)
  row Bipolar zero lt = low_nothing (floor_of c) (ceiling_of c)
  row Bipolar (suc zero) lt = high_nothing (floor_of c) (ceiling_of c)
  row Bipolar (suc (suc zero)) lt = low_nothing (floor_of c) (ceiling_of c)
  row Bipolar (suc (suc (suc zero))) lt = high_nothing (floor_of c) (ceiling_of c)
  row _ (suc (suc (suc (suc k)))) lt = absurd (omega arith)

pub gives_is : (c : Network) (d : Device) (k : ℕ) (r : Reads) → k < 4 → pos 0 ≤ℤ d.volts.drop → AreInRange c r → reach_given c d k (reaches_of_reads c r) ≡ reach_of c (k % 2) (given c d k r)
unfolding reach_given
gives_is c d k r lt drop range = sym (row c d.volts r drop range d.kind k lt)

kept_between : (f c x v : ℤ) (p q : Bool) → int_le f x ≡ p → int_le x c ≡ q → cond (p && q) (Some x) None ≡ Some v → (f ≤ℤ v) × (v ≤ℤ c)
kept_between f c x v true true e g is = let same : x ≡ v = cc in (omega (arith, ints), omega (arith, ints))
kept_between f c x v true false e g is = cc
kept_between f c x v false q e g is = cc

kept_is_between : (fl ce o : Option ℤ) (v : ℤ) → kept_within fl ce o ≡ Some v → Between fl ce v
kept_is_between None ce o v is = cc
kept_is_between (Some f) None o v is = cc
kept_is_between (Some f) (Some c) None v is = cc
kept_is_between (Some f) (Some c) (Some x) v is = kept_between f c x v (int_le f x) (int_le x c) refl refl is

-- what a slot gives lies from the floor to the ceiling
pub given_in_range : (c : Network) (d : Device) (k : ℕ) (r : Reads) (v : ℤ) → given c d k r ≡ Some v → IsInRange c v
given_in_range c d k r v is = kept_is_between (floor_of c) (ceiling_of c) (offered d.kind d.volts k r) v is

if_some : (o : Option ℤ) (P : ℤ → Type 0) → ((v : ℤ) → o ≡ Some v → P v) → IfSome o P
if_some None P h = tt
if_some (Some v) P h = h v refl

-- an interval covers what a slot gives where its bound reaches as far
pub reaches_covered : (c : Network) (i : Interval) (k : ℕ) (o : Option ℤ) → k < 4 → ((v : ℤ) → o ≡ Some v → Covers i k v) → reach_of c (k % 2) o ≤ reach_on c (k % 2) i
reaches_covered c i zero o lt h = low_wider (ceiling_of c) o i.low (if_some o (λ x. IsSomeAnd i.low (λ y. y ≤ℤ x)) h)
reaches_covered c i (suc zero) o lt h = high_wider (floor_of c) o i.high (if_some o (λ x. IsSomeAnd i.high (λ y. x ≤ℤ y)) h)
reaches_covered c i (suc (suc zero)) o lt h = low_wider (ceiling_of c) o i.low (if_some o (λ x. IsSomeAnd i.low (λ y. y ≤ℤ x)) h)
reaches_covered c i (suc (suc (suc zero))) o lt h = high_wider (floor_of c) o i.high (if_some o (λ x. IsSomeAnd i.high (λ y. x ≤ℤ y)) h)
reaches_covered c i (suc (suc (suc (suc k)))) o lt h = absurd (omega arith)

pub covers_reached : (c : Network) (i : Interval) (k : ℕ) (v : ℤ) → k < 4 → IsInRange c v → reach_of c (k % 2) (Some v) ≤ reach_on c (k % 2) i → Covers i k v
covers_reached c i zero v lt range h = low_back (floor_of c) (ceiling_of c) (Some v) i.low range h
covers_reached c i (suc zero) v lt range h = high_back (floor_of c) (ceiling_of c) (Some v) i.high range h
covers_reached c i (suc (suc zero)) v lt range h = low_back (floor_of c) (ceiling_of c) (Some v) i.low range h
covers_reached c i (suc (suc (suc zero))) v lt range h = high_back (floor_of c) (ceiling_of c) (Some v) i.high range h
covers_reached c i (suc (suc (suc (suc k)))) v lt range h = absurd (omega arith)
