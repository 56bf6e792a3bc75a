-- A leak at a greater threshold is one at a lesser threshold, and only a MOS leaks.
use Rattle.std.proofs.Common.{◌≡◌, ℕ, ℤ, ◌+ℤ◌, ◌-ℤ◌, ◌≤ℤ◌, Bool, true, false, ◌&&◌, Some, None, if◌then◌else◌, List, refl, arith, rules}
use Rattle.std.specs.Prelude.{Option, int_lt, IsSome, slice_get}
use Rattle.std.specs.Ordering.{int_eq}
use Rattle.std.proofs.lemmas.Int.{ints}
use Rattle.cvc_base.specs.declared.device.Kind.{Kind}
use Rattle.cvc_base.specs.declared.device.Kind.TheVariants.{Nmos, Pmos, Resistor, Diode, Capacitor, Inductor, Bipolar}
use Rattle.cvc_base.specs.declared.rule.Rule.{Rule}
use Rattle.cvc_base.specs.declared.rule.Rule.TheVariants.{PossibleLeak, SureLeak}
use Rattle.cvc_law.specs.declared.device.Device.{Device}
use Rattle.cvc_law.specs.declared.interval.Interval.{Interval}
use Rattle.cvc_law.specs.Network.{Network, IsCircuit, is_mos, gate, end_a, end_b}
use Rattle.cvc_law.specs.Family.{interval_at}
use Rattle.cvc_law.specs.Rules.{Numbers, differ, stays_on, leak_of, leak_at, lesser_of, greater_of, possible_leak, sure_leak, finding_at, finding_with, numbers_at}

and_false : {A : Type 0} (p q : Bool) (x : A) → (if p && q && false then Some x else None) ≡ None
and_false true true x = refl
and_false true false x = refl
and_false false true x = refl
and_false false false x = refl

off : (k : Kind) (t gl gh cl ch : ℤ) → is_mos k ≡ false → stays_on k t gl gh cl ch ≡ false
off Nmos t gl gh cl ch e = search rules
off Pmos t gl gh cl ch e = search rules
off Resistor t gl gh cl ch e = refl
off Diode t gl gh cl ch e = refl
off Capacitor t gl gh cl ch e = refl
off Inductor t gl gh cl ch e = refl
off Bipolar t gl gh cl ch e = refl

only_mos : (k : Kind) (t : ℤ) (gl gh cl ch : Option ℤ) → is_mos k ≡ false → leak_of k t gl gh cl ch ≡ None
only_mos k t None gh cl ch e = refl
only_mos k t (Some gl) None cl ch e = refl
only_mos k t (Some gl) (Some gh) None ch e = refl
only_mos k t (Some gl) (Some gh) (Some cl) None e = refl
only_mos k t (Some gl) (Some gh) (Some cl) (Some ch) e =
    rw (off k t gl gh cl ch e) (and_false (differ (Some gl) (Some gh)) (differ (Some cl) (Some ch)) _)

pub only_mos_leaks : (d : Device) (t : ℤ) (gate drain source : Interval) → is_mos d.kind ≡ false → leak_at d t gate drain source ≡ None
only_mos_leaks d t gate drain source e =
    only_mos d.kind t gate.low gate.high (lesser_of drain.low source.low) (greater_of drain.high source.high) e

-- a test that follows another keeps what is found
kept : {A : Type 0} (p q s t : Bool) (x : A) → (s ≡ true → t ≡ true) → IsSome (if p && q && s then Some x else None) → IsSome (if p && q && t then Some x else None)
kept true true true t x follows found = rw (follows refl) found
kept true true false t x follows found = search rules
kept true false s t x follows found = found
kept false q s t x follows found = found

below : (a b c : ℤ) → b ≤ℤ c → int_lt a b ≡ true → int_lt a c ≡ true
below a b c le h = grind (arith, ints)

above : (a b c : ℤ) → b ≤ℤ a → int_lt a c ≡ true → int_lt b c ≡ true
above a b c le h = grind (arith, ints)

stays_on-weaker : (k : Kind) (t w gl gh cl ch : ℤ) → t ≤ℤ w → stays_on k w gl gh cl ch ≡ true → stays_on k t gl gh cl ch ≡ true
stays_on-weaker Nmos t w gl gh cl ch le h = below cl (gl -ℤ w) (gl -ℤ t) (omega (arith, ints, le)) h
stays_on-weaker Pmos t w gl gh cl ch le h = above (gh +ℤ w) (gh +ℤ t) ch (omega (arith, ints, le)) h
stays_on-weaker Resistor t w gl gh cl ch le h = h
stays_on-weaker Diode t w gl gh cl ch le h = h
stays_on-weaker Capacitor t w gl gh cl ch le h = h
stays_on-weaker Inductor t w gl gh cl ch le h = h
stays_on-weaker Bipolar t w gl gh cl ch le h = h

leak_of-weaker : (k : Kind) (t w : ℤ) (gl gh cl ch : Option ℤ) → t ≤ℤ w → IsSome (leak_of k w gl gh cl ch) → IsSome (leak_of k t gl gh cl ch)
leak_of-weaker k t w None gh cl ch le found = found
leak_of-weaker k t w (Some gl) None cl ch le found = found
leak_of-weaker k t w (Some gl) (Some gh) None ch le found = found
leak_of-weaker k t w (Some gl) (Some gh) (Some cl) None le found = found
leak_of-weaker k t w (Some gl) (Some gh) (Some cl) (Some ch) le found =
    kept (differ (Some gl) (Some gh)) (differ (Some cl) (Some ch)) (stays_on k w gl gh cl ch) (stays_on k t gl gh cl ch) _ (stays_on-weaker k t w gl gh cl ch le) found

unless : {A : Type 0} (b : Bool) (o : Option A) → IsSome (if b then None else o) → IsSome o
unless true o found = search rules
unless false o found = found

-- a sure leak is a possible leak
pub sure_is_possible : (d : Device) (gate drain source : Interval) → d.volts.threshold ≤ℤ d.volts.weak → IsSome (sure_leak d gate drain source) → IsSome (possible_leak d gate drain source)
sure_is_possible d gate drain source le found =
    leak_of-weaker d.kind d.volts.threshold d.volts.weak gate.low gate.high (lesser_of drain.low source.low) (greater_of drain.high source.high) le (unless (int_eq d.volts.threshold d.volts.weak) (leak_at d d.volts.weak gate drain source) found)

same_finding : (rule : Rule) (i : ℕ) (o : Option Numbers) → IsSome (finding_with rule i o) → IsSome o
same_finding rule i None found = found
same_finding rule i (Some n) found = refl

its_finding : (rule : Rule) (i : ℕ) (o : Option Numbers) → IsSome o → IsSome (finding_with rule i o)
its_finding rule i None found = found
its_finding rule i (Some n) found = refl

at_place : (c : Network) (f : List Interval) (i : ℕ) (place : Option Device) → ((d : Device) → place ≡ Some d → d.volts.threshold ≤ℤ d.volts.weak) → IsSome (numbers_at c f SureLeak place) → IsSome (numbers_at c f PossibleLeak place)
at_place c f i None corners found = found
at_place c f i (Some d) corners found = sure_is_possible d (interval_at f (gate d)) (interval_at f (end_a d)) (interval_at f (end_b d)) (corners d refl) found

pub sure_is_possible_at : (c : Network) (f : List Interval) (i : ℕ) → IsCircuit c.fixed c.devices → IsSome (finding_at c f SureLeak i) → IsSome (finding_at c f PossibleLeak i)
sure_is_possible_at c f i circuit found =
    its_finding PossibleLeak i (numbers_at c f PossibleLeak (slice_get c.devices i)) (at_place c f i (slice_get c.devices i) (λ d at. (circuit.sound i d at).corners) (same_finding SureLeak i (numbers_at c f SureLeak (slice_get c.devices i)) found))
