-- The laws of `gives` in the reach form.
use Rattle.std.proofs.Common.{◌≡◌, ℕ, ◌%◌, ◌<◌, ◌≤◌, Bool, true, false, cond, arith, refl, ap, le_trans, List}
use Rattle.std.proofs.lemmas.Bool.Decides.{nat_tests}
use Rattle.std.specs.Prelude.{ℤ, ◌==◌, ◌||◌}
use Rattle.cvc_base.specs.declared.device.Kind.{Kind}
use Rattle.cvc_base.specs.declared.device.Kind.TheVariants.{Nmos, Pmos, Resistor, Diode, Capacitor, Inductor, Bipolar}
use Rattle.cvc_base.specs.declared.device.Volts.{Volts}
use Rattle.cvc_law.specs.declared.device.Device.{Device}
use Rattle.cvc_law.specs.Network.{Network}
use Rattle.cvc_law.specs.Reach.{widest, hands_on, limited_by, moved_in, reach_given, needs, needed_reads, reach_reads, read_place}
use Rattle.cvc_law.specs.ReachLeast.{IsReachWithin}
use Rattle.cvc_law.proofs.ReachSpans.{moved_in-le, if_on-le, if_on_own}

-- an order that holds in each case
both : (b : Bool) (x x' y y' : ℕ) → x ≤ x' → y ≤ y' → cond b x y ≤ cond b x' y'
both true x x' y y' h g = h
both false x x' y y' h g = g

at_most : (b : Bool) (x y z : ℕ) → x ≤ z → y ≤ z → cond b x y ≤ z
at_most true x y z h g = h
at_most false x y z h g = g

module _ (v : Volts) (room : ℕ) where
  limited_by-le : (t : ℤ) (x y x' y' : ℕ) → x ≤ x' → y ≤ y' → limited_by t x y ≤ limited_by t x' y'
  limited_by-le t x y x' y' h g = let more : moved_in t y ≤ moved_in t y' = moved_in-le t y y' g in omega arith

  hands_on-le : (kind : Kind) (k : ℕ) (r s : ℕ → ℕ) → ((i : ℕ) → r i ≤ s i) → hands_on kind v room k r ≤ hands_on kind v room k s
  hands_on-le Resistor k r s h = h k
  hands_on-le Inductor k r s h = h k
  hands_on-le Capacitor k r s h = omega arith
  hands_on-le Bipolar k r s h = omega arith
  hands_on-le Nmos k r s h = both (k % 2 == 0) _ _ _ _ (if_on-le room v.threshold (r k) (r 5) (s k) (s 5) (h k) (h 5)) (limited_by-le v.threshold (r k) (r 5) (s k) (s 5) (h k) (h 5))
  hands_on-le Pmos k r s h = both (k % 2 == 0) _ _ _ _ (limited_by-le v.threshold (r k) (r 4) (s k) (s 4) (h k) (h 4)) (if_on-le room v.threshold (r k) (r 4) (s k) (s 4) (h k) (h 4))
  hands_on-le Diode k r s h = both ((k == 1) || (k == 2)) _ _ 0 0 (limited_by-le v.drop (r k) (r k) (s k) (s k) (h k) (h k)) (omega arith)

  hands_on_own : (kind : Kind) (k : ℕ) (r : ℕ → ℕ) → hands_on kind v room k r ≤ r k
  hands_on_own Resistor k r = omega arith
  hands_on_own Inductor k r = omega arith
  hands_on_own Capacitor k r = omega arith
  hands_on_own Bipolar k r = omega arith
  hands_on_own Nmos k r = at_most (k % 2 == 0) _ _ (r k) (if_on_own room v.threshold (r k) (r 5)) (omega arith)
  hands_on_own Pmos k r = at_most (k % 2 == 0) _ _ (r k) (omega arith) (if_on_own room v.threshold (r k) (r 4))
  hands_on_own Diode k r = at_most ((k == 1) || (k == 2)) _ 0 (r k) (omega arith) (omega arith)

  hands_on_needed : (kind : Kind) (k : ℕ) (r s : ℕ → ℕ) → k < 4 → ((i : ℕ) → needs kind i ≡ true → r i ≡ s i) → hands_on kind v room k r ≡ hands_on kind v room k s
  hands_on_needed Resistor k r s lt h = h k (grind (arith, nat_tests))
  hands_on_needed Inductor k r s lt h = h k (grind (arith, nat_tests))
  hands_on_needed Capacitor k r s lt h = refl
  hands_on_needed Bipolar k r s lt h = refl
  hands_on_needed Nmos k r s lt h = let own : r k ≡ s k = h k (grind (arith, nat_tests)) in let gate : r 5 ≡ s 5 = h 5 refl in rw (own, gate)
  hands_on_needed Pmos k r s lt h = let own : r k ≡ s k = h k (grind (arith, nat_tests)) in let gate : r 4 ≡ s 4 = h 4 refl in rw (own, gate)
  hands_on_needed Diode k r s lt h = let own : r k ≡ s k = h k (grind (arith, nat_tests)) in rw own

-- wider reads give as much or more
pub gives-le : (c : Network) (d : Device) (k : ℕ) (r s : ℕ → ℕ) → ((i : ℕ) → r i ≤ s i) → reach_given c d k r ≤ reach_given c d k s
unfolding reach_given
gives-le c d k r s h = hands_on-le d.volts (widest c) d.kind k r s h

-- a slot hands on no more than its own read has
pub gives_own : (c : Network) (d : Device) (k : ℕ) (r : ℕ → ℕ) → reach_given c d k r ≤ r k
unfolding reach_given
gives_own c d k r = hands_on_own d.volts (widest c) d.kind k r

pub gives_in_range : (c : Network) (d : Device) (k : ℕ) (r : ℕ → ℕ) → r k ≤ widest c → reach_given c d k r ≤ widest c
gives_in_range c d k r h = le_trans (gives_own c d k r) h

-- equal reads give equal values
pub gives_same : (c : Network) (d : Device) (k : ℕ) (r s : ℕ → ℕ) → ((i : ℕ) → r i ≡ s i) → reach_given c d k r ≡ reach_given c d k s
gives_same c d k r s h = ap (reach_given c d k) (λ j i. h i j)

-- a slot reads the needed reads alone
pub gives_needed : (c : Network) (d : Device) (k : ℕ) (r s : ℕ → ℕ) → k < 4 → ((i : ℕ) → needs d.kind i ≡ true → r i ≡ s i) → reach_given c d k r ≡ reach_given c d k s
unfolding reach_given
gives_needed c d k r s lt h = hands_on_needed d.volts (widest c) d.kind k r s lt h

pub gives_needed_reads : (c : Network) (d : Device) (k : ℕ) (r : ℕ → ℕ) → k < 4 → reach_given c d k (needed_reads d.kind r) ≡ reach_given c d k r
gives_needed_reads c d k r lt = gives_needed c d k (needed_reads d.kind r) r lt (λ i e. ap (λ b. cond b (r i) 0) e)

-- what a device gives on a family is no more than what it gives on one that the family is within
pub gives_within : (c : Network) (f g : List ℕ) (d : Device) (k : ℕ) → IsReachWithin f g → reach_given c d k (reach_reads f d) ≤ reach_given c d k (reach_reads g d)
gives_within c f g d k within = gives-le c d k (reach_reads f d) (reach_reads g d) (λ i. within (read_place d i))
