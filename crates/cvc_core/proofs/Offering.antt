-- What a slot gives in millivolts on the reads of a run has the reach that the reach form gives.
use Rattle.std.proofs.Common.{◌≡◌, ◌≢◌, ℕ, ◌%◌, ◌<◌, arith, sym, ap, subst, ◌∙◌}
use Rattle.std.specs.Prelude.{ℤ, ◌≤ℤ◌, Option, None, Some, IfSome, IsSomeAnd}
use Rattle.cvc_law.specs.declared.device.Device.{Device}
use Rattle.cvc_law.specs.declared.interval.Reads.{Reads}
use Rattle.cvc_law.specs.Network.{Network, floor_of, ceiling_of}
use Rattle.cvc_law.specs.Conduction.{given}
use Rattle.cvc_law.specs.Reach.{low_reach, high_reach, reach_of, bound_of}
use Rattle.cvc_law.proofs.ReachConduct.{given_in_range}
use Rattle.cvc_law.proofs.ReachBoth.{reach_of_given, given_of_reach}
use Rattle.cvc_law.proofs.ReachPlaces.{device_sound}
use Rattle.cvc_core.specs.declared.actor.Run.{Run}
use Rattle.cvc_core.specs.State.{held, device_of, offer}
use Rattle.cvc_core.specs.Store.{IsReady, held_reads}
use Rattle.cvc_core.specs.Scale.{LiesBetween}

module _ (c : Network) (r : Run) (ready : IsReady c r) where
  pub offer_is : (k : ℕ) → k < 4 → offer c r k ≡ reach_of c (k % 2) (given c (device_of c r) k (held_reads c r))
  offer_is k lt = reach_of_given c (held r) ready.in_range (device_of c r) k lt (device_sound c ready.circuit r.device.0 ready.run.device).drop

  -- in millivolts it is the bound of what the slot gives as a reach
  pub value_is : (k : ℕ) → k < 4 → given c (device_of c r) k (held_reads c r) ≡ bound_of c (k % 2) (offer c r k)
  value_is k lt = given_of_reach c (held r) ready.in_range (device_of c r) k lt (device_sound c ready.circuit r.device.0 ready.run.device).drop

  pub low_offer : (k x : ℕ) (o ceiling : Option ℤ) → k < 4 → k % 2 ≡ 0 → ceiling ≡ ceiling_of c → o ≡ given c (device_of c r) k (held_reads c r) → x ≡ low_reach ceiling o → x ≡ offer c r k
  low_offer k x o ceiling lt even top is e = e ∙ (ap (λ (z : Option ℤ). low_reach z o) top ∙ (ap (low_reach (ceiling_of c)) is ∙ (ap (λ (s : ℕ). reach_of c s (given c (device_of c r) k (held_reads c r))) (sym even) ∙ sym (offer_is k lt))))

  pub high_offer : (k x : ℕ) (o floor : Option ℤ) → k < 4 → k % 2 ≢ 0 → floor ≡ floor_of c → o ≡ given c (device_of c r) k (held_reads c r) → x ≡ high_reach floor o → x ≡ offer c r k
  high_offer k x o floor lt odd bottom is e = let one : 1 ≡ k % 2 = omega arith in
      e ∙ (ap (λ (z : Option ℤ). high_reach z o) bottom ∙ (ap (high_reach (floor_of c)) is ∙ (ap (λ (s : ℕ). reach_of c s (given c (device_of c r) k (held_reads c r))) one ∙ sym (offer_is k lt))))

-- what a slot gives lies from the floor to the ceiling
pub given_between : (c : Network) (d : Device) (k : ℕ) (r : Reads) (o floor ceiling : Option ℤ) → floor ≡ floor_of c → ceiling ≡ ceiling_of c → o ≡ given c d k r → IfSome o (LiesBetween floor ceiling)
given_between c d k r None floor ceiling f g is = tt
given_between c d k r (Some v) floor ceiling f g is = let range = given_in_range c d k r v (sym is) in
    (subst (λ (z : Option ℤ). IsSomeAnd z (λ y. y ≤ℤ v)) (sym f) range.0, subst (λ (z : Option ℤ). IsSomeAnd z (λ y. v ≤ℤ y)) (sym g) range.1)
