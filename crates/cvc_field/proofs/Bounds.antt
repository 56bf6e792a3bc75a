-- Words that store bounds, and the bounds that they store.
use Rattle.std.proofs.Common.{◌≡◌, ◌≢◌, ℕ, zero, suc, ◌<◌, ◌≤◌, ◌%◌, ◌/◌, List, Option, arith, ⊎_elim, ap, sym, subst, ◌∙◌}
use Rattle.std.specs.Prelude.{ℤ, IfSome}
use Rattle.cvc_base.specs.declared.ids.Side.{Side}
use Rattle.cvc_base.specs.declared.ids.Side.TheVariants.{Low, High}
use Rattle.cvc_law.specs.declared.interval.Interval.{Interval}
use Rattle.cvc_law.specs.Family.{interval_at, IsFamily, IsInRange}
use Rattle.cvc_law.specs.Least.{IsClosed}
use Rattle.cvc_law.specs.ReachLeast.{reaches}
use Rattle.cvc_law.proofs.ReachFamilies.{reach_at, family_reaches}
use Rattle.cvc_law.proofs.ReachAgree.{closed_reaches}
use Rattle.cvc_law.proofs.ReachValues.{low_back, high_back, low_of_reach, high_of_reach, low_of_between, high_of_between}
use Rattle.cvc_law.specs.Network.{Network, IsCircuit, floor_of, ceiling_of}
use Rattle.cvc_law.specs.Reach.{bound_of, bound_on, reach_on, widest, low_of, high_of, low_reach, high_reach}
use Rattle.cvc_law.specs.ReachWord.{unknown_word, bound_in, reach_in}
use Rattle.cvc_law.proofs.ReachWords.{bound_in_word}
use Rattle.cvc_law.proofs.WordOrder.{IsKnownWord, word_known}
use Rattle.cvc_field.specs.Views.{IsBoundWord}
use Rattle.cvc_field.specs.Trail.{WithinClosed}
use Rattle.cvc_field.specs.Seats.{side_number, bound_index, IsBoundWithin}

module _ (c : Network) where
  is_known_word : (side w : ℕ) → side < 2 → IsBoundWord c side w → IsKnownWord side w
  is_known_word side w lt h = subst (IsKnownWord side) h.back (word_known c side (reach_in c side w) h.range lt h.reach)

  -- the bound that a word stores is that of its reach
  pub bound_of_word : (side w : ℕ) → side < 2 → IsBoundWord c side w → bound_in side w ≡ bound_of c side (reach_in c side w)
  bound_of_word side w lt h = ap (bound_in side) (sym h.back) ∙ bound_in_word c h.range side (reach_in c side w) lt h.reach

  -- a word that isn't the unknown one
  pub within_words : (side w : ℕ) → side < 2 → IsBoundWord c side w → w ≢ unknown_word side → (1 ≤ w) × (w ≤ 2000001)
  within_words side w lt h apart = ⊎_elim (λ (e : w ≡ unknown_word side). absurd (apart e)) (λ (t : (1 ≤ w) × (w ≤ 2000001)). t) (is_known_word side w lt h)

known_in_range : (c : Network) (side x : ℕ) → x ≤ widest c → IfSome (bound_of c side x) (IsInRange c)
known_in_range c zero x most = low_of_between (floor_of c) (ceiling_of c) x most
known_in_range c (suc n) x most = high_of_between (floor_of c) (ceiling_of c) x most

reach_within : (c : Network) (side : Side) (x : ℕ) (i : Interval) → x ≤ widest c → x ≤ reach_on c (side_number side) i → IsBoundWithin side (bound_of c (side_number side) x) (bound_on (side_number side) i)
reach_within c Low x i most le = low_back (floor_of c) (ceiling_of c) (low_of (ceiling_of c) x) i.low (low_of_between (floor_of c) (ceiling_of c) x most) (subst (λ (z : ℕ). z ≤ low_reach (ceiling_of c) i.low) (sym (low_of_reach (floor_of c) (ceiling_of c) x most)) le)
reach_within c High x i most le = high_back (floor_of c) (ceiling_of c) (high_of (floor_of c) x) i.high (high_of_between (floor_of c) (ceiling_of c) x most) (subst (λ (z : ℕ). z ≤ high_reach (floor_of c) i.high) (sym (high_of_reach (floor_of c) (ceiling_of c) x most)) le)

-- the bound of a net that a load finds
module _ (c : Network) (circuit : IsCircuit c.fixed c.devices) (n : ℕ) (side : Side) (b r : ℕ) (o : Option ℤ) (at : b ≡ bound_index n side) (s : b % 2 ≡ side_number side) (is : o ≡ bound_in (b % 2) r) (word : IsBoundWord c (b % 2) r) where
  value : o ≡ bound_of c (side_number side) (reach_in c (b % 2) r)
  value = is ∙ (bound_of_word c (b % 2) r (omega arith) word ∙ ap (λ (z : ℕ). bound_of c z (reach_in c (b % 2) r)) s)

  pub read_known : IfSome o (IsInRange c)
  read_known = subst (λ (z : Option ℤ). IfSome z (IsInRange c)) (sym value) (known_in_range c (side_number side) (reach_in c (b % 2) r) word.reach)

  pub read_within : WithinClosed c b (reach_in c (b % 2) r) → (f : List Interval) → IsFamily c f → IsClosed c f → IsBoundWithin side o (bound_on (side_number side) (interval_at f n))
  read_within within f family closed = let net : b / 2 ≡ n = omega arith in let le = within (reaches c f) (family_reaches c f family) (closed_reaches c circuit f family closed) in
      subst (λ (z : Option ℤ). IsBoundWithin side z (bound_on (side_number side) (interval_at f n))) (sym value) (reach_within c side (reach_in c (b % 2) r) (interval_at f n) word.reach
      (subst (λ (z : ℕ × ℕ). reach_in c (b % 2) r ≤ reach_on c z.0 (interval_at f z.1)) (λ k. (s k, net k)) (subst (λ (y : ℕ). reach_in c (b % 2) r ≤ y) (reach_at c f b) le)))
