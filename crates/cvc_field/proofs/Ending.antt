-- The family of a closed field.
use Rattle.std.proofs.Common.{◌≡◌, ℕ, zero, suc, ◌+◌, ◌*◌, ◌/◌, ◌%◌, ◌<◌, ◌≤◌, Option, Some, None, true, false, List, [], ◌∷◌, length, slice_index, arith, ap, refl, sym, subst, ◌∙◌}
use Rattle.std.specs.Prelude.{ℤ}
use mathlib.Core.Option.{some, some-injective, some-ne-none}
use lib.ListN.{get_elem?}
use Rattle.atomic_table.specs.Table.{State, Me, Final, Seen}
use Rattle.cvc_base.specs.declared.ids.Side.{Side}
use Rattle.cvc_base.specs.declared.ids.Side.TheVariants.{Low, High}
use Rattle.cvc_law.specs.declared.interval.Interval.{Interval}
use Rattle.cvc_law.specs.Network.{Network, nets, is_declared, floor_of, ceiling_of}
use Rattle.cvc_law.specs.Family.{interval_at, IsFamily, IsWithin}
use Rattle.cvc_law.specs.Least.{IsClosed, IsLeast}
use Rattle.cvc_law.specs.Reach.{width, bound_on, bound_of, reach_of, low_of, high_of, low_reach, is_declared_bound}
use Rattle.cvc_law.specs.ReachLeast.{intervals}
use Rattle.cvc_law.specs.ReachWord.{word_of, bound_in}
use Rattle.cvc_law.proofs.ReachValues.{low_of_reach, high_of_reach}
use Rattle.cvc_law.proofs.ReachAgree.{interval_of}
use Rattle.cvc_law.proofs.ReachWords.{bound_in_word}
use Rattle.cvc_core.specs.State.{Machine, BoundWord}
use Rattle.cvc_core.proofs.Quiet.{quiet-least_intervals}
use Rattle.cvc_core.proofs.InMillivolts.{sound_family, sound_within}
use Rattle.cvc_field.specs.declared.view.View.{View}
use Rattle.cvc_field.specs.Words.{intervals_from, last_intervals, IsStoredWord}
use Rattle.cvc_field.specs.History.{trail_in}
use Rattle.cvc_field.specs.Trail.{is_quiet, gave}
use Rattle.cvc_field.specs.Field.{ViewFits, IsSoundField}
use Rattle.cvc_field.specs.Hands.{HandView, idle_view}
use Rattle.cvc_field.specs.Seats.{side_number, bound_index}
use Rattle.cvc_field.specs.Closings.{HasHistory}
use Rattle.cvc_field.proofs.Bounds.{within_words}
use Rattle.cvc_field.proofs.Stepping.{bound_word}

-- ---- the intervals that words tell
pub interval_from : (n i k : ℕ) (ws : List ℕ) → k < n → interval_at (intervals_from n i ws) k ≡ record { low = bound_in 0 (slice_index ws (1 + 2 * (i + k))); high = bound_in 1 (slice_index ws (2 + 2 * (i + k))) }
interval_from zero i k ws lt = absurd (omega arith)
interval_from (suc n) i zero ws lt = let same : i + 0 ≡ i = omega arith in rw same refl
interval_from (suc n) i (suc k) ws lt = let next : i + suc k ≡ i + 1 + k = omega arith in rw next (interval_from n (i + 1) k ws (omega arith))

pub elem_index : (l : List ℕ) (i a : ℕ) → get_elem? l i ≡ some a → slice_index l i ≡ a
elem_index [] i a e = absurd (some-ne-none a (sym e))
elem_index (x ∷ xs) zero a e = some-injective x a e
elem_index (x ∷ xs) (suc i) a e = elem_index xs i a e

-- the bound that a word tells is that of the net's interval
pub told_bound : (m n : ℕ) (side : Side) (ws : List ℕ) (b w : ℕ) → n < m → b ≡ bound_index n side → slice_index ws (1 + b) ≡ w → bound_in (b % 2) w ≡ bound_on (side_number side) (interval_at (last_intervals m ws) n)
told_bound m n Low ws b w lt is at = let even : b % 2 ≡ 0 = omega arith in let there : 1 + b ≡ 1 + 2 * (0 + n) = omega arith in
    (λ k. bound_in (even k) (sym at k)) ∙ (ap (λ (j : ℕ). bound_in 0 (slice_index ws j)) there ∙ sym (ap (λ (i : Interval). i.low) (interval_from m 0 n ws lt)))
told_bound m n High ws b w lt is at = let odd : b % 2 ≡ 1 = omega arith in let there : 1 + b ≡ 2 + 2 * (0 + n) = omega arith in
    (λ k. bound_in (odd k) (sym at k)) ∙ (ap (λ (j : ℕ). bound_in 1 (slice_index ws j)) there ∙ sym (ap (λ (i : Interval). i.high) (interval_from m 0 n ws lt)))

intervals_agree : (c : Network) (n i : ℕ) (ws f : List ℕ) → length f ≡ 2 * n → ((b : ℕ) → b < 2 * n → bound_in (b % 2) (slice_index ws (1 + 2 * i + b)) ≡ bound_of c (b % 2) (slice_index f b)) → intervals_from n i ws ≡ intervals c f
intervals_agree c zero i ws [] long h = refl
intervals_agree c zero i ws (x ∷ f) long h = absurd (omega arith)
intervals_agree c (suc n) i ws [] long h = absurd (omega arith)
intervals_agree c (suc n) i ws (x ∷ []) long h = absurd (omega arith)
intervals_agree c (suc n) i ws (x ∷ y ∷ f) long h =
    let rest : intervals_from n (i + 1) ws ≡ intervals c f = intervals_agree c n (i + 1) ws f (omega arith) (λ b lt. let at : 1 + 2 * (i + 1) + b ≡ 1 + 2 * i + suc (suc b) = omega arith in let side : b % 2 ≡ suc (suc b) % 2 = omega arith in
    (λ k. bound_in (side k) (slice_index ws (at k))) ∙ (h (suc (suc b)) (omega arith) ∙ ap (λ (s : ℕ). bound_of c s (slice_index f b)) (sym side))) in
    λ k. record { low = low_is k; high = high_is k } ∷ rest k where
      low_is : bound_in 0 (slice_index ws (1 + 2 * i)) ≡ bound_of c 0 x
      low_is = let at : 1 + 2 * i + 0 ≡ 1 + 2 * i = omega arith in ap (λ (j : ℕ). bound_in 0 (slice_index ws j)) (sym at) ∙ h 0 (omega arith)

      high_is : bound_in 1 (slice_index ws (2 + 2 * i)) ≡ bound_of c 1 y
      high_is = let at : 1 + 2 * i + 1 ≡ 2 + 2 * i = omega arith in ap (λ (j : ℕ). bound_in 1 (slice_index ws j)) (sym at) ∙ h 1 (omega arith)

-- ---- a known bound
no_low : (ce : Option ℤ) (v : ℤ) → low_of ce 0 ≡ Some v → ⊥
no_low None v e = cc
no_low (Some x) v e = cc

no_high : (fl : Option ℤ) (v : ℤ) → high_of fl 0 ≡ Some v → ⊥
no_high None v e = cc
no_high (Some x) v e = cc

known_reach : (c : Network) (side x : ℕ) (v : ℤ) → bound_of c side x ≡ Some v → 0 < x
known_reach c zero zero v e = absurd (no_low (ceiling_of c) v e)
known_reach c (suc n) zero v e = absurd (no_high (floor_of c) v e)
known_reach c side (suc x) v e = omega arith

reach_back : (c : Network) (side x : ℕ) (o : Option ℤ) → x ≤ low_reach (ceiling_of c) (floor_of c) → bound_of c side x ≡ o → reach_of c side o ≡ x
reach_back c zero x o le e = ap (λ (z : Option ℤ). reach_of c 0 z) (sym e) ∙ low_of_reach (floor_of c) (ceiling_of c) x le
reach_back c (suc n) x o le e = ap (λ (z : Option ℤ). reach_of c 1 z) (sym e) ∙ high_of_reach (floor_of c) (ceiling_of c) x le

pub side_few : (side : Side) → side_number side < 2
side_few Low = omega arith
side_few High = omega arith

bound_side : (c : Network) (s : ℕ) (x y z : ℕ) → s < 2 → (s ≡ 0 → z ≡ x) → (s ≡ 1 → z ≡ y) → bound_on s record { low = bound_of c 0 x; high = bound_of c 1 y } ≡ bound_of c s z
bound_side c zero x y z lt low high = ap (bound_of c 0) (sym (low refl))
bound_side c (suc zero) x y z lt low high = ap (bound_of c 1) (sym (high refl))
bound_side c (suc (suc s)) x y z lt low high = absurd (omega arith)

module _ (c : Network) (hands id : ℕ) (v : View) (ws : List ℕ) (xs : List (Unit {0})) (final : Final (Seen (IsSoundField c hands) id v) ws xs) (live : v.spent ≡ false) (first : v.first ≡ 0) (whole : v.numbers ≡ hands) where
  abbrev s : State (Unit {0}) View
  s = final.0

  abbrev h : IsSoundField c hands s
  h = final.1.0

  at : get_elem? s.views id ≡ some v
  at = final.1.1

  fit : ViewFits c hands h.machine (trail_in c hands h.history) h.owner id v
  fit = h.each id v at live

  abbrev bounds : List ℕ
  bounds = h.machine.bounds

  word_there : (b : ℕ) → b < width c → slice_index ws (1 + b) ≡ word_of c (b % 2) (slice_index bounds b)
  word_there b lt = ap (λ (w : List ℕ). slice_index w (1 + b)) (sym final.2) ∙ h.word_is (BoundWord b) lt

  bound_there : (b : ℕ) → b < width c → bound_in (b % 2) (slice_index ws (1 + b)) ≡ bound_of c (b % 2) (slice_index bounds b)
  bound_there b lt = ap (bound_in (b % 2)) (word_there b lt) ∙ bound_in_word c h.range (b % 2) (slice_index bounds b) (omega arith) (h.sound.in_range.bounds.in_range b)

  family_is : last_intervals (nets c) ws ≡ intervals c bounds
  family_is = intervals_agree c (nets c) 0 ws bounds h.sound.in_range.bounds.every_bound (λ b lt. let same : 1 + 2 * 0 + b ≡ 1 + b = omega arith in ap (λ (j : ℕ). bound_in (b % 2) (slice_index ws j)) same ∙ bound_there b lt)

  pub last_stored : (b : ℕ) → b < 2 * nets c → IsStoredWord (b % 2) (slice_index ws (1 + b))
  last_stored b lt = subst (IsStoredWord (b % 2)) (sym (word_there b lt)) (within_words c (b % 2) (word_of c (b % 2) (slice_index bounds b)) (omega arith) (bound_word c h.machine h.range h.sound b))

  pub last_family : IsFamily c (last_intervals (nets c) ws)
  last_family = subst (IsFamily c) (sym family_is) (sound_family c h.machine h.sound)

  pub last_within : (f : List Interval) → IsFamily c f → IsClosed c f → IsWithin (last_intervals (nets c) ws) f
  last_within f is closed = subst (λ (z : List Interval). IsWithin z f) (sym family_is) (sound_within c h.machine f h.sound is closed)

  pub last_least : is_quiet v.trail ≡ true → IsLeast c (last_intervals (nets c) ws)
  last_least quiet = subst (IsLeast c) (sym family_is) (quiet-least_intervals c h.machine h.sound (fit.quiet quiet))

  pub last_history : HasHistory c hands v.trail (last_intervals (nets c) ws)
  last_history = (h.history, h.happened, subst (λ (k : ℕ). v.trail ≡ trail_in c hands h.history k) first fit.told, family_is ∙ ap (λ (m : Machine). intervals c m.bounds) h.replayed)

  gave_it : (b : ℕ) → is_declared_bound c b ≡ false → 0 < slice_index bounds b → gave b (slice_index bounds b) v.trail ≡ true
  gave_it b free known = let t = h.given b free known in let u = h.each t.0 t.1 t.2 t.3 in let some_u = u.some_number in let within_u = u.within in
      let one : t.0 ≡ id = sym (u.owns t.1.first (omega arith) (omega arith)) ∙ fit.owns t.1.first (omega arith) (omega arith) in
      let is : t.1 ≡ v = some-injective t.1 v (sym t.2 ∙ (ap (get_elem? s.views) one ∙ at)) in
      subst (λ (w : View). gave b (slice_index bounds b) w.trail ≡ true) is t.4

  pub last_given : (n : ℕ) (side : Side) (x : ℤ) → n < nets c → is_declared c n ≡ false → bound_on (side_number side) (interval_at (last_intervals (nets c) ws) n) ≡ Some x → gave (bound_index n side) (reach_of c (side_number side) (Some x)) v.trail ≡ true
  last_given n side x lt free e = let few = side_few side in let b : ℕ = bound_index n side in
      let at_b : bound_on (side_number side) (interval_at (intervals c bounds) n) ≡ bound_of c (side_number side) (slice_index bounds b) =
      ap (bound_on (side_number side)) (interval_of c bounds (nets c) n h.sound.in_range.bounds.every_bound)
      ∙ bound_side c (side_number side) (slice_index bounds (2 * n)) (slice_index bounds (2 * n + 1)) (slice_index bounds b) few (λ low. ap (slice_index bounds) (let same : b ≡ 2 * n = omega arith in same)) (λ high. ap (slice_index bounds) (let same : b ≡ 2 * n + 1 = omega arith in same)) in
      let value : bound_of c (side_number side) (slice_index bounds b) ≡ Some x = sym at_b ∙ (ap (λ (z : List Interval). bound_on (side_number side) (interval_at z n)) (sym family_is) ∙ e) in
      let net : b / 2 ≡ n = omega arith in
      subst (λ (y : ℕ). gave b y v.trail ≡ true) (sym (reach_back c (side_number side) (slice_index bounds b) (Some x) (h.sound.in_range.bounds.in_range b) value))
      (gave_it b (ap (is_declared c) net ∙ free) (known_reach c (side_number side) (slice_index bounds b) x value))

-- ---- the same, of a hand whose seat was given back
module _ (key c : Network) (hands id : ℕ) (me : Me (Unit {0}) View) (hand : HandView) (ws : List ℕ) (xs : List (Unit {0})) (about : key ≡ c) (is : me ≡ (idle_view hand, [])) (first : hand.first ≡ 0) (whole : hand.numbers ≡ hands)
    (final : Final (Seen (IsSoundField key hands) id me.0) ws xs) where
  final' : Final (Seen (IsSoundField c hands) id (idle_view hand)) ws xs
  final' = subst (λ (z : Network × View). Final (Seen (IsSoundField z.0 hands) id z.1) ws xs) (λ k. (about k, (is k).0)) final

  pub hand_stored : (b : ℕ) → b < 2 * nets c → IsStoredWord (b % 2) (slice_index ws (1 + b))
  hand_stored = last_stored c hands id (idle_view hand) ws xs final' refl first whole

  pub hand_family : IsFamily c (last_intervals (nets c) ws)
  hand_family = last_family c hands id (idle_view hand) ws xs final' refl first whole

  pub hand_within : (f : List Interval) → IsFamily c f → IsClosed c f → IsWithin (last_intervals (nets c) ws) f
  hand_within = last_within c hands id (idle_view hand) ws xs final' refl first whole

  pub hand_least : is_quiet hand.trail ≡ true → IsLeast c (last_intervals (nets c) ws)
  hand_least = last_least c hands id (idle_view hand) ws xs final' refl first whole

  pub hand_given : (n : ℕ) (side : Side) (x : ℤ) → n < nets c → is_declared c n ≡ false → bound_on (side_number side) (interval_at (last_intervals (nets c) ws) n) ≡ Some x → gave (bound_index n side) (reach_of c (side_number side) (Some x)) hand.trail ≡ true
  hand_given = last_given c hands id (idle_view hand) ws xs final' refl first whole

  pub hand_history : HasHistory c hand.numbers hand.trail (last_intervals (nets c) ws)
  hand_history = subst (λ (n : ℕ). HasHistory c n hand.trail (last_intervals (nets c) ws)) (sym whole) (last_history c hands id (idle_view hand) ws xs final' refl first whole)
