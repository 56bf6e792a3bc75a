-- A step that widens a bound keeps a state sound: each device either doesn't read the net, or is owed from now on.
use Rattle.std.proofs.Common.{◌≡◌, ℕ, ◌/◌, ◌<◌, ◌≤◌, max, Bool, true, false, cond, nat_lt, List, length, set, Some, None, le_trans, arith, ap, refl, sym, subst, ◌∙◌, ◌⊎◌, inl, inr, ⊎_elim, length-set, get_or-set_same, lt-ltb, zero-le}
use Rattle.std.specs.Prelude.{slice_index}
use Rattle.std.proofs.lemmas.List.{set-get_or}
use mathlib.Core.Logic.{dite}
use native.Mathlib.Decide.{dec_lt}
use Rattle.cvc_law.specs.Network.{Network, devices, is_declared, touches}
use Rattle.cvc_law.specs.Conduction.{target}
use Rattle.cvc_law.specs.Reach.{widest, device_at, read_place, target_place, needs, reach_given, reach_reads}
use Rattle.cvc_law.specs.ReachLeast.{IsReachFamily, IsReachClosedAt, IsReachWithin}
use Rattle.cvc_law.proofs.ReachGiving.{gives-le, gives_in_range, gives_needed}
use Rattle.cvc_law.proofs.ReachFans.{fan_has, touches_given}
use Rattle.cvc_law.proofs.ReachPlaces.{device_sound, target_place_within}
use Rattle.cvc_law.proofs.ReachWidening.{set_wider, set_within, set_family, target_free, reads_apart}
use Rattle.cvc_core.specs.declared.actor.Debt.{Debt}
use Rattle.cvc_core.specs.declared.actor.Run.{Run}
use Rattle.cvc_core.specs.declared.actor.Actor.{Actor}
use Rattle.cvc_core.specs.declared.actor.Actor.TheVariants.{Running}
use Rattle.cvc_core.specs.declared.actor.Intent.TheVariants.{Widen}
use Rattle.cvc_core.specs.State.{Machine, actor_at, device_of, held, given_at, offer}
use Rattle.cvc_core.specs.Steps.{IsLoaded, IsUnsettled, widened, step_by}
use Rattle.cvc_core.specs.Sound.{IsRunOf, IsDebtOf, IsWithinClosed, IsOwedBy, ActorOwes, IsQueuedOrOwed, IsFresh, Sound}
use Rattle.cvc_core.proofs.Placing.{bool_cases, tested, given_set, owed_at}
use Rattle.cvc_core.proofs.Building.{fits_at, watched_at, credits_at, now, noted, steady}

module _ (c : Network) (s : Machine) (k : ℕ) (ok : Sound c s) (here : k < length s.actors) (j : ℕ) (r : Run) (e : actor_at s k ≡ Running r) (lt : j < 4) (full : IsLoaded c r) (none : r.owes ≡ None) (open_slot : IsUnsettled c r j) where
  abbrev d : ℕ
  d = r.device.0

  abbrev net : ℕ
  net = target (device_of c r) j

  abbrev b : ℕ
  b = target_place (device_of c r) j

  abbrev x : ℕ
  x = slice_index s.bounds b

  abbrev y : ℕ
  y = offer c r j

  abbrev f : List ℕ
  f = set s.bounds b (max x y)

  abbrev new_debt : Debt
  new_debt = record { net = record { 0 = net }; place = 0 }

  abbrev t : Machine
  t = record { bounds = f; marks = s.marks; count = s.count; actors = set s.actors k (Running (widened c j x r)) }

  free : is_declared c net ≡ false
  free = open_slot.2

  gives_something : 0 < y
  gives_something = open_slot.1

  inside : b < length s.bounds
  inside = let h = target_place_within c (device_of c r) (device_sound c ok.form.circuit d (fits_at c s k r ok e).run.device) j in let long = ok.in_range.bounds.every_bound in omega arith

  top : max x y ≤ widest c
  top = let own = gives_in_range c (device_of c r) j (held r) ((fits_at c s k r ok e).in_range j) in let old = ok.in_range.bounds.in_range b in omega arith

  family : IsReachFamily c f
  family = set_family c s.bounds b (max x y) inside (target_free c (device_of c r) j free) top ok.in_range.bounds

  more : IsReachWithin s.bounds f
  more = set_wider s.bounds b (max x y) inside (omega arith)

  least : IsWithinClosed c f
  least g is closed = set_within s.bounds b (max x y) g inside (ok.within g is closed)
      (let fit = fits_at c s k r ok e in let old = ok.within g is closed b in
      let wider : y ≤ reach_given c (device_of c r) j (reach_reads g (device_of c r)) = gives-le c (device_of c r) j (held r) (reach_reads g (device_of c r)) (λ i. le_trans (fit.within i) (ok.within g is closed (read_place (device_of c r) i))) in
      let covered : reach_given c (device_of c r) j (reach_reads g (device_of c r)) ≤ slice_index g b = closed d fit.run.device j lt free in omega arith)

  -- ---- the new debt
  slots : j < length r.given
  slots = let four = (fits_at c s k r ok e).run.four_slots in omega arith

  owes : (debt : Debt) → (widened c j x r).owes ≡ Some debt → IsDebtOf c (widened c j x r) debt
  owes debt is = tested (IsDebtOf c (widened c j x r)) (nat_lt x y) new_debt debt (λ _. record {
    undeclared = free;
    was_given = (j, get_or-set_same r.given j true false slots, refl);
    inside = let at = fan_has c net d (fits_at c s k r ok e).run.device (touches_given c (device_of c r) j (held r) gives_something) in let there = at.1 in omega arith;
  }) is

  at_k : actor_at t k ≡ Running (widened c j x r)
  at_k = now c s k ok here (Running r) (Running (widened c j x r)) e f s.marks s.count

  -- a device that reads the net is owed, if the bound changed
  owed : (i : ℕ) → i < devices c → x < y → touches net (device_at c i) ≡ true → IsQueuedOrOwed c t i
  owed i small less h = let p = fan_has c net i small h in let test : nat_lt x y ≡ true = lt-ltb x y less in
      let debt : IsOwedBy c (cond (nat_lt x y) (Some new_debt) None) i = subst (λ (z : Bool). IsOwedBy c (cond z (Some new_debt) None) i) (sym test) (p.0, zero-le, p.1, p.2) in
      inr (k, subst (λ (z : Actor). ActorOwes c z i) (sym at_k) debt)

  abbrev ReadsStay : ℕ → Type 0
  ReadsStay i = (q : ℕ) → needs (device_at c i).kind q ≡ true → reach_reads f (device_at c i) q ≡ reach_reads s.bounds (device_at c i) q

  apart : (i : ℕ) → touches net (device_at c i) ≡ false → ReadsStay i
  apart i off = let same : b / 2 ≡ net = omega arith in reads_apart s.bounds (device_at c i) b (max x y) (ap (λ (n : ℕ). touches n (device_at c i)) same ∙ off)

  either : (i : ℕ) → i < devices c → IsQueuedOrOwed c t i ⊎ ReadsStay i
  either i small = dite (dec_lt x y)
      (λ less. ⊎_elim (λ (h : touches net (device_at c i) ≡ true). inl (owed i small less h)) (λ (h : touches net (device_at c i) ≡ false). inr (apart i h)) (bool_cases (touches net (device_at c i))))
      (λ not. let same : max x y ≡ x = omega arith in inr (λ q need. ap (λ (g : List ℕ). slice_index g (read_place (device_at c i) q)) (ap (set s.bounds b) same ∙ set-get_or s.bounds b 0)))

  stays : (i : ℕ) → IsQueuedOrOwed c s i → IsQueuedOrOwed c t i
  stays i = noted c s k ok here (Running r) (Running (widened c j x r)) e f s.marks s.count i inl (λ o. absurd (owed_at c r.owes i none o))

  closed_still : (i : ℕ) → i < devices c → IsReachClosedAt c s.bounds (device_at c i) → IsQueuedOrOwed c t i ⊎ IsReachClosedAt c f (device_at c i)
  closed_still i small closed = ⊎_elim inl (λ (same : ReadsStay i). inr (λ q lt' free'.
      let before = closed q lt' free' in let wider = more (target_place (device_at c i) q) in
      let gives-same : reach_given c (device_at c i) q (reach_reads f (device_at c i)) ≡ reach_given c (device_at c i) q (reach_reads s.bounds (device_at c i)) = gives_needed c (device_at c i) q (reach_reads f (device_at c i)) (reach_reads s.bounds (device_at c i)) lt' same in omega arith)) (either i small)

  fresh_still : (q : Run) → IsRunOf c q → IsFresh c s.bounds q → IsQueuedOrOwed c t q.device.0 ⊎ IsFresh c f q
  fresh_still q run fresh = ⊎_elim inl (λ (same : ReadsStay q.device.0). inr (λ i v h. fresh i v h ∙ sym (same i (run.only_needed i v h)))) (either q.device.0 run.device)

  at_b : slice_index f b ≡ max x y
  at_b = get_or-set_same s.bounds b (max x y) 0 inside

  covered : (i : ℕ) → given_at (widened c j x r) i ≡ true → offer c r i ≤ slice_index f (target_place (device_of c r) i)
  covered i g = ⊎_elim
      (λ (same : i ≡ j). subst (λ (z : ℕ). offer c r z ≤ slice_index f (target_place (device_of c r) z)) (sym same) (let h = at_b in omega arith))
      (λ (before : given_at r i ≡ true). le_trans ((watched_at c s k r ok e).covered i before) (more (target_place (device_of c r) i)))
      (given_set r.given j i g)

  pub widen_keeps : Sound c (step_by c s k (Widen j) (Running r))
  widen_keeps = let fit = fits_at c s k r ok e in
      steady c s k ok here (Running r) (Running (widened c j x r)) e f s.marks s.count family more least refl ok.form.each_mark refl (credits_at c s k (Running r) ok e)
      record {
        run = record { device = fit.run.device; six_reads = fit.run.six_reads; four_slots = length-set r.given j true ∙ fit.run.four_slots; only_needed = fit.run.only_needed };
        in_range = fit.in_range;
        within = λ i. le_trans (fit.within i) (more (read_place (device_of c r) i));
        in_order = record { given = λ i g. full; debt = owes };
      }
      (λ i h. h) (λ i h. h) (λ i h. h) (λ i h. h) stays closed_still fresh_still
      record {
        fresh = ⊎_elim (λ (z : IsQueuedOrOwed c s d). inl (stays d z)) (fresh_still r fit.run) (watched_at c s k r ok e).fresh;
        covered = covered;
      }
