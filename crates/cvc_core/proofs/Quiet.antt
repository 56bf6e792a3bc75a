-- The count: how great it gets, and what holds where it is 0.
use Rattle.std.proofs.Common.{◌≡◌, ℕ, suc, ◌+◌, ◌*◌, ◌%◌, ◌≤◌, List, [], ◌∷◌, length, get_or, arith, ap, refl, sym, ◌∙◌, ⊎_elim, mul-suc}
use Rattle.std.specs.Prelude.{slice_index}
use Rattle.std.specs.List.{sum_by}
use Rattle.std.proofs.lemmas.List.{set-get_or}
use Rattle.std.proofs.lemmas.List.Sums.{get_or-le-sum_by, sum_by-cons}
use mathlib.Core.Logic.{dite}
use native.Mathlib.Decide.{dec_lt}
use Rattle.cvc_law.specs.Network.{Network, devices}
use Rattle.cvc_law.specs.ReachLeast.{intervals, IsReachLeast}
use Rattle.cvc_law.specs.Least.{IsLeast}
use Rattle.cvc_law.proofs.ReachAgree.{least_intervals}
use Rattle.cvc_core.specs.declared.actor.Run.{Run}
use Rattle.cvc_core.specs.declared.actor.Actor.{Actor}
use Rattle.cvc_core.specs.declared.actor.Actor.TheVariants.{Absent, Idle, Running}
use Rattle.cvc_core.specs.declared.actor.Intent.{Intent}
use Rattle.cvc_core.specs.declared.actor.Intent.TheVariants.{Read, Widen, TakeCredit, Queue, Claim, Release, GiveCredit, AskCount, LookAt, Peek}
use Rattle.cvc_core.specs.declared.event.Event.{Event}
use Rattle.cvc_core.specs.declared.event.Event.TheVariants.{Load, Lower, Raise, Add, SetQueued, Take, DropRunning, Subtract, ReadCount, Look, Split, Join}
use Rattle.cvc_core.specs.State.{Machine, actor_at, found, credits_of, Runs}
use Rattle.cvc_core.specs.Steps.{place_of, IsAllowed, MayStep, step_by, after_step}
use Rattle.cvc_core.specs.Events.{IsEnabled, after}
use Rattle.cvc_core.specs.Sound.{queued_part, HasFewCredits, ActorOwes, Sound}
use Rattle.cvc_core.proofs.Placing.{get_or_past}
use Rattle.cvc_core.proofs.Building.{credits_at}
use Rattle.cvc_core.proofs.Keeping.{credits-le-count}

-- ---- how great it gets
sum_by-le_each : {A : Type 0} (f : A → ℕ) (n : ℕ) (d : A) (l : List A) → ((j : ℕ) → f (get_or l j d) ≤ n) → sum_by f l ≤ n * length l
sum_by-le_each f n d [] h = omega arith
sum_by-le_each f n d (x ∷ xs) h = let r = sum_by-le_each f n d xs (λ j. h (suc j)) in let first : f x ≤ n = h 0 in omega (arith, sum_by-cons f x xs, mul-suc n (length xs))

at_most_two : (a : Actor) → HasFewCredits a → credits_of a ≤ 2
at_most_two Absent h = omega arith
at_most_two (Idle n) h = h
at_most_two (Running r) h = h.1

pub count-le : (c : Network) (s : Machine) → Sound c s → s.count ≤ devices c + 2 * length s.actors
count-le c s ok = let all = ok.counted.total in let long = ok.form.every_device in
    let marks : sum_by queued_part s.marks ≤ 1 * length s.marks = sum_by-le_each queued_part 1 0 s.marks (λ j. omega arith) in
    let actors = sum_by-le_each credits_of 2 Absent s.actors (λ j. at_most_two (actor_at s j) (ok.counted.few_credits j)) in omega arith

-- ---- at 0 nobody has a credit, so nobody runs, and no device is queued
module _ (c : Network) (s : Machine) (ok : Sound c s) (none : s.count ≡ 0) where
  no_credit : (k : ℕ) (a : Actor) → actor_at s k ≡ a → credits_of a ≡ 0
  no_credit k a e = dite (dec_lt k (length s.actors))
      (λ here. let part = credits-le-count c s k ok here in let same : credits_of (actor_at s k) ≡ credits_of a = ap credits_of e in omega arith)
      (λ past. ap credits_of (sym e) ∙ ap credits_of (get_or_past s.actors k Absent (omega arith)))

  nobody_at : (k : ℕ) (r : Run) → actor_at s k ≡ Running r → ⊥
  nobody_at k r e = let few : HasFewCredits (Running r) = credits_at c s k (Running r) ok e in let no = no_credit k (Running r) e in omega arith

  nobody_runs : (d k : ℕ) (a : Actor) → actor_at s k ≡ a → Runs a d → ⊥
  nobody_runs d k Absent e h = h
  nobody_runs d k (Idle n) e h = h
  nobody_runs d k (Running r) e h = nobody_at k r e

  nobody_owes : (d k : ℕ) (a : Actor) → actor_at s k ≡ a → ActorOwes c a d → ⊥
  nobody_owes d k Absent e h = h
  nobody_owes d k (Idle n) e h = h
  nobody_owes d k (Running r) e h = nobody_at k r e

  none_queued : (d : ℕ) → slice_index s.marks d % 2 ≡ 1 → ⊥
  none_queued d h = dite (dec_lt d (length s.marks))
      (λ within. let all = ok.counted.total in let part : slice_index s.marks d % 2 ≤ sum_by queued_part s.marks = get_or-le-sum_by queued_part s.marks d 0 within in omega arith)
      (λ past. let zero_mark : slice_index s.marks d ≡ 0 = get_or_past s.marks d 0 (omega arith) in omega arith)

  pub quiet-least : IsReachLeast c s.bounds
  quiet-least = record {
    family = ok.in_range.bounds;
    closed = λ d lt. ⊎_elim (⊎_elim (λ (q : slice_index s.marks d % 2 ≡ 1). absurd (none_queued d q)) (λ (t : (k : ℕ) × ActorOwes c (actor_at s k) d). absurd (nobody_owes d t.0 (actor_at s t.0) refl t.1)))
        (λ z. z) (ok.resting d lt (λ k h. nobody_runs d k (actor_at s k) refl h));
    least = ok.within;
  }

  pub quiet-least_intervals : IsLeast c (intervals c s.bounds)
  quiet-least_intervals = least_intervals c ok.form.circuit s.bounds quiet-least

  abbrev Stays : Machine → Type 0
  Stays t = (t.bounds ≡ s.bounds) × (t.marks ≡ s.marks) × (t.count ≡ s.count)

  pub step_stays : (k : ℕ) (i : Intent) (a : Actor) → actor_at s k ≡ a → IsAllowed c i a (found s (place_of c i a)) → Stays (step_by c s k i a)
  step_stays k (Read i) (Running r) e h = absurd (nobody_at k r e)
  step_stays k (Read i) Absent e h = absurd h
  step_stays k (Read i) (Idle n) e h = absurd h
  step_stays k (Widen j) (Running r) e h = absurd (nobody_at k r e)
  step_stays k (Widen j) Absent e h = absurd h
  step_stays k (Widen j) (Idle n) e h = absurd h
  step_stays k TakeCredit (Running r) e h = absurd (nobody_at k r e)
  step_stays k TakeCredit Absent e h = absurd h
  step_stays k TakeCredit (Idle n) e h = absurd h
  step_stays k Queue (Running r) e h = absurd (nobody_at k r e)
  step_stays k Queue Absent e h = absurd h
  step_stays k Queue (Idle n) e h = absurd h
  step_stays k (Claim d) (Idle n) e h = let one : slice_index s.marks d.0 ≡ 1 = h.2 in absurd (none_queued d.0 (omega arith))
  step_stays k (Claim d) Absent e h = absurd h
  step_stays k (Claim d) (Running r) e h = absurd h
  step_stays k Release (Running r) e h = absurd (nobody_at k r e)
  step_stays k Release Absent e h = absurd h
  step_stays k Release (Idle n) e h = absurd h
  step_stays k GiveCredit (Running r) e h = absurd (nobody_at k r e)
  step_stays k GiveCredit Absent e h = absurd h
  step_stays k GiveCredit (Idle n) e h = let no : n ≡ 0 = no_credit k (Idle n) e in absurd (omega arith)
  step_stays k AskCount a e h = (refl, refl, refl)
  step_stays k (LookAt d) a e h = (refl, set-get_or s.marks d.0 0, refl)
  step_stays k (Peek b) a e h = (set-get_or s.bounds b 0, refl, refl)

  may_stays : (k : ℕ) (i : Intent) → MayStep c s k i → Stays (after_step c s k i)
  may_stays k i h = step_stays k i (actor_at s k) refl h

  -- no event changes a bound, a mark or the count
  pub event_stays : (e : Event) → IsEnabled c s e → Stays (after c s e)
  event_stays (Load k i) h = may_stays k (Read i) h
  event_stays (Lower k slot) h = may_stays k (Widen slot) h.1
  event_stays (Raise k slot) h = may_stays k (Widen slot) h.1
  event_stays (Add k) h = may_stays k TakeCredit h
  event_stays (SetQueued k) h = may_stays k Queue h
  event_stays (Take k d) h = may_stays k (Claim d) h
  event_stays (DropRunning k) h = may_stays k Release h
  event_stays (Subtract k) h = may_stays k GiveCredit h
  event_stays (ReadCount k) h = may_stays k AskCount h
  event_stays (Look k d) h = may_stays k (LookAt d) h
  event_stays (Split k l) h = (refl, refl, refl)
  event_stays (Join k l) h = (refl, refl, refl)
