-- Steps that leave the bounds keep a state sound.
use Rattle.std.proofs.Common.{◌≡◌, ◌≢◌, ℕ, ◌+◌, ◌-◌, ◌%◌, ◌<◌, ◌≤◌, Bool, true, false, cond, nat_lt, List, length, set, Option, Some, None, le_refl, arith, ap, refl, sym, subst, ◌∙◌, ◌⊎◌, inl, inr, ⊎_elim, length-set, get_or-set_other, get_or-set_same, lit<, ltb-true, lt-ltb, zero-le, le_of_eq}
use Rattle.std.specs.Prelude.{slice_index}
use Rattle.std.proofs.lemmas.List.{set-get_or}
use Rattle.std.proofs.lemmas.List.Sums.{sum_by-set, get_or-le-sum_by}
use mathlib.Core.Logic.{dite}
use native.Mathlib.Decide.{ℕ_discrete}
use Rattle.cvc_law.specs.Network.{Network, devices, is_declared, fan_of}
use Rattle.cvc_law.specs.Conduction.{target}
use Rattle.cvc_law.specs.Reach.{widest, device_at, read_place, target_place, needs, reach_given, reach_reads}
use Rattle.cvc_law.specs.ReachLeast.{IsReachClosedAt, IsReachWithin}
use Rattle.cvc_law.proofs.ReachGiving.{gives_needed}
use Rattle.cvc_law.proofs.ReachFans.{fan_within}
use Rattle.cvc_core.specs.declared.actor.Debt.{Debt}
use Rattle.cvc_core.specs.declared.actor.Run.{Run}
use Rattle.cvc_core.specs.declared.actor.Actor.{Actor}
use Rattle.cvc_core.specs.declared.actor.Actor.TheVariants.{Absent, Idle, Running}
use Rattle.cvc_core.specs.declared.actor.Intent.TheVariants.{Read, TakeCredit, Queue, Release, GiveCredit}
use Rattle.cvc_core.specs.State.{Machine, actor_at, device_of, read_at, held, given_at, offer, or_nothing, debt_of, next_device, credits_of, IfRunning, Runs}
use Rattle.cvc_core.specs.Steps.{IsLoaded, IsSettled, NothingGiven, IsAllowed, queued, loaded, with_credits, marked, next_debt, begun, step_by}
use Rattle.cvc_core.specs.Sound.{IsDebtOf, queued_part, HasFewCredits, IsOwedBy, ActorOwes, IsQueuedOrOwed, IsFresh, IsWatched, Sound}
use Rattle.cvc_core.proofs.Placing.{each_set, set_each, known, tested, read_set, held_set, nothing_read, nothing_held, nothing_given, queued_mark, queued_balance, same_debt, owed_at}
use Rattle.cvc_core.proofs.Building.{Fits, fits_at, watched_at, credits_at, now, noted, runs_there, runs_back, watched_still, build, steady}

abbrev moved_to : Machine → ℕ → Actor → List ℕ → ℕ → Machine
moved_to s k a ms n = record { bounds = s.bounds; marks = ms; count = n; actors = set s.actors k a }

recredited : (c : Network) (f : List ℕ) (n : ℕ) (r : Run) → Fits c f r → Fits c f (with_credits n r)
recredited c f n r h = record {
  run = record { device = h.run.device; six_reads = h.run.six_reads; four_slots = h.run.four_slots; only_needed = h.run.only_needed };
  in_range = h.in_range;
  within = h.within;
  in_order = record { given = h.in_order.given; debt = λ debt is. same_debt c r r.reads r.owes n debt (h.in_order.debt debt is) };
}

-- a run whose reads and slots stay is watched as before
rewatched : (c : Network) (s t : Machine) (r : Run) (owes : Option Debt) (n : ℕ) → s.bounds ≡ t.bounds → ((d : ℕ) → IsQueuedOrOwed c s d → IsQueuedOrOwed c t d) → IsWatched c s r → IsWatched c t record { device = r.device; reads = r.reads; given = r.given; owes = owes; credits = n }
rewatched c s t r owes n same stays h = record {
  fresh = ⊎_elim (λ (z : IsQueuedOrOwed c s r.device.0). inl (stays r.device.0 z)) (λ (z : IsFresh c s.bounds r). inr (subst (λ (f : List ℕ). IsFresh c f r) same z)) h.fresh;
  covered = λ j g. subst (λ (f : List ℕ). offer c r j ≤ slice_index f (target_place (device_of c r) j)) same (h.covered j g);
}

later_debt : (c : Network) (r : Run) (x : ℕ) (old debt : Debt) → IsDebtOf c r old → debt_of r.owes ≡ old → next_debt c (debt_of r.owes) ≡ Some debt → IsDebtOf c (marked c x r) debt
later_debt c r x old debt h same is = tested (IsDebtOf c (marked c x r)) (nat_lt ((debt_of r.owes).place + 1) (length (fan_of c (debt_of r.owes).net.0))) record { net = (debt_of r.owes).net; place = (debt_of r.owes).place + 1 } debt
    (λ t. subst (λ (z : Debt). nat_lt (z.place + 1) (length (fan_of c z.net.0)) ≡ true → IsDebtOf c (marked c x r) record { net = z.net; place = z.place + 1 }) (sym same)
    (λ u. record { undeclared = h.undeclared; was_given = h.was_given; inside = ltb-true (old.place + 1) (length (fan_of c old.net.0)) u }) t) is

-- the device that is due is one of the circuit's
next_within : (c : Network) (f : List ℕ) (r : Run) → Fits c f r → (debt : Debt) → r.owes ≡ Some debt → next_device c r < devices c
next_within c f r fit debt is = let same : debt_of r.owes ≡ debt = ap debt_of is in
    subst (λ (z : Debt). slice_index (fan_of c z.net.0) z.place < devices c) (sym same) (fan_within c debt.net.0 debt.place (fit.in_order.debt debt is).inside)

-- what is owed is due now or later
due : (c : Network) (r : Run) (debt : Debt) (d : ℕ) → r.owes ≡ Some debt → IsOwedBy c r.owes d → (next_device c r ≡ d) ⊎ IsOwedBy c (next_debt c debt) d
due c r debt d is owed = let t : IsOwedBy c (Some debt) d = subst (λ (o : Option Debt). IsOwedBy c o d) is owed in let j : ℕ = t.0 in dite (ℕ_discrete j debt.place)
    (λ e. inl (ap (λ (z : Debt). slice_index (fan_of c z.net.0) z.place) (ap debt_of is) ∙ (ap (slice_index (fan_of c debt.net.0)) (sym e) ∙ t.3)))
    (λ ne. let le : debt.place ≤ j = t.1 in let lt : j < length (fan_of c debt.net.0) = t.2 in let test : nat_lt (debt.place + 1) (length (fan_of c debt.net.0)) ≡ true = lt-ltb (debt.place + 1) (length (fan_of c debt.net.0)) (omega arith) in
    inr (subst (λ (b : Bool). IsOwedBy c (cond b (Some record { net = debt.net; place = debt.place + 1 }) None) d) (sym test) (j, omega arith, lt, t.3)))

-- a device whose slots are settled on fresh reads is closed at
settled_covers : (c : Network) (r : Run) (j : ℕ) (f : List ℕ) → reach_given c (device_of c r) j (reach_reads f (device_of c r)) ≡ offer c r j → is_declared c (target (device_of c r) j) ≡ false
    → (given_at r j ≡ true → offer c r j ≤ slice_index f (target_place (device_of c r) j)) → IsSettled c r j → reach_given c (device_of c r) j (reach_reads f (device_of c r)) ≤ slice_index f (target_place (device_of c r) j)
settled_covers c r j f same free covered settled = ⊎_elim (λ (g : given_at r j ≡ true). let h = covered g in omega arith)
    (λ (z : (offer c r j ≡ 0) ⊎ (is_declared c (target (device_of c r) j) ≡ true)). ⊎_elim (λ (n : offer c r j ≡ 0). omega arith) (λ (d : is_declared c (target (device_of c r) j) ≡ true). cc) z) settled

module _ (c : Network) (s : Machine) (k : ℕ) (ok : Sound c s) (here : k < length s.actors) where
  same_bounds : IsReachWithin s.bounds s.bounds
  same_bounds b = le_refl (slice_index s.bounds b)

  small_set : (d m : ℕ) → m < 4 → d < devices c → (j : ℕ) → slice_index (set s.marks d m) j < 4
  small_set d m lt within = let long = ok.form.every_device in each_set (λ (n : ℕ). n < 4) s.marks d m 0 (omega arith) lt ok.form.each_mark

  -- no mark changes
  stay : (a a' : Actor) (is : actor_at s k ≡ a) (n : ℕ) → n + credits_of a ≡ s.count + credits_of a' → HasFewCredits a' → IfRunning a' (Fits c s.bounds)
      → ((d : ℕ) → Runs a d → Runs a' d) → ((d : ℕ) → Runs a' d → Runs a d) → ((d : ℕ) → ActorOwes c a d → ActorOwes c a' d)
      → (((d : ℕ) → IsQueuedOrOwed c s d → IsQueuedOrOwed c (moved_to s k a' s.marks n) d) → IfRunning a' (IsWatched c (moved_to s k a' s.marks n))) → Sound c (moved_to s k a' s.marks n)
  stay a a' is n balance few own to from owes mine = steady c s k ok here a a' is s.bounds s.marks n ok.in_range.bounds same_bounds ok.within refl ok.form.each_mark (omega arith) few own to from (λ d h. h) (λ d h. h) stays (λ d lt h. inr h) (λ r _ h. inr h) (mine stays)
    where
      stays : (d : ℕ) → IsQueuedOrOwed c s d → IsQueuedOrOwed c (moved_to s k a' s.marks n) d
      stays d = noted c s k ok here a a' is s.bounds s.marks n d inl (λ h. inr (k, subst (λ (z : Actor). ActorOwes c z d) (sym (now c s k ok here a a' is s.bounds s.marks n)) (owes d h)))

  -- nothing of the actor changes either
  idle : (a : Actor) → actor_at s k ≡ a → Sound c (moved_to s k a s.marks s.count)
  idle a is = stay a a is s.count refl (credits_at c s k a ok is) (own a is) (λ d h. h) (λ d h. h) (λ d h. h) (watched a is)
    where
      own : (a : Actor) → actor_at s k ≡ a → IfRunning a (Fits c s.bounds)
      own Absent e = tt
      own (Idle n) e = tt
      own (Running r) e = fits_at c s k r ok e

      watched : (a : Actor) → actor_at s k ≡ a → ((d : ℕ) → IsQueuedOrOwed c s d → IsQueuedOrOwed c (moved_to s k a s.marks s.count) d) → IfRunning a (IsWatched c (moved_to s k a s.marks s.count))
      watched Absent e stays = tt
      watched (Idle n) e stays = tt
      watched (Running r) e stays = rewatched c s (moved_to s k (Running r) s.marks s.count) r r.owes r.credits refl stays (watched_at c s k r ok e)

  pub look_keeps : (d : ℕ) (a : Actor) → actor_at s k ≡ a → Sound c (moved_to s k a (set s.marks d (slice_index s.marks d)) s.count)
  look_keeps d a e = subst (λ (ms : List ℕ). Sound c (moved_to s k a ms s.count)) (sym (set-get_or s.marks d 0)) (idle a e)

  pub ask_keeps : (a : Actor) → actor_at s k ≡ a → Sound c (moved_to s k a s.marks s.count)
  ask_keeps = idle

  pub peek_keeps : (b : ℕ) (a : Actor) → actor_at s k ≡ a → Sound c record { bounds = set s.bounds b (slice_index s.bounds b); marks = s.marks; count = s.count; actors = set s.actors k a }
  peek_keeps b a e = subst (λ (f : List ℕ). Sound c record { bounds = f; marks = s.marks; count = s.count; actors = set s.actors k a }) (sym (set-get_or s.bounds b 0)) (idle a e)

  -- an actor that runs nothing becomes another that runs nothing
  pub resting_keeps : (a a' : Actor) → actor_at s k ≡ a → (n : ℕ) → n + credits_of a ≡ s.count + credits_of a' → HasFewCredits a' → ((d : ℕ) → Runs a d → ⊥) → ((d : ℕ) → ActorOwes c a d → ⊥) → ((d : ℕ) → Runs a' d → ⊥) → ((P : Run → Type 0) → IfRunning a' P) → Sound c (moved_to s k a' s.marks n)
  resting_keeps a a' is n balance few none nothing none' rests = stay a a' is n balance few (rests (Fits c s.bounds)) (λ d h. absurd (none d h)) (λ d h. absurd (none' d h)) (λ d h. absurd (nothing d h)) (λ stays. rests (IsWatched c (moved_to s k a' s.marks n)))

  recredit : (r : Run) (m n : ℕ) → actor_at s k ≡ Running r → n + r.credits ≡ s.count + m → 1 ≤ m → m ≤ 2 → Sound c (moved_to s k (Running (with_credits m r)) s.marks n)
  recredit r m n e balance some few = stay (Running r) (Running (with_credits m r)) e n balance (some, few) (recredited c s.bounds m r (fits_at c s k r ok e)) (λ d h. h) (λ d h. h) (λ d h. h)
      (λ stays. rewatched c s (moved_to s k (Running (with_credits m r)) s.marks n) r r.owes m refl stays (watched_at c s k r ok e))

  pub add_keeps : (r : Run) → actor_at s k ≡ Running r → r.credits ≡ 1 → Sound c (step_by c s k TakeCredit (Running r))
  add_keeps r e one = recredit r (r.credits + 1) (s.count + 1) e (omega arith) (omega arith) (omega arith)

  -- its credits are counted
  pub credits-le-count : credits_of (actor_at s k) ≤ s.count
  credits-le-count = let all = ok.counted.total in let part = get_or-le-sum_by credits_of s.actors k Absent here in omega arith

  pub subtract_keeps : (a : Actor) → actor_at s k ≡ a → IsAllowed c GiveCredit a s.count → Sound c (step_by c s k GiveCredit a)
  subtract_keeps Absent e h = absurd h
  subtract_keeps (Idle n) e h = let credits : credits_of (actor_at s k) ≡ n = ap credits_of e in let part = credits-le-count in let few : n ≤ 2 = credits_at c s k (Idle n) ok e in
      resting_keeps (Idle n) (Idle (n - 1)) e (s.count - 1) (omega arith) (omega arith) (λ d z. z) (λ d z. z) (λ d z. z) (λ P. tt)
  subtract_keeps (Running r) e h = let credits : credits_of (actor_at s k) ≡ r.credits = ap credits_of e in let part = credits-le-count in
      recredit r (r.credits - 1) (s.count - 1) e (omega arith) (omega arith) (omega arith)

  pub read_keeps : (i : ℕ) (r : Run) → actor_at s k ≡ Running r → needs (device_of c r).kind i ≡ true → NothingGiven r → Sound c (step_by c s k (Read i) (Running r))
  read_keeps i r e need none = let b : ℕ = read_place (device_of c r) i in let x : ℕ = slice_index s.bounds b in let fit = fits_at c s k r ok e in let old = watched_at c s k r ok e in
      let t : Machine = moved_to s k (Running (loaded i x r)) s.marks s.count in
      subst (λ (f : List ℕ). Sound c record { bounds = f; marks = s.marks; count = s.count; actors = set s.actors k (Running (loaded i x r)) }) (sym (set-get_or s.bounds b 0))
      (stay (Running r) (Running (loaded i x r)) e s.count refl (credits_at c s k (Running r) ok e) record {
        run = record {
          device = fit.run.device;
          six_reads = length-set r.reads i (Some x) ∙ fit.run.six_reads;
          four_slots = fit.run.four_slots;
          only_needed = λ j y h. ⊎_elim (λ (z : (j ≡ i) × (x ≡ y)). ap (needs (device_of c r).kind) z.0 ∙ need) (fit.run.only_needed j y) (read_set r.reads i x j y h);
        };
        in_range = held_set (λ (j y : ℕ). y ≤ widest c) r.reads i x (ok.in_range.bounds.in_range b) fit.in_range;
        within = held_set (λ (j y : ℕ). y ≤ reach_reads s.bounds (device_of c r) j) r.reads i x (le_refl x) fit.within;
        in_order = record {
          given = λ j g. absurd (nothing j g);
          debt = λ debt is. same_debt c r (set r.reads i (Some x)) r.owes r.credits debt (fit.in_order.debt debt is);
        };
      } (λ d h. h) (λ d h. h) (λ d h. h) (λ stays. record {
        fresh = ⊎_elim (λ (z : IsQueuedOrOwed c s r.device.0). inl (stays r.device.0 z))
            (λ (z : IsFresh c s.bounds r). inr (λ j y h. ⊎_elim (λ (q : (j ≡ i) × (x ≡ y)). sym q.1 ∙ ap (reach_reads s.bounds (device_of c r)) (sym q.0)) (z j y) (read_set r.reads i x j y h))) old.fresh;
        covered = λ j g. absurd (nothing j g);
      }))
    where
      nothing : (j : ℕ) → given_at r j ≡ true → ⊥
      nothing j g = let no : given_at r j ≡ false = none j in cc

  -- the mark of a device becomes m
  long_enough : (d : ℕ) → d < devices c → d < length s.marks
  long_enough d lt = let long = ok.form.every_device in omega arith

  pub queue_keeps : (r : Run) (debt : Debt) → r.owes ≡ Some debt → actor_at s k ≡ Running r → r.credits ≡ 2 → Sound c (step_by c s k Queue (Running r))
  queue_keeps r debt is e two =
      let q : ℕ = next_device c r in let x : ℕ = slice_index s.marks q in let ms : List ℕ = set s.marks q (queued x) in let a' : Actor = Running (marked c x r) in let fit = fits_at c s k r ok e in
      let lt : q < devices c = next_within c s.bounds r fit debt is in let within : q < length s.marks = long_enough q lt in
      let fact = queued_mark x (ok.form.each_mark q) in let balance = queued_balance x r.credits two in let sum = sum_by-set queued_part s.marks q (queued x) 0 within in
      let at_k = now c s k ok here (Running r) a' e s.bounds ms s.count in let t : Machine = moved_to s k a' ms s.count in
      let stays : (d : ℕ) → IsQueuedOrOwed c s d → IsQueuedOrOwed c t d = λ d. noted c s k ok here (Running r) a' e s.bounds ms s.count d
      (λ h. inl (set_each (λ i z. slice_index s.marks i % 2 ≡ 1 → z % 2 ≡ 1) s.marks q (queued x) 0 within (λ _. fact.1) (λ i ne g. g) d h))
      (λ o. ⊎_elim
      (λ (same : q ≡ d). inl (subst (λ (z : ℕ). slice_index ms z % 2 ≡ 1) same (ap (λ (z : ℕ). z % 2) (get_or-set_same s.marks q (queued x) 0 within) ∙ fact.1)))
      (λ (later : IsOwedBy c (next_debt c debt) d). inr (k, subst (λ (z : Actor). ActorOwes c z d) (sym at_k) (subst (λ (z : Debt). IsOwedBy c (next_debt c z) d) (sym (ap debt_of is)) later)))
      (due c r debt d is o)) in
      steady c s k ok here (Running r) a' e s.bounds ms s.count ok.in_range.bounds same_bounds ok.within (length-set s.marks q (queued x)) (small_set q (queued x) fact.0 lt) (omega arith) (balance.1, balance.2)
      record {
        run = record { device = fit.run.device; six_reads = fit.run.six_reads; four_slots = fit.run.four_slots; only_needed = fit.run.only_needed };
        in_range = fit.in_range;
        within = fit.within;
        in_order = record { given = fit.in_order.given; debt = λ new new_is. later_debt c r x debt new (fit.in_order.debt debt is) (ap debt_of is) new_is };
      }
      (λ d h. h) (λ d h. h)
      (set_each (λ i z. 2 ≤ slice_index s.marks i → 2 ≤ z) s.marks q (queued x) 0 within fact.2 (λ i ne g. g))
      (set_each (λ i z. 2 ≤ z → 2 ≤ slice_index s.marks i) s.marks q (queued x) 0 within fact.3 (λ i ne g. g))
      stays (λ d _ h. inr h) (λ z _ h. inr h)
      (rewatched c s t r (marked c x r).owes (marked c x r).credits refl stays (watched_at c s k r ok e))

  pub claim_keeps : (d n : ℕ) → actor_at s k ≡ Idle n → d < devices c → n ≡ 0 → slice_index s.marks d ≡ 1 → Sound c (moved_to s k (Running (begun d)) (set s.marks d 2) s.count)
  claim_keeps d n e lt none one =
      let ms : List ℕ = set s.marks d 2 in let a' : Actor = Running (begun d) in let t : Machine = moved_to s k a' ms s.count in let within : d < length s.marks = long_enough d lt in
      let at_k = now c s k ok here (Idle n) a' e s.bounds ms s.count in let sum = sum_by-set queued_part s.marks d 2 0 within in
      let stays : (i : ℕ) → i ≢ d → IsQueuedOrOwed c s i → IsQueuedOrOwed c t i = λ i ne. noted c s k ok here (Idle n) a' e s.bounds ms s.count i (λ h. inl (ap (λ (z : ℕ). z % 2) (get_or-set_other s.marks d i 2 0 ne) ∙ h)) (λ o. absurd o) in
      let apart : (i : ℕ) → 2 ≤ slice_index s.marks i → i ≢ d = λ i h same. let z : slice_index s.marks i ≡ slice_index s.marks d = ap (slice_index s.marks) same in omega arith in
      build c s k ok here (Idle n) a' e s.bounds ms s.count ok.in_range.bounds same_bounds ok.within (length-set s.marks d 2) (small_set d 2 (lit< tt) lt) (omega arith) (omega arith, omega arith)
      record {
        run = record { device = lt; six_reads = refl; four_slots = refl; only_needed = λ i x h. absurd (nothing_read 6 i x h) };
        in_range = λ i. rw (nothing_held 6 i) zero-le;
        within = λ i. rw (nothing_held 6 i) zero-le;
        in_order = record { given = λ i g. absurd (nothing_given 4 i g); debt = λ debt h. cc };
      }
      record {
        somebody = set_each (λ i z. 2 ≤ z → (l : ℕ) × Runs (actor_at t l) i) s.marks d 2 0 within (λ _. (k, subst (λ (z : Actor). Runs z d) (sym at_k) refl))
            (λ i ne h. let p = ok.runs_marked.somebody i h in (p.0, runs_there c s k ok here (Idle n) a' e s.bounds ms s.count p.0 i (λ z. absurd z) p.1));
        marked = λ l i. set_each (λ m x. Runs x i → 2 ≤ slice_index ms i) s.actors k a' Absent here
            (λ same. subst (λ (z : ℕ). 2 ≤ slice_index ms z) same (le_of_eq (sym (get_or-set_same s.marks d 2 0 within))))
            (λ m ne h. let two = ok.runs_marked.marked m i h in let z = get_or-set_other s.marks d i 2 0 (apart i two) in omega arith) l;
        nobody_else = λ l m i. set_each (λ l x. Runs x i → Runs (actor_at t m) i → l ≡ m) s.actors k a' Absent here
            (λ same. set_each (λ m x. Runs x i → k ≡ m) s.actors k a' Absent here (λ _. refl) (λ m ne h. absurd (apart i (ok.runs_marked.marked m i h) (sym same))) m)
            (λ l ne h. set_each (λ m x. Runs x i → l ≡ m) s.actors k a' Absent here (λ same. absurd (apart i (ok.runs_marked.marked l i h) (sym same))) (λ m ne' g. ok.runs_marked.nobody_else l m i h g) m) l;
      }
      (λ i small nobody. ⊎_elim (λ (z : IsQueuedOrOwed c s i). inl (stays i (λ same. nobody k (subst (λ (z : Actor). Runs z i) (sym at_k) (sym same))) z)) inr
      (ok.resting i small (λ l h. nobody l (runs_there c s k ok here (Idle n) a' e s.bounds ms s.count l i (λ z. absurd z) h))))
      record {
        fresh = inr (λ i x h. absurd (nothing_read 6 i x h));
        covered = λ i g. absurd (nothing_given 4 i g);
      }
      (λ l _. watched_still c s k ok here (Idle n) a' e s.bounds ms s.count same_bounds (λ m i run. stays i (apart i (ok.runs_marked.marked m i run))) (λ r _ h. inr h) l)

  pub release_keeps : (r : Run) → actor_at s k ≡ Running r → IsLoaded c r → r.owes ≡ None → ((j : ℕ) → j < 4 → IsSettled c r j) → Sound c (step_by c s k Release (Running r))
  release_keeps r e full none settled =
      let d : ℕ = r.device.0 in let m : ℕ = slice_index s.marks d % 2 in let ms : List ℕ = set s.marks d m in let a' : Actor = Idle r.credits in let t : Machine = moved_to s k a' ms s.count in
      let fit = fits_at c s k r ok e in let old = watched_at c s k r ok e in let within : d < length s.marks = long_enough d fit.run.device in let sum = sum_by-set queued_part s.marks d m 0 within in
      let few : (1 ≤ r.credits) × (r.credits ≤ 2) = credits_at c s k (Running r) ok e in
      let runs : Runs (actor_at s k) d = subst (λ (z : Actor). Runs z d) (sym e) refl in
      let stays : (i : ℕ) → IsQueuedOrOwed c s i → IsQueuedOrOwed c t i = λ i. noted c s k ok here (Running r) a' e s.bounds ms s.count i
      (λ h. inl (set_each (λ n z. slice_index s.marks n % 2 ≡ 1 → z % 2 ≡ 1) s.marks d m 0 within (λ g. omega arith) (λ n ne g. g) i h)) (λ o. absurd (owed_at c r.owes i none o)) in
      let closed : IsFresh c s.bounds r → IsReachClosedAt c s.bounds (device_at c d) = λ fr j lt free.
      let same : reach_given c (device_of c r) j (reach_reads s.bounds (device_of c r)) ≡ offer c r j = gives_needed c (device_of c r) j (reach_reads s.bounds (device_of c r)) (held r) lt
      (λ i need. let p = known (read_at r i) (full i need) in sym (ap or_nothing p.1 ∙ fr i p.0 p.1)) in
      settled_covers c r j s.bounds same free (old.covered j) (settled j lt) in
      let gone : (l i : ℕ) → i ≢ d → Runs (actor_at s l) i → Runs (actor_at t l) i = λ l i ne. runs_there c s k ok here (Running r) a' e s.bounds ms s.count l i (λ z. absurd (ne (sym z))) in
      build c s k ok here (Running r) a' e s.bounds ms s.count ok.in_range.bounds same_bounds ok.within (length-set s.marks d m) (small_set d m (omega arith) fit.run.device) (omega arith) few.1 tt
      record {
        somebody = set_each (λ i z. 2 ≤ z → (l : ℕ) × Runs (actor_at t l) i) s.marks d m 0 within (λ h. absurd (omega arith))
            (λ i ne h. let p = ok.runs_marked.somebody i h in (p.0, gone p.0 i ne p.1));
        marked = λ l i. set_each (λ n x. Runs x i → 2 ≤ slice_index ms i) s.actors k a' Absent here (λ z. absurd z)
            (λ n ne h. let two = ok.runs_marked.marked n i h in let z = get_or-set_other s.marks d i m 0 (λ same. ne (ok.runs_marked.nobody_else n k i h (subst (λ (y : ℕ). Runs (actor_at s k) y) (sym same) runs))) in omega arith) l;
        nobody_else = λ l n i h g. ok.runs_marked.nobody_else l n i (runs_back c s k ok here (Running r) a' e s.bounds ms s.count l i (λ z. absurd z) h) (runs_back c s k ok here (Running r) a' e s.bounds ms s.count n i (λ z. absurd z) g);
      }
      (λ i small nobody. dite (ℕ_discrete i d)
      (λ same. subst (λ (y : ℕ). IsQueuedOrOwed c t y ⊎ IsReachClosedAt c s.bounds (device_at c y)) (sym same) (⊎_elim (λ (z : IsQueuedOrOwed c s d). inl (stays d z)) (λ (z : IsFresh c s.bounds r). inr (closed z)) old.fresh))
      (λ ne. ⊎_elim (λ (z : IsQueuedOrOwed c s i). inl (stays i z)) inr (ok.resting i small (λ l h. nobody l (gone l i ne h)))))
      tt
      (λ l _. watched_still c s k ok here (Running r) a' e s.bounds ms s.count same_bounds (λ n i _. stays i) (λ q _ h. inr h) l)
