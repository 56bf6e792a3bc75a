-- A sound state again, after one actor and at most one word changed: what each part of soundness needs of the change.
use Rattle.std.proofs.Common.{◌≡◌, ◌≢◌, ℕ, ◌+◌, ◌%◌, ◌<◌, ◌≤◌, List, length, set, le_trans, arith, ap, refl, sym, subst, ◌∙◌, ◌⊎◌, inl, inr, ⊎_elim, length-set, get_or-set_other, get_or-set_same}
use Rattle.std.specs.Prelude.{slice_index}
use Rattle.std.specs.List.{sum_by}
use Rattle.std.proofs.lemmas.List.Sums.{sum_by-set}
use mathlib.Core.Logic.{dite}
use native.Mathlib.Decide.{ℕ_discrete}
use Rattle.cvc_law.specs.Network.{Network, devices}
use Rattle.cvc_law.specs.Reach.{widest, device_at, read_place, target_place, reach_reads}
use Rattle.cvc_law.specs.ReachLeast.{IsReachFamily, IsReachClosedAt, IsReachWithin}
use Rattle.cvc_core.specs.declared.actor.Run.{Run}
use Rattle.cvc_core.specs.declared.actor.Actor.{Actor}
use Rattle.cvc_core.specs.declared.actor.Actor.TheVariants.{Absent, Running}
use Rattle.cvc_core.specs.State.{Machine, actor_at, device_of, held, credits_of, IfRunning, Runs}
use Rattle.cvc_core.specs.Sound.{IsRunOf, IsInOrder, IsWithinClosed, queued_part, HasFewCredits, ActorOwes, IsQueuedOrOwed, AreRestingClosed, IsFresh, IsWatched, Sound}
use Rattle.cvc_core.proofs.Placing.{each_set, set_each, map_running}

-- what holds of a running actor, under the bounds f
pub record Fits (c : Network) (f : List ℕ) (r : Run) : Type 0 where
  pub run : IsRunOf c r
  pub in_range : (i : ℕ) → held r i ≤ widest c
  pub within : (i : ℕ) → held r i ≤ reach_reads f (device_of c r) i
  pub in_order : IsInOrder c r

-- who runs which device
pub record AreMarked (s : Machine) : Type 0 where
  pub somebody : (d : ℕ) → 2 ≤ slice_index s.marks d → (k : ℕ) × Runs (actor_at s k) d
  pub marked : (k d : ℕ) → Runs (actor_at s k) d → 2 ≤ slice_index s.marks d
  pub nobody_else : (k l d : ℕ) → Runs (actor_at s k) d → Runs (actor_at s l) d → k ≡ l

pub fits_at : (c : Network) (s : Machine) (k : ℕ) (r : Run) → Sound c s → actor_at s k ≡ Running r → Fits c s.bounds r
fits_at c s k r ok e = record {
  run = subst (λ (z : Actor). IfRunning z (IsRunOf c)) e (ok.form.runs k);
  in_range = subst (λ (z : Actor). IfRunning z (λ q. (i : ℕ) → held q i ≤ widest c)) e (ok.in_range.reads k);
  within = subst (λ (z : Actor). IfRunning z (λ q. (i : ℕ) → held q i ≤ reach_reads s.bounds (device_of c q) i)) e (ok.reads_within k);
  in_order = subst (λ (z : Actor). IfRunning z (IsInOrder c)) e (ok.runs_marked.in_order k);
}

pub watched_at : (c : Network) (s : Machine) (k : ℕ) (r : Run) → Sound c s → actor_at s k ≡ Running r → IsWatched c s r
watched_at c s k r ok e = subst (λ (z : Actor). IfRunning z (IsWatched c s)) e (ok.watched k)

pub credits_at : (c : Network) (s : Machine) (k : ℕ) (a : Actor) → Sound c s → actor_at s k ≡ a → HasFewCredits a
credits_at c s k a ok e = subst HasFewCredits e (ok.counted.few_credits k)

runs_own : (s : Machine) (k : ℕ) (r : Run) → actor_at s k ≡ Running r → Runs (actor_at s k) r.device.0
runs_own s k r e = subst (λ (z : Actor). Runs z r.device.0) (sym e) refl

module _ (c : Network) (s : Machine) (k : ℕ) (ok : Sound c s) (here : k < length s.actors) (a a' : Actor) (is : actor_at s k ≡ a) (f ms : List ℕ) (n : ℕ) where
  abbrev next : Machine
  next = record { bounds = f; marks = ms; count = n; actors = set s.actors k a' }

  pub now : actor_at next k ≡ a'
  now = get_or-set_same s.actors k a' Absent here

  others : (l : ℕ) → l ≢ k → actor_at next l ≡ actor_at s l
  others l ne = get_or-set_other s.actors k l a' Absent ne

  -- what was queued or owed is still
  pub noted : (d : ℕ) → (slice_index s.marks d % 2 ≡ 1 → IsQueuedOrOwed c next d) → (ActorOwes c a d → IsQueuedOrOwed c next d) → IsQueuedOrOwed c s d → IsQueuedOrOwed c next d
  noted d queued owes h = ⊎_elim queued (λ (t : (l : ℕ) × ActorOwes c (actor_at s l) d). dite (ℕ_discrete t.0 k)
      (λ e. owes (subst (λ (z : Actor). ActorOwes c z d) (ap (actor_at s) e ∙ is) t.1))
      (λ ne. inr (t.0, subst (λ (z : Actor). ActorOwes c z d) (sym (others t.0 ne)) t.1))) h

  pub runs_there : (l d : ℕ) → (Runs a d → Runs a' d) → Runs (actor_at s l) d → Runs (actor_at next l) d
  runs_there l d mine h = dite (ℕ_discrete l k)
      (λ e. subst (λ (z : Actor). Runs z d) (sym (ap (actor_at next) e ∙ now)) (mine (subst (λ (z : Actor). Runs z d) (ap (actor_at s) e ∙ is) h)))
      (λ ne. subst (λ (z : Actor). Runs z d) (sym (others l ne)) h)

  pub runs_back : (l d : ℕ) → (Runs a' d → Runs a d) → Runs (actor_at next l) d → Runs (actor_at s l) d
  runs_back l d mine h = dite (ℕ_discrete l k)
      (λ e. subst (λ (z : Actor). Runs z d) (sym (ap (actor_at s) e ∙ is)) (mine (subst (λ (z : Actor). Runs z d) (ap (actor_at next) e ∙ now) h)))
      (λ ne. subst (λ (z : Actor). Runs z d) (others l ne) h)

  -- another actor is watched as before, where what it read is still fresh or its device is queued or owed
  pub watched_still : IsReachWithin s.bounds f → ((l d : ℕ) → Runs (actor_at s l) d → IsQueuedOrOwed c s d → IsQueuedOrOwed c next d)
      → ((r : Run) → IsRunOf c r → IsFresh c s.bounds r → IsQueuedOrOwed c next r.device.0 ⊎ IsFresh c f r)
      → (l : ℕ) → IfRunning (actor_at s l) (IsWatched c next)
  watched_still more stays still l = map_running (IsWatched c s) (IsWatched c next) (actor_at s l) (λ r e h. record {
    fresh = ⊎_elim (λ (t : IsQueuedOrOwed c s r.device.0). inl (stays l r.device.0 (runs_own s l r e) t)) (still r (fits_at c s l r ok e).run) h.fresh;
    covered = λ j g. le_trans (h.covered j g) (more (target_place (device_of c r) j));
  }) (ok.watched l)

  pub build : IsReachFamily c f → IsReachWithin s.bounds f → IsWithinClosed c f → length ms ≡ length s.marks → ((d : ℕ) → slice_index ms d < 4)
      → (n + sum_by queued_part s.marks) + credits_of a ≡ (s.count + sum_by queued_part ms) + credits_of a' → HasFewCredits a' → IfRunning a' (Fits c f)
      → AreMarked next → AreRestingClosed c next → IfRunning a' (IsWatched c next) → ((l : ℕ) → l ≢ k → IfRunning (actor_at s l) (IsWatched c next)) → Sound c next
  build family more least long small balance few own marked resting mine watched = record {
    form = record {
      circuit = ok.form.circuit;
      every_device = long ∙ ok.form.every_device;
      each_mark = small;
      few_actors = let few = ok.form.few_actors in let same = length-set s.actors k a' in omega arith;
      runs = each_set (λ (z : Actor). IfRunning z (IsRunOf c)) s.actors k a' Absent here (map_running (Fits c f) (IsRunOf c) a' (λ r _ h. h.run) own) ok.form.runs;
    };
    in_range = record {
      bounds = family;
      reads = each_set (λ (z : Actor). IfRunning z (λ r. (i : ℕ) → held r i ≤ widest c)) s.actors k a' Absent here
          (map_running (Fits c f) (λ r. (i : ℕ) → held r i ≤ widest c) a' (λ r _ h. h.in_range) own) ok.in_range.reads;
    };
    within = least;
    reads_within = each_set (λ (z : Actor). IfRunning z (λ r. (i : ℕ) → held r i ≤ reach_reads f (device_of c r) i)) s.actors k a' Absent here
        (map_running (Fits c f) (λ r. (i : ℕ) → held r i ≤ reach_reads f (device_of c r) i) a' (λ r _ h. h.within) own)
        (λ l. map_running (λ r. (i : ℕ) → held r i ≤ reach_reads s.bounds (device_of c r) i) (λ r. (i : ℕ) → held r i ≤ reach_reads f (device_of c r) i) (actor_at s l)
        (λ r _ h i. le_trans (h i) (more (read_place (device_of c r) i))) (ok.reads_within l));
    runs_marked = record {
      somebody = marked.somebody;
      marked = marked.marked;
      nobody_else = marked.nobody_else;
      in_order = each_set (λ (z : Actor). IfRunning z (IsInOrder c)) s.actors k a' Absent here (map_running (Fits c f) (IsInOrder c) a' (λ r _ h. h.in_order) own) ok.runs_marked.in_order;
    };
    counted = record {
      total = let all = ok.counted.total in let moved = sum_by-set credits_of s.actors k a' Absent here in let credits : credits_of (actor_at s k) ≡ credits_of a = ap credits_of is in omega arith;
      few_credits = each_set HasFewCredits s.actors k a' Absent here few ok.counted.few_credits;
    };
    resting = resting;
    watched = set_each (λ (l : ℕ) (z : Actor). IfRunning z (IsWatched c next)) s.actors k a' Absent here mine watched;
  }

  -- a step that neither takes a device nor drops one
  pub steady : IsReachFamily c f → IsReachWithin s.bounds f → IsWithinClosed c f → length ms ≡ length s.marks → ((d : ℕ) → slice_index ms d < 4)
      → (n + sum_by queued_part s.marks) + credits_of a ≡ (s.count + sum_by queued_part ms) + credits_of a' → HasFewCredits a' → IfRunning a' (Fits c f)
      → ((d : ℕ) → Runs a d → Runs a' d) → ((d : ℕ) → Runs a' d → Runs a d) → ((d : ℕ) → 2 ≤ slice_index s.marks d → 2 ≤ slice_index ms d) → ((d : ℕ) → 2 ≤ slice_index ms d → 2 ≤ slice_index s.marks d)
      → ((d : ℕ) → IsQueuedOrOwed c s d → IsQueuedOrOwed c next d)
      → ((d : ℕ) → d < devices c → IsReachClosedAt c s.bounds (device_at c d) → IsQueuedOrOwed c next d ⊎ IsReachClosedAt c f (device_at c d))
      → ((r : Run) → IsRunOf c r → IsFresh c s.bounds r → IsQueuedOrOwed c next r.device.0 ⊎ IsFresh c f r)
      → IfRunning a' (IsWatched c next) → Sound c next
  steady family more least long small balance few own to from up down stays closed still mine = build family more least long small balance few own
      record {
        somebody = λ d h. let t = ok.runs_marked.somebody d (down d h) in (t.0, runs_there t.0 d (to d) t.1);
        marked = λ l d h. up d (ok.runs_marked.marked l d (runs_back l d (from d) h));
        nobody_else = λ l m d h g. ok.runs_marked.nobody_else l m d (runs_back l d (from d) h) (runs_back m d (from d) g);
      }
      (λ d lt nobody. ⊎_elim (λ (t : IsQueuedOrOwed c s d). inl (stays d t)) (closed d lt) (ok.resting d lt (λ l h. nobody l (runs_there l d (to d) h))))
      mine
      (λ l _. watched_still more (λ m d _. stays d) still l)
