-- A step that is tried on a store: what its parts need, and that it did what it is to do.
use Rattle.std.proofs.Common.{◌≡◌, ℕ, ◌<◌, true, false, cond, nat_lt, max, List, length, set, get_or, Option, Some, None, arith, ap, refl, sym, subst, ◌∙◌, true≢false}
use Rattle.std.specs.Prelude.{slice_index, slice_set}
use Rattle.std.proofs.lemmas.List.{set-get_or}
use Rattle.std.proofs.lemmas.Grind.{get_or_default_zero}
use Rattle.cvc_base.specs.declared.ids.NetId.{NetId}
use Rattle.cvc_law.specs.Network.{Network, nets, fan_of}
use Rattle.cvc_law.specs.Conduction.{target}
use Rattle.cvc_law.specs.Reach.{read_place, target_place}
use Rattle.cvc_law.proofs.ReachPlaces.{device_sound, read_place_within, target_within, target_place_within}
use Rattle.cvc_law.proofs.ReachFans.{fan_within}
use Rattle.cvc_core.specs.declared.actor.Debt.{Debt}
use Rattle.cvc_core.specs.declared.actor.Run.{Run}
use Rattle.cvc_core.specs.declared.actor.Actor.{Actor}
use Rattle.cvc_core.specs.declared.actor.Actor.TheVariants.{Absent, Idle, Running}
use Rattle.cvc_core.specs.declared.actor.Intent.{Intent}
use Rattle.cvc_core.specs.declared.actor.Intent.TheVariants.{Read, Widen, TakeCredit, Queue, Claim, Release, GiveCredit, AskCount, LookAt, Peek}
use Rattle.cvc_core.specs.State.{Machine, actor_at, found, device_of, offer}
use Rattle.cvc_core.specs.Steps.{place_of, IsAllowed, IsPresent, step_by, loaded}
use Rattle.cvc_core.specs.Sound.{Sound}
use Rattle.cvc_core.specs.Store.{IsReady}
use Rattle.cvc_core.specs.Tried.{run_if, IsStepTried}
use Rattle.cvc_core.proofs.Building.{Fits, fits_at}
use Rattle.cvc_core.proofs.EachStep.{present_within}

pub running_is : (a : Actor) (r : Run) → run_if a ≡ Some r → a ≡ Running r
running_is Absent r e = cc
running_is (Idle n) r e = cc
running_is (Running q) r e = let same : q ≡ r = cc in ap Running same

-- ---- done, or not
pub done_at : (c : Network) (s t : Machine) (k : ℕ) (i : Intent) (a : Actor) → actor_at s k ≡ a → IsAllowed c i a (found s (place_of c i a)) → t ≡ step_by c s k i a → IsStepTried c s t k i true
done_at c s t k i a e may same = record {
  when = ((λ _. subst (λ (z : Actor). IsAllowed c i z (found s (place_of c i z))) (sym e) may), (λ _. refl));
  effect = λ _. subst (λ (z : Actor). t ≡ step_by c s k i z) (sym e) same;
  unchanged = λ h. absurd (true≢false h);
}

pub refused_at : (c : Network) (s : Machine) (k : ℕ) (i : Intent) (a : Actor) → actor_at s k ≡ a → (IsAllowed c i a (found s (place_of c i a)) → ⊥) → IsStepTried c s s k i false
refused_at c s k i a e refuses = record {
  when = ((λ h. absurd (true≢false (sym h))), (λ h. absurd (refuses (subst (λ (z : Actor). IsAllowed c i z (found s (place_of c i z))) e h))));
  effect = λ h. absurd (true≢false (sym h));
  unchanged = λ _. refl;
}

-- a step that only a running actor makes
abbrev pub OnRun : Intent → Type 0
OnRun (Read i) = Unit {0}
OnRun (Widen k) = Unit {0}
OnRun TakeCredit = Unit {0}
OnRun Queue = Unit {0}
OnRun Release = Unit {0}
OnRun _ = ⊥

only_running : (c : Network) (i : Intent) (a : Actor) (x : ℕ) → OnRun i → run_if a ≡ None → IsAllowed c i a x → ⊥
only_running c i (Running r) x on e h = cc
only_running c (Read j) Absent x on e h = h
only_running c (Widen j) Absent x on e h = h
only_running c TakeCredit Absent x on e h = h
only_running c Queue Absent x on e h = h
only_running c Release Absent x on e h = h
only_running c (Claim d) Absent x on e h = on
only_running c GiveCredit Absent x on e h = on
only_running c AskCount Absent x on e h = on
only_running c (LookAt d) Absent x on e h = on
only_running c (Peek b) Absent x on e h = on
only_running c (Read j) (Idle n) x on e h = h
only_running c (Widen j) (Idle n) x on e h = h
only_running c TakeCredit (Idle n) x on e h = h
only_running c Queue (Idle n) x on e h = h
only_running c Release (Idle n) x on e h = h
only_running c (Claim d) (Idle n) x on e h = on
only_running c GiveCredit (Idle n) x on e h = on
only_running c AskCount (Idle n) x on e h = on
only_running c (LookAt d) (Idle n) x on e h = on
only_running c (Peek b) (Idle n) x on e h = on

pub none_runs : (c : Network) (s : Machine) (k : ℕ) (i : Intent) → OnRun i → None ≡ run_if (actor_at s k) → IsStepTried c s s k i false
none_runs c s k i on e = refused_at c s k i (actor_at s k) refl (only_running c i (actor_at s k) (found s (place_of c i (actor_at s k))) on (sym e))

pub run_refused : (c : Network) (s : Machine) (k : ℕ) (i : Intent) (r : Run) → Some r ≡ run_if (actor_at s k) → (IsAllowed c i (Running r) (found s (place_of c i (Running r))) → ⊥) → IsStepTried c s s k i false
run_refused c s k i r e = refused_at c s k i (Running r) (running_is (actor_at s k) r (sym e))

pub run_done : (c : Network) (s t : Machine) (k : ℕ) (i : Intent) (r : Run) → Some r ≡ run_if (actor_at s k) → IsAllowed c i (Running r) (found s (place_of c i (Running r))) → t ≡ step_by c s k i (Running r) → IsStepTried c s t k i true
run_done c s t k i r e = done_at c s t k i (Running r) (running_is (actor_at s k) r (sym e))

-- ---- what is known of the run of an actor
module _ (c : Network) (s : Machine) (k : ℕ) (r : Run) (ok : Sound c s) (e : Some r ≡ run_if (actor_at s k)) where
  at : actor_at s k ≡ Running r
  at = running_is (actor_at s k) r (sym e)

  fit : Fits c s.bounds r
  fit = fits_at c s k r ok at

  pub run_ready : IsReady c r
  run_ready = record { circuit = ok.form.circuit; run = fit.run; in_range = fit.in_range }

  pub run_within : k < length s.actors
  run_within = present_within s k (subst IsPresent (sym at) tt)

  pub run_read_within : (i : ℕ) → read_place (device_of c r) i < length s.bounds
  run_read_within i = let h = read_place_within c (device_of c r) (device_sound c ok.form.circuit r.device.0 fit.run.device) i in let long = ok.in_range.bounds.every_bound in omega arith

  pub run_target_within : (j : ℕ) → target_place (device_of c r) j < length s.bounds
  run_target_within j = let h = target_place_within c (device_of c r) (device_sound c ok.form.circuit r.device.0 fit.run.device) j in let long = ok.in_range.bounds.every_bound in omega arith

  pub run_debt_net : (debt : Debt) → r.owes ≡ Some debt → debt.net.0 < nets c
  run_debt_net debt is = let given = (fit.in_order.debt debt is).was_given in subst (λ (n : ℕ). n < nets c) given.2 (target_within (nets c) (device_of c r) (device_sound c ok.form.circuit r.device.0 fit.run.device) given.0)

  pub run_debt_place : (debt : Debt) → r.owes ≡ Some debt → debt.place < length (fan_of c debt.net.0)
  run_debt_place debt is = (fit.in_order.debt debt is).inside

  pub run_device_marked : r.device.0 < length s.marks
  run_device_marked = let long = ok.form.every_device in let lt = fit.run.device in omega arith

  -- the device that is due has a mark
  pub run_due_marked : (debt : Debt) (d : ℕ) → r.owes ≡ Some debt → d ≡ slice_index (fan_of c debt.net.0) debt.place → d < length s.marks
  run_due_marked debt d is at = let lt = fan_within c debt.net.0 debt.place (run_debt_place debt is) in let long = ok.form.every_device in omega arith

-- ---- effects
pub index_is : (l : List ℕ) (i p x : ℕ) → i < length l → p ≡ i → x ≡ get_or l p x → x ≡ slice_index l i
index_is l i p x lt same h = let there : get_or l p x ≡ get_or l p 0 = get_or_default_zero l p x (omega arith) in h ∙ (there ∙ ap (slice_index l) same)

pub read_effect : (c : Network) (s : Machine) (k i x : ℕ) (r : Run) → x ≡ slice_index s.bounds (read_place (device_of c r) i)
    → record { bounds = s.bounds; marks = s.marks; count = s.count; actors = set s.actors k (Running (loaded i x r)) } ≡ step_by c s k (Read i) (Running r)
read_effect c s k i x r is = let b : ℕ = read_place (device_of c r) i in
    ap (λ (z : ℕ). record { bounds = s.bounds; marks = s.marks; count = s.count; actors = set s.actors k (Running (loaded i z r)) }) is
    ∙ ap (λ (f : List ℕ). record { bounds = f; marks = s.marks; count = s.count; actors = set s.actors k (Running (loaded i (slice_index s.bounds b) r)) }) (sym (set-get_or s.bounds b 0))

abbrev then_owing : Run → ℕ → Option Debt → Run
then_owing r j owes = record { device = r.device; reads = r.reads; given = slice_set r.given j true; owes = owes; credits = r.credits }

pub widen_effect : (c : Network) (s : Machine) (k j bound before reach most : ℕ) (net : NetId) (r : Run) (owes : Option Debt)
    → net.0 ≡ target (device_of c r) j → bound ≡ target_place (device_of c r) j → before ≡ slice_index s.bounds (target_place (device_of c r) j) → reach ≡ offer c r j → most ≡ max before reach → owes ≡ cond (nat_lt before reach) (Some record { net = net; place = 0 }) None
    → record { bounds = set s.bounds bound most; marks = s.marks; count = s.count; actors = set s.actors k (Running (then_owing r j owes)) } ≡ step_by c s k (Widen j) (Running r)
widen_effect c s k j bound before reach most net r owes at place was gives most_is owes_is =
    let net_is : net ≡ record { 0 = target (device_of c r) j } = ap (λ (n : ℕ). record { 0 = n }) at in
    let to : List ℕ → Option Debt → Machine = λ f o. record { bounds = f; marks = s.marks; count = s.count; actors = set s.actors k (Running (then_owing r j o)) } in
    let bounds_are : set s.bounds bound most ≡ set s.bounds (target_place (device_of c r) j) (max (slice_index s.bounds (target_place (device_of c r) j)) (offer c r j)) = rw (most_is, place, was, gives) refl in
    let owed : owes ≡ cond (nat_lt (slice_index s.bounds (target_place (device_of c r) j)) (offer c r j)) (Some record { net = record { 0 = target (device_of c r) j }; place = 0 }) None =
    owes_is ∙ rw (was, gives, net_is) refl in
    ap (λ (f : List ℕ). to f owes) bounds_are ∙ ap (to (set s.bounds (target_place (device_of c r) j) (max (slice_index s.bounds (target_place (device_of c r) j)) (offer c r j)))) owed
