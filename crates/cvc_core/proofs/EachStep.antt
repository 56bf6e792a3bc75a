-- Every step that is allowed keeps a state sound, and so does every event whose guard holds.
use Rattle.std.proofs.Common.{◌≡◌, ℕ, ◌<◌, List, [], ◌∷◌, length, arith, refl, sym, subst}
use mathlib.Core.Logic.{dite}
use native.Mathlib.Decide.{dec_lt}
use Rattle.cvc_law.specs.Network.{Network}
use Rattle.cvc_core.specs.declared.actor.Actor.{Actor}
use Rattle.cvc_core.specs.declared.actor.Actor.TheVariants.{Absent, Idle, Running}
use Rattle.cvc_core.specs.declared.actor.Intent.{Intent}
use Rattle.cvc_core.specs.declared.actor.Intent.TheVariants.{Read, Widen, TakeCredit, Queue, Claim, Release, GiveCredit, AskCount, LookAt, Peek}
use Rattle.cvc_core.specs.declared.event.Event.{Event}
use Rattle.cvc_core.specs.declared.event.Event.TheVariants.{Load, Lower, Raise, Add, SetQueued, Take, DropRunning, Subtract, ReadCount, Look, Split, Join}
use Rattle.cvc_core.specs.State.{Machine, actor_at, put_actor, found}
use Rattle.cvc_core.specs.Steps.{place_of, IsAllowed, IsPresent, MayStep, step_by, after_step}
use Rattle.cvc_core.specs.Events.{IsEnabled, after, AreEnabled, after_all}
use Rattle.cvc_core.specs.Sound.{Sound}
use Rattle.cvc_core.proofs.Placing.{known, get_or_past}
use Rattle.cvc_core.proofs.Keeping.{look_keeps, ask_keeps, peek_keeps, resting_keeps, add_keeps, subtract_keeps, read_keeps, queue_keeps, claim_keeps, release_keeps}
use Rattle.cvc_core.proofs.Widening.{widen_keeps}

-- the actor is at a
pub step_keeps : (c : Network) (s : Machine) (k : ℕ) (i : Intent) (a : Actor) → Sound c s → k < length s.actors → actor_at s k ≡ a → IsAllowed c i a (found s (place_of c i a)) → Sound c (step_by c s k i a)
step_keeps c s k (Read i) (Running r) ok here e h = read_keeps c s k ok here i r e h.0 h.2
step_keeps c s k (Read i) Absent ok here e h = absurd h
step_keeps c s k (Read i) (Idle n) ok here e h = absurd h
step_keeps c s k (Widen j) (Running r) ok here e h = widen_keeps c s k ok here j r e h.0 h.1 h.2 h.3
step_keeps c s k (Widen j) Absent ok here e h = absurd h
step_keeps c s k (Widen j) (Idle n) ok here e h = absurd h
step_keeps c s k TakeCredit (Running r) ok here e h = add_keeps c s k ok here r e h.1
step_keeps c s k TakeCredit Absent ok here e h = absurd h
step_keeps c s k TakeCredit (Idle n) ok here e h = absurd h
step_keeps c s k Queue (Running r) ok here e h = let owed = known r.owes h.0 in queue_keeps c s k ok here r owed.0 owed.1 e h.1
step_keeps c s k Queue Absent ok here e h = absurd h
step_keeps c s k Queue (Idle n) ok here e h = absurd h
step_keeps c s k (Claim d) (Idle n) ok here e h = claim_keeps c s k ok here d.0 n e h.0 h.1 h.2
step_keeps c s k (Claim d) Absent ok here e h = absurd h
step_keeps c s k (Claim d) (Running r) ok here e h = absurd h
step_keeps c s k Release (Running r) ok here e h = release_keeps c s k ok here r e h.0 h.1 h.2
step_keeps c s k Release Absent ok here e h = absurd h
step_keeps c s k Release (Idle n) ok here e h = absurd h
step_keeps c s k GiveCredit a ok here e h = subtract_keeps c s k ok here a e h
step_keeps c s k AskCount a ok here e h = ask_keeps c s k ok here a e
step_keeps c s k (LookAt d) a ok here e h = look_keeps c s k ok here d.0 a e
step_keeps c s k (Peek b) a ok here e h = peek_keeps c s k ok here b a e

allowed_present : (c : Network) (i : Intent) (a : Actor) (x : ℕ) → IsAllowed c i a x → IsPresent a
allowed_present c i (Idle n) x h = tt
allowed_present c i (Running r) x h = tt
allowed_present c (Read i) Absent x h = h
allowed_present c (Widen j) Absent x h = h
allowed_present c TakeCredit Absent x h = h
allowed_present c Queue Absent x h = h
allowed_present c (Claim d) Absent x h = h
allowed_present c Release Absent x h = h
allowed_present c GiveCredit Absent x h = h
allowed_present c AskCount Absent x h = h
allowed_present c (LookAt d) Absent x h = h.1
allowed_present c (Peek b) Absent x h = h.1

-- only an actor of the machine is present
pub present_within : (s : Machine) (k : ℕ) → IsPresent (actor_at s k) → k < length s.actors
present_within s k h = dite (dec_lt k (length s.actors)) (λ z. z) (λ past. absurd (subst IsPresent (get_or_past s.actors k Absent (omega arith)) h))

pub may_within : (c : Network) (s : Machine) (k : ℕ) (i : Intent) → MayStep c s k i → k < length s.actors
may_within c s k i h = present_within s k (allowed_present c i (actor_at s k) (found s (place_of c i (actor_at s k))) h)

pub may_keeps : (c : Network) (s : Machine) (k : ℕ) (i : Intent) → Sound c s → MayStep c s k i → Sound c (after_step c s k i)
may_keeps c s k i ok h = step_keeps c s k i (actor_at s k) ok (may_within c s k i h) refl h

-- an actor that rests comes or goes
pub split_keeps : (c : Network) (s : Machine) (l : ℕ) → Sound c s → l < length s.actors → actor_at s l ≡ Absent → Sound c (put_actor s l (Idle 0))
split_keeps c s l ok here e = resting_keeps c s l ok here Absent (Idle 0) e s.count refl (omega arith) (λ d z. z) (λ d z. z) (λ d z. z) (λ P. tt)

pub join_keeps : (c : Network) (s : Machine) (l : ℕ) → Sound c s → actor_at s l ≡ Idle 0 → Sound c (put_actor s l Absent)
join_keeps c s l ok e = resting_keeps c s l ok (present_within s l (subst IsPresent (sym e) tt)) (Idle 0) Absent e s.count refl tt (λ d z. z) (λ d z. z) (λ d z. z) (λ P. tt)

pub event_keeps : (c : Network) (s : Machine) (e : Event) → Sound c s → IsEnabled c s e → Sound c (after c s e)
event_keeps c s (Load k i) ok h = may_keeps c s k (Read i) ok h
event_keeps c s (Lower k slot) ok h = may_keeps c s k (Widen slot) ok h.1
event_keeps c s (Raise k slot) ok h = may_keeps c s k (Widen slot) ok h.1
event_keeps c s (Add k) ok h = may_keeps c s k TakeCredit ok h
event_keeps c s (SetQueued k) ok h = may_keeps c s k Queue ok h
event_keeps c s (Take k d) ok h = may_keeps c s k (Claim d) ok h
event_keeps c s (DropRunning k) ok h = may_keeps c s k Release ok h
event_keeps c s (Subtract k) ok h = may_keeps c s k GiveCredit ok h
event_keeps c s (ReadCount k) ok h = may_keeps c s k AskCount ok h
event_keeps c s (Look k d) ok h = may_keeps c s k (LookAt d) ok h
event_keeps c s (Split k l) ok h = split_keeps c s l ok h.1 h.2
event_keeps c s (Join k l) ok h = join_keeps c s l ok h.2

pub events_keep : (c : Network) (es : List Event) (s : Machine) → Sound c s → AreEnabled c s es → Sound c (after_all c s es)
events_keep c [] s ok h = ok
events_keep c (e ∷ es) s ok h = events_keep c es (after c s e) (event_keeps c s e ok h.0) h.1
