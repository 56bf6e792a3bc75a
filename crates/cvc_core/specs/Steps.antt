-- The atomic steps of one actor. A step acts on one word: it finds what stands there and puts a new word in its place, and the actor then is at something new.
-- Each of the four functions below has a row for each kind of step: which word it is, when the step may be made, what the word becomes, and what the actor becomes.
use Rattle.std.specs.Prelude.{◌≡◌, ℕ, ◌+◌, ◌-◌, ◌%◌, ◌<◌, max, ◌==◌, nat_lt, Option, Some, None, IsSome, Bool, true, false, if◌then◌else◌, length, replicate, slice_set, ◌⊎◌}
use Rattle.cvc_law.specs.Network.{Network, devices, is_declared, fan_of}
use Rattle.cvc_law.specs.Conduction.{target}
use Rattle.cvc_law.specs.Reach.{width, read_place, target_place, needs}
use Rattle.cvc_core.specs.declared.actor.Debt.{Debt}
use Rattle.cvc_core.specs.declared.actor.Run.{Run}
use Rattle.cvc_core.specs.declared.actor.Actor.{Actor}
use Rattle.cvc_core.specs.declared.actor.Actor.TheVariants.{Absent, Idle, Running}
use Rattle.cvc_core.specs.declared.actor.Intent.{Intent}
use Rattle.cvc_core.specs.declared.actor.Intent.TheVariants.{Read, Widen, TakeCredit, Queue, Claim, Release, GiveCredit, AskCount, LookAt, Peek}
use Rattle.cvc_core.specs.State.{Machine, actor_at, put_actor, Place, CountWord, BoundWord, MarkWord, found, put, device_of, read_at, given_at, offer, debt_of, next_device, run_of}

-- ---- which word
abbrev pub place_of : Network → Intent → Actor → Place
place_of c (Read i) a = BoundWord (read_place (device_of c (run_of a)) i)
place_of c (Widen k) a = BoundWord (target_place (device_of c (run_of a)) k)
place_of c TakeCredit a = CountWord
place_of c Queue a = MarkWord (next_device c (run_of a))
place_of c (Claim d) a = MarkWord d.0
place_of c Release a = MarkWord (run_of a).device.0
place_of c GiveCredit a = CountWord
place_of c AskCount a = CountWord
place_of c (LookAt d) a = MarkWord d.0
place_of c (Peek b) a = BoundWord b

-- ---- when
abbrev pub NothingGiven : Run → Type 0
NothingGiven r = (k : ℕ) → given_at r k ≡ false

-- each needed read was loaded
abbrev pub IsLoaded : Network → Run → Type 0
IsLoaded c r = (i : ℕ) → needs (device_of c r).kind i ≡ true → IsSome (read_at r i)

abbrev pub Owes : Run → Type 0
Owes r = IsSome r.owes

-- the slot was given, or gives nothing, or its target is declared
abbrev pub IsSettled : Network → Run → ℕ → Type 0
IsSettled c r k = (given_at r k ≡ true) ⊎ (offer c r k ≡ 0) ⊎ (is_declared c (target (device_of c r) k) ≡ true)

abbrev pub IsUnsettled : Network → Run → ℕ → Type 0
IsUnsettled c r k = (given_at r k ≡ false) × (0 < offer c r k) × (is_declared c (target (device_of c r) k) ≡ false)

-- the mark of a device that is Queued and that nobody runs
abbrev pub plain_queued : ℕ
plain_queued = 1

abbrev pub IsPresent : Actor → Type 0
IsPresent Absent = ⊥
IsPresent _ = Unit {0}

-- by what the actor is at, and the word that the step finds
abbrev pub IsAllowed : Network → Intent → Actor → ℕ → Type 0
IsAllowed c (Read i) (Running r) x = (needs (device_of c r).kind i ≡ true) × (read_at r i ≡ None) × NothingGiven r
IsAllowed c (Read i) _ x = ⊥
IsAllowed c (Widen k) (Running r) x = (k < 4) × IsLoaded c r × (r.owes ≡ None) × IsUnsettled c r k
IsAllowed c (Widen k) _ x = ⊥
IsAllowed c TakeCredit (Running r) x = Owes r × (r.credits ≡ 1)
IsAllowed c TakeCredit _ x = ⊥
IsAllowed c Queue (Running r) x = Owes r × (r.credits ≡ 2)
IsAllowed c Queue _ x = ⊥
IsAllowed c (Claim d) (Idle n) x = (d.0 < devices c) × (n ≡ 0) × (x ≡ plain_queued)
IsAllowed c (Claim d) _ x = ⊥
IsAllowed c Release (Running r) x = IsLoaded c r × (r.owes ≡ None) × ((k : ℕ) → k < 4 → IsSettled c r k)
IsAllowed c Release _ x = ⊥
IsAllowed c GiveCredit (Running r) x = r.credits ≡ 2
IsAllowed c GiveCredit (Idle n) x = 0 < n
IsAllowed c GiveCredit Absent x = ⊥
IsAllowed c AskCount a x = IsPresent a
IsAllowed c (LookAt d) a x = (d.0 < devices c) × IsPresent a
IsAllowed c (Peek b) a x = (b < width c) × IsPresent a

-- ---- what the word becomes
abbrev pub is_queued : ℕ → Bool
is_queued m = m % 2 == 1

abbrev pub queued : ℕ → ℕ
queued m = if is_queued m then m else m + 1

abbrev pub new_word : Network → Intent → Actor → ℕ → ℕ
new_word c (Read i) a x = x
new_word c (Widen k) a x = max x (offer c (run_of a) k)
new_word c TakeCredit a x = x + 1
new_word c Queue a x = queued x
new_word c (Claim d) a x = 2
new_word c Release a x = x % 2
new_word c GiveCredit a x = x - 1
new_word c AskCount a x = x
new_word c (LookAt d) a x = x
new_word c (Peek b) a x = x

-- ---- what the actor becomes
abbrev pub loaded : ℕ → ℕ → Run → Run
loaded i x r = record { device = r.device; reads = slice_set r.reads i (Some x); given = r.given; owes = r.owes; credits = r.credits }

-- the slot was given; where the bound changed, its net is owed from the first place of the fan
abbrev pub widened : Network → ℕ → ℕ → Run → Run
widened c k x r = record {
  device = r.device;
  reads = r.reads;
  given = slice_set r.given k true;
  owes = if nat_lt x (offer c r k) then Some record { net = record { 0 = target (device_of c r) k }; place = 0 } else None;
  credits = r.credits;
}

abbrev pub with_credits : ℕ → Run → Run
with_credits n r = record { device = r.device; reads = r.reads; given = r.given; owes = r.owes; credits = n }

-- one place on in the fan; nothing at its end
abbrev pub next_debt : Network → Debt → Option Debt
next_debt c debt = if nat_lt (debt.place + 1) (length (fan_of c debt.net.0)) then Some record { net = debt.net; place = debt.place + 1 } else None

-- a credit went to a mark that was not Queued
abbrev pub marked : Network → ℕ → Run → Run
marked c x r = record { device = r.device; reads = r.reads; given = r.given; owes = next_debt c (debt_of r.owes); credits = if is_queued x then r.credits else r.credits - 1 }

abbrev pub one_more : Actor → Actor
one_more (Running r) = Running (with_credits (r.credits + 1) r)
one_more a = a

abbrev pub one_less : Actor → Actor
one_less Absent = Absent
one_less (Idle n) = Idle (n - 1)
one_less (Running r) = Running (with_credits (r.credits - 1) r)

-- nothing loaded, given or owed, and one credit
abbrev pub begun : ℕ → Run
begun d = record { device = record { 0 = d }; reads = replicate 6 None; given = replicate 4 false; owes = None; credits = 1 }

abbrev pub on_run : Actor → (Run → Run) → Actor
on_run (Running r) f = Running (f r)
on_run a f = a

abbrev pub new_actor : Network → Intent → Actor → ℕ → Actor
new_actor c (Read i) a x = on_run a (loaded i x)
new_actor c (Widen k) a x = on_run a (widened c k x)
new_actor c TakeCredit a x = one_more a
new_actor c Queue a x = on_run a (marked c x)
new_actor c (Claim d) a x = Running (begun d.0)
new_actor c Release a x = Idle (run_of a).credits
new_actor c GiveCredit a x = one_less a
new_actor c AskCount a x = a
new_actor c (LookAt d) a x = a
new_actor c (Peek b) a x = a

-- ---- the step of actor k, which is at a
abbrev pub step_by : Network → Machine → ℕ → Intent → Actor → Machine
step_by c s k i a = put_actor (put s (place_of c i a) (new_word c i a (found s (place_of c i a)))) k (new_actor c i a (found s (place_of c i a)))

abbrev pub after_step : Network → Machine → ℕ → Intent → Machine
after_step c s k i = step_by c s k i (actor_at s k)

abbrev pub MayStep : Network → Machine → ℕ → Intent → Type 0
MayStep c s k i = IsAllowed c i (actor_at s k) (found s (place_of c i (actor_at s k)))
