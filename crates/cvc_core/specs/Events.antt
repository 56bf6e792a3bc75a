-- The events: for each its guard and its effect. Most are one atomic step of one actor; a low is lowered by an even slot and a high raised by an odd one.
-- A split makes an absent actor idle, and a join makes an idle one absent.
use Rattle.std.specs.Prelude.{◌≡◌, ◌≢◌, ◌%◌, ◌<◌, List, [], ◌∷◌, length}
use Rattle.cvc_law.specs.Network.{Network}
use Rattle.cvc_core.specs.declared.actor.Actor.TheVariants.{Absent, Idle}
use Rattle.cvc_core.specs.declared.actor.Intent.TheVariants.{Read, Widen, TakeCredit, Queue, Claim, Release, GiveCredit, AskCount, LookAt}
use Rattle.cvc_core.specs.declared.event.Event.{Event}
use Rattle.cvc_core.specs.declared.event.Event.TheVariants.{Load, Lower, Raise, Add, SetQueued, Take, DropRunning, Subtract, ReadCount, Look, Split, Join}
use Rattle.cvc_core.specs.State.{Machine, actor_at, put_actor}
use Rattle.cvc_core.specs.Steps.{MayStep, after_step}

-- the guard
abbrev pub IsEnabled : Network → Machine → Event → Type 0
IsEnabled c s (Load k i) = MayStep c s k (Read i)
IsEnabled c s (Lower k slot) = (slot % 2 ≡ 0) × MayStep c s k (Widen slot)
IsEnabled c s (Raise k slot) = (slot % 2 ≡ 1) × MayStep c s k (Widen slot)
IsEnabled c s (Add k) = MayStep c s k TakeCredit
IsEnabled c s (SetQueued k) = MayStep c s k Queue
IsEnabled c s (Take k d) = MayStep c s k (Claim d)
IsEnabled c s (DropRunning k) = MayStep c s k Release
IsEnabled c s (Subtract k) = MayStep c s k GiveCredit
IsEnabled c s (ReadCount k) = MayStep c s k AskCount
IsEnabled c s (Look k d) = MayStep c s k (LookAt d)
IsEnabled c s (Split k l) = (actor_at s k ≡ Idle 0) × (l < length s.actors) × (actor_at s l ≡ Absent)
IsEnabled c s (Join k l) = (k ≢ l) × (actor_at s k ≡ Idle 0) × (actor_at s l ≡ Idle 0)

-- the effect
abbrev pub after : Network → Machine → Event → Machine
after c s (Load k i) = after_step c s k (Read i)
after c s (Lower k slot) = after_step c s k (Widen slot)
after c s (Raise k slot) = after_step c s k (Widen slot)
after c s (Add k) = after_step c s k TakeCredit
after c s (SetQueued k) = after_step c s k Queue
after c s (Take k d) = after_step c s k (Claim d)
after c s (DropRunning k) = after_step c s k Release
after c s (Subtract k) = after_step c s k GiveCredit
after c s (ReadCount k) = after_step c s k AskCount
after c s (Look k d) = after_step c s k (LookAt d)
after c s (Split k l) = put_actor s l (Idle 0)
after c s (Join k l) = put_actor s l Absent

-- each event of the list is enabled when its turn comes
abbrev pub AreEnabled : Network → Machine → List Event → Type 0
AreEnabled c s [] = Unit {0}
AreEnabled c s (e ∷ es) = IsEnabled c s e × AreEnabled c (after c s e) es

-- after all of them
abbrev pub after_all : Network → Machine → List Event → Machine
after_all c s [] = s
after_all c s (e ∷ es) = after_all c (after c s e) es
