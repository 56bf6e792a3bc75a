-- Sound states, in seven parts after what gives a state its form. Every part is kept by every event whose guard holds.
-- A device is owed where some actor owes a net from a place on and the device stands there in the net's fan, or later.
-- So a running actor that widened a net answers for each device of its fan until it has marked it, and no device is lost.
use Rattle.std.specs.Prelude.{◌≡◌, ℕ, ◌+◌, ◌%◌, ◌<◌, ◌≤◌, List, Option, Some, None, true, false, length, slice_index, ◌⊎◌}
use Rattle.std.specs.List.{sum_by}
use Rattle.cvc_law.specs.Network.{Network, devices, is_declared, fan_of, IsCircuit}
use Rattle.cvc_law.specs.Conduction.{target}
use Rattle.cvc_law.specs.Reach.{widest, device_at, target_place, needs, reach_reads}
use Rattle.cvc_law.specs.ReachLeast.{IsReachFamily, IsReachClosedAt, IsReachClosed, IsReachWithin}
use Rattle.cvc_core.specs.declared.actor.Debt.{Debt}
use Rattle.cvc_core.specs.declared.actor.Run.{Run}
use Rattle.cvc_core.specs.declared.actor.Actor.{Actor}
use Rattle.cvc_core.specs.declared.actor.Actor.TheVariants.{Absent, Idle, Running}
use Rattle.cvc_core.specs.State.{Machine, actor_at, device_of, read_at, held, given_at, offer, credits_of, IfRunning, Runs}
use Rattle.cvc_core.specs.Steps.{IsLoaded}

-- ---- the form of a state
-- of a run: its device is one of the circuit's, and it holds no read that the device doesn't need
pub record IsRunOf (c : Network) (r : Run) : Type 0 where
  pub device : r.device.0 < devices c
  pub six_reads : length r.reads ≡ 6
  pub four_slots : length r.given ≡ 4
  pub only_needed : (i x : ℕ) → read_at r i ≡ Some x → needs (device_of c r).kind i ≡ true

pub record IsStateOf (c : Network) (s : Machine) : Type 0 where
  pub circuit : IsCircuit c.fixed c.devices
  pub every_device : length s.marks ≡ devices c
  pub each_mark : (d : ℕ) → slice_index s.marks d < 4
  pub few_actors : length s.actors ≤ 64
  pub runs : (k : ℕ) → IfRunning (actor_at s k) (IsRunOf c)

-- ---- the first part: declared nets have their declared bounds, and every known bound and every held read lies from the floor to the ceiling
pub record IsStateInRange (c : Network) (s : Machine) : Type 0 where
  pub bounds : IsReachFamily c s.bounds
  pub reads : (k : ℕ) → IfRunning (actor_at s k) (λ r. (i : ℕ) → held r i ≤ widest c)

-- ---- the second: the bounds are within every closed family, and so within the least one
abbrev pub IsWithinClosed : Network → List ℕ → Type 0
IsWithinClosed c f = (g : List ℕ) → IsReachFamily c g → IsReachClosed c g → IsReachWithin f g

-- ---- the third: no held read is wider than the present bound
abbrev pub ReadsAreWithin : Network → Machine → Type 0
ReadsAreWithin c s = (k : ℕ) → IfRunning (actor_at s k) (λ r. (i : ℕ) → held r i ≤ reach_reads s.bounds (device_of c r) i)

-- ---- the fourth: who runs which device, what was given, and what is owed
-- an owed net isn't declared and is the target of a given slot, and the place lies inside its fan
pub record IsDebtOf (c : Network) (r : Run) (debt : Debt) : Type 0 where
  pub undeclared : is_declared c debt.net.0 ≡ false
  pub was_given : (k : ℕ) × (given_at r k ≡ true) × (target (device_of c r) k ≡ debt.net.0)
  pub inside : debt.place < length (fan_of c debt.net.0)

-- a slot was given only where all needed reads are held
pub record IsInOrder (c : Network) (r : Run) : Type 0 where
  pub given : (k : ℕ) → given_at r k ≡ true → IsLoaded c r
  pub debt : (debt : Debt) → r.owes ≡ Some debt → IsDebtOf c r debt

-- a device's mark says Running exactly where one actor runs it
pub record AreRunsMarked (c : Network) (s : Machine) : Type 0 where
  pub somebody : (d : ℕ) → 2 ≤ slice_index s.marks d → (k : ℕ) × Runs (actor_at s k) d
  pub marked : (k d : ℕ) → Runs (actor_at s k) d → 2 ≤ slice_index s.marks d
  pub nobody_else : (k l d : ℕ) → Runs (actor_at s k) d → Runs (actor_at s l) d → k ≡ l
  pub in_order : (k : ℕ) → IfRunning (actor_at s k) (IsInOrder c)

-- ---- the fifth: the count is the number of Queued marks and all credits
abbrev pub queued_part : ℕ → ℕ
queued_part mark = mark % 2

-- a running actor has 1 or 2, an idle one 0 to 2, an absent one none
abbrev pub HasFewCredits : Actor → Type 0
HasFewCredits Absent = Unit {0}
HasFewCredits (Idle n) = n ≤ 2
HasFewCredits (Running r) = (1 ≤ r.credits) × (r.credits ≤ 2)

pub record IsCounted (s : Machine) : Type 0 where
  pub total : s.count ≡ sum_by queued_part s.marks + sum_by credits_of s.actors
  pub few_credits : (k : ℕ) → HasFewCredits (actor_at s k)

-- ---- the sixth: each device that nobody runs is closed at, or Queued, or owed
-- the device stands in the owed net's fan, at the debt's place or later
abbrev pub IsOwedBy : Network → Option Debt → ℕ → Type 0
IsOwedBy c None d = ⊥
IsOwedBy c (Some debt) d = (j : ℕ) × (debt.place ≤ j) × (j < length (fan_of c debt.net.0)) × (slice_index (fan_of c debt.net.0) j ≡ d)

abbrev pub ActorOwes : Network → Actor → ℕ → Type 0
ActorOwes c (Running r) d = IsOwedBy c r.owes d
ActorOwes c _ d = ⊥

abbrev pub IsQueuedOrOwed : Network → Machine → ℕ → Type 0
IsQueuedOrOwed c s d = (slice_index s.marks d % 2 ≡ 1) ⊎ ((k : ℕ) × ActorOwes c (actor_at s k) d)

abbrev pub NobodyRuns : Machine → ℕ → Type 0
NobodyRuns s d = (k : ℕ) → Runs (actor_at s k) d → ⊥

abbrev pub AreRestingClosed : Network → Machine → Type 0
AreRestingClosed c s = (d : ℕ) → d < devices c → NobodyRuns s d → IsQueuedOrOwed c s d ⊎ IsReachClosedAt c s.bounds (device_at c d)

-- ---- the seventh: a device that runs has fresh reads, or is Queued or owed; and what was given is covered
-- every held read is the present bound
abbrev pub IsFresh : Network → List ℕ → Run → Type 0
IsFresh c f r = (i x : ℕ) → read_at r i ≡ Some x → x ≡ reach_reads f (device_of c r) i

pub record IsWatched (c : Network) (s : Machine) (r : Run) : Type 0 where
  pub fresh : IsQueuedOrOwed c s r.device.0 ⊎ IsFresh c s.bounds r
  pub covered : (k : ℕ) → given_at r k ≡ true → offer c r k ≤ slice_index s.bounds (target_place (device_of c r) k)

abbrev pub AreRunsWatched : Network → Machine → Type 0
AreRunsWatched c s = (k : ℕ) → IfRunning (actor_at s k) (IsWatched c s)

-- ---- all of them
pub record Sound (c : Network) (s : Machine) : Type 0 where
  pub form : IsStateOf c s
  pub in_range : IsStateInRange c s
  pub within : IsWithinClosed c s.bounds
  pub reads_within : ReadsAreWithin c s
  pub runs_marked : AreRunsMarked c s
  pub counted : IsCounted s
  pub resting : AreRestingClosed c s
  pub watched : AreRunsWatched c s
