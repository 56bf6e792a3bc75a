-- The state of the machine: the bounds, a mark for each device, the count, and what each actor number is at.
-- A bound is kept as its reach, at its index: twice the net for a low, and one more for a high. A mark is the sum of 1 for Queued and 2 for Running.
-- An actor is absent, or idle with some credits, or runs a device: then it has the reads that it loaded, the slots that it gave, at most one owed net with a place in its fan, and its credits.
use Rattle.std.specs.Prelude.{◌≡◌, ℕ, List, [], Option, Some, None, Bool, false, slice_index, slice_index_or, slice_set}
use Rattle.cvc_law.specs.declared.device.Device.{Device}
use Rattle.cvc_law.specs.Network.{Network, fan_of}
use Rattle.cvc_law.specs.Reach.{device_at, reach_given}
use Rattle.cvc_core.specs.declared.actor.Debt.{Debt}
use Rattle.cvc_core.specs.declared.actor.Run.{Run}
use Rattle.cvc_core.specs.declared.actor.Actor.{Actor}
use Rattle.cvc_core.specs.declared.actor.Actor.TheVariants.{Absent, Idle, Running}

pub record Machine : Type 0 where
  pub bounds : List ℕ
  pub marks : List ℕ
  pub count : ℕ
  pub actors : List Actor

abbrev pub actor_at : Machine → ℕ → Actor
actor_at s k = slice_index_or s.actors k Absent

abbrev pub put_actor : Machine → ℕ → Actor → Machine
put_actor s k a = record { bounds = s.bounds; marks = s.marks; count = s.count; actors = slice_set s.actors k a }

-- ---- the words that actors share
pub data Place : Type 0 where
  CountWord : Place
  BoundWord : ℕ → Place
  MarkWord : ℕ → Place

-- what stands at a place
abbrev pub found : Machine → Place → ℕ
found s CountWord = s.count
found s (BoundWord b) = slice_index s.bounds b
found s (MarkWord d) = slice_index s.marks d

abbrev pub put_count : Place → ℕ → ℕ → ℕ
put_count CountWord x n = x
put_count (BoundWord b) x n = n
put_count (MarkWord d) x n = n

abbrev pub put_bound : Place → ℕ → List ℕ → List ℕ
put_bound CountWord x f = f
put_bound (BoundWord b) x f = slice_set f b x
put_bound (MarkWord d) x f = f

abbrev pub put_mark : Place → ℕ → List ℕ → List ℕ
put_mark CountWord x ms = ms
put_mark (BoundWord b) x ms = ms
put_mark (MarkWord d) x ms = slice_set ms d x

-- the state with x at a place
abbrev pub put : Machine → Place → ℕ → Machine
put s q x = record { bounds = put_bound q x s.bounds; marks = put_mark q x s.marks; count = put_count q x s.count; actors = s.actors }

-- ---- an actor that runs a device
abbrev pub device_of : Network → Run → Device
device_of c r = device_at c r.device.0

-- the reach that a read found, where it was loaded
abbrev pub read_at : Run → ℕ → Option ℕ
read_at r i = slice_index_or r.reads i None

abbrev pub or_nothing : Option ℕ → ℕ
or_nothing None = 0
or_nothing (Some x) = x

-- the same, where a read that was not loaded is unknown
abbrev pub held : Run → ℕ → ℕ
held r i = or_nothing (read_at r i)

abbrev pub given_at : Run → ℕ → Bool
given_at r k = slice_index_or r.given k false

-- what a slot gives on the loaded reads
abbrev pub offer : Network → Run → ℕ → ℕ
offer c r k = reach_given c (device_of c r) k (held r)

abbrev pub no_debt : Debt
no_debt = record { net = record { 0 = 0 }; place = 0 }

abbrev pub debt_of : Option Debt → Debt
debt_of None = no_debt
debt_of (Some debt) = debt

-- the device that is to be marked next
abbrev pub next_device : Network → Run → ℕ
next_device c r = slice_index (fan_of c (debt_of r.owes).net.0) (debt_of r.owes).place

abbrev pub no_run : Run
no_run = record { device = record { 0 = 0 }; reads = []; given = []; owes = None; credits = 0 }

abbrev pub run_of : Actor → Run
run_of (Running r) = r
run_of _ = no_run

abbrev pub credits_of : Actor → ℕ
credits_of Absent = 0
credits_of (Idle n) = n
credits_of (Running r) = r.credits

-- it holds of the run, if the actor runs a device
abbrev pub IfRunning : Actor → (Run → Type 0) → Type 0
IfRunning (Running r) P = P r
IfRunning _ P = Unit {0}

-- the actor runs the device of that number
abbrev pub Runs : Actor → ℕ → Type 0
Runs (Running r) d = r.device.0 ≡ d
Runs _ d = ⊥
