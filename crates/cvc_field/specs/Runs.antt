-- How far the run of a device has come, by what its actor is at; and what a part of a run did.
use Rattle.std.specs.Prelude.{◌≡◌, ℕ, ◌+◌, ◌*◌, ◌<◌, ◌≤◌, ◌%◌, ℤ, List, ◌++◌, Option, Some, None, IsSome, Bool, true, false, length, take, nat_lt, slice_index_or, slice_set, if◌then◌else◌}
use Rattle.cvc_base.specs.declared.ids.DevId.{DevId}
use Rattle.cvc_law.specs.declared.interval.Interval.{Interval}
use Rattle.cvc_law.specs.declared.interval.Reads.{Reads}
use Rattle.cvc_law.specs.Network.{Network, fan_of, is_declared}
use Rattle.cvc_law.specs.Conduction.{given, target}
use Rattle.cvc_law.specs.Reach.{widest, bound_of, device_at}
use Rattle.cvc_core.specs.declared.actor.Debt.{Debt}
use Rattle.cvc_core.specs.declared.actor.Run.{Run}
use Rattle.cvc_core.specs.declared.actor.Actor.{Actor}
use Rattle.cvc_core.specs.declared.actor.Actor.TheVariants.{Running}
use Rattle.cvc_core.specs.State.{read_at, held, given_at, next_device}
use Rattle.cvc_core.specs.Steps.{NothingGiven, IsLoaded, IsSettled}
use Rattle.cvc_core.specs.Store.{IsReady, held_reads}
use Rattle.cvc_field.specs.declared.view.View.{View}
use Rattle.cvc_field.specs.Steps.{Step, AreAllowed, AreOfRun, entries, newly_queued, went}

-- from one view to another by steps of a run, which newly queued these devices
pub record Goes (v w : View) (queued : List DevId) : Type 0 where
  pub steps : List Step
  pub allowed : AreAllowed v.circuit v.actor steps
  pub of_run : AreOfRun steps
  pub view : w ≡ went v steps
  pub news : newly_queued (entries v.circuit v.actor steps) ≡ queued

-- and noted them in a tray of 32 places, as far as there was room
abbrev pub GoesNoting : View → View → List DevId → List DevId → Type 0
GoesNoting v w old new = (news : List DevId) × Goes v w news × (new ≡ take 32 (old ++ news))

-- the reads below i were loaded, and found these bounds
pub record LoadedTo (c : Network) (d : DevId) (i : ℕ) (bounds : List (Option ℤ)) (r : Run) : Type 0 where
  pub device : r.device ≡ d
  pub owes : r.owes ≡ None
  pub credits : r.credits ≡ 1
  pub four_slots : length r.given ≡ 4
  pub six_reads : length r.reads ≡ 6
  pub six_bounds : length bounds ≡ 6
  pub nothing_given : NothingGiven r
  pub done : (j : ℕ) → j < i → IsSome (read_at r j)
  pub later : (j : ℕ) → i ≤ j → read_at r j ≡ None
  pub in_range : (j : ℕ) → held r j ≤ widest c
  pub told : (j : ℕ) → j < 6 → slice_index_or bounds j None ≡ bound_of c (j % 2) (held r j)

abbrev pub IsLoading : Network → DevId → ℕ → List (Option ℤ) → Actor → Type 0
IsLoading c d i bounds a = (r : Run) × (a ≡ Running r) × LoadedTo c d i bounds r

-- what is owed of a net from a place of its fan on
abbrev pub debt_from : Network → ℕ → ℕ → Option Debt
debt_from c net place = if nat_lt place (length (fan_of c net)) then Some record { net = record { 0 = net }; place = place } else None

-- all reads were loaded, and the slots below k are settled; with a credit to spare there are 2
pub record SettledTo (c : Network) (d : DevId) (found : Reads) (k : ℕ) (debt : Option Debt) (spare : Bool) (r : Run) : Type 0 where
  pub ready : IsReady c r
  pub loaded : IsLoaded c r
  pub device : r.device ≡ d
  pub reads : held_reads c r ≡ found
  pub owes : r.owes ≡ debt
  pub credits : r.credits ≡ (if spare then 2 else 1)
  pub settled : (j : ℕ) → j < k → IsSettled c r j
  pub later : (j : ℕ) → k ≤ j → given_at r j ≡ false

abbrev pub IsGiving : Network → DevId → Reads → ℕ → Option Debt → Bool → Actor → Type 0
IsGiving c d found k debt spare a = (r : Run) × (a ≡ Running r) × SettledTo c d found k debt spare r

-- the low and the high of a, of b and of the gate
abbrev pub interval_in : List (Option ℤ) → ℕ → Interval
interval_in bounds p = record { low = slice_index_or bounds (2 * p) None; high = slice_index_or bounds (2 * p + 1) None }

abbrev pub reads_in : List (Option ℤ) → Reads
reads_in bounds = record { a = interval_in bounds 0; b = interval_in bounds 1; g = interval_in bounds 2 }

-- ---- single parts
-- slot k may give this value
abbrev pub MayGive : Network → DevId → ℕ → ℤ → Actor → Type 0
MayGive c d k value a = (r : Run) × (a ≡ Running r) × IsReady c r × IsLoaded c r × (r.device ≡ d) × (r.owes ≡ None) × (given_at r k ≡ false)
    × (is_declared c (target (device_at c d.0) k) ≡ false) × (given c (device_at c d.0) k (held_reads c r) ≡ Some value)

-- slot k was given, and what is owed then
abbrev pub given_run : ℕ → Option Debt → Run → Run
given_run k debt r = record { device = r.device; reads = r.reads; given = slice_set r.given k true; owes = debt; credits = r.credits }

-- with what is owed, and with a credit to spare or none
abbrev pub with_debt : Option Debt → Bool → Run → Run
with_debt debt spare r = record { device = r.device; reads = r.reads; given = r.given; owes = debt; credits = if spare then 2 else 1 }

-- the device d is to be marked next
abbrev pub IsOwing : Network → ℕ → Bool → Actor → Type 0
IsOwing c d spare a = (r : Run) × (a ≡ Running r) × IsSome r.owes × (next_device c r ≡ d) × (r.credits ≡ (if spare then 2 else 1))

-- a net is owed from a place of its fan on
abbrev pub IsMarking : Network → ℕ → ℕ → Bool → Actor → Type 0
IsMarking c net place spare a = (r : Run) × (a ≡ Running r) × (r.owes ≡ debt_from c net place) × (r.credits ≡ (if spare then 2 else 1))
