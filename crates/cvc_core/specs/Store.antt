-- The machine that a store keeps, and what of a run is known to be sound by itself.
use Rattle.std.specs.Prelude.{ℕ, ◌+◌, ◌≤◌, false, map, if◌then◌else◌}
use Rattle.cvc_law.specs.declared.interval.Interval.{Interval}
use Rattle.cvc_law.specs.declared.interval.Reads.{Reads}
use Rattle.cvc_law.specs.Network.{Network, IsCircuit}
use Rattle.cvc_law.specs.Reach.{widest, interval_of_reaches, reads_of_reaches}
use Rattle.cvc_core.specs.declared.actor.Run.{Run}
use Rattle.cvc_core.specs.declared.store.Mark.{Mark}
use Rattle.cvc_core.specs.declared.store.Store.{Store}
use Rattle.cvc_core.specs.State.{Machine, held}
use Rattle.cvc_core.specs.Sound.{IsRunOf}

abbrev pub mark_word : Mark → ℕ
mark_word m = (if m.queued then 1 else 0) + (if m.running then 2 else 0)

abbrev pub no_mark : Mark
no_mark = record { queued = false; running = false }

abbrev pub machine_of : Store → Machine
machine_of s = record { bounds = s.bounds.items; marks = map mark_word s.marks.items; count = s.count; actors = s.actors.items }

-- the device is the circuit's, and the reads are in range
pub record IsReady (c : Network) (r : Run) : Type 0 where
  pub circuit : IsCircuit c.fixed c.devices
  pub run : IsRunOf c r
  pub in_range : (i : ℕ) → held r i ≤ widest c

-- what a run holds of the net at an end of its device: 0 is a, 1 is b, 2 the gate
abbrev pub held_interval : Network → Run → ℕ → Interval
held_interval c r p = interval_of_reaches c (held r) p

abbrev pub held_reads : Network → Run → Reads
held_reads c r = reads_of_reaches c (held r)
