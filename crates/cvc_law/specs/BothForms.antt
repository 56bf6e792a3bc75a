-- What a slot gives, in the reach form and in millivolts, on reads whose reaches are at most the widest: either is told from the other.
use Rattle.std.specs.Prelude.{ℕ, ◌≡◌, ◌%◌, ◌<◌, ◌≤◌, pos, ◌≤ℤ◌}
use Rattle.cvc_law.specs.declared.device.Device.{Device}
use Rattle.cvc_law.specs.Network.{Network}
use Rattle.cvc_law.specs.Conduction.{given}
use Rattle.cvc_law.specs.Reach.{widest, reach_of, bound_of, reach_given, reads_of_reaches}

abbrev pub GivenReachIsOfTheValue : Type 0
GivenReachIsOfTheValue = (c : Network) (d : Device) (slot : ℕ) (r : ℕ → ℕ) → slot < 4 → pos 0 ≤ℤ d.volts.drop → ((i : ℕ) → r i ≤ widest c) → reach_given c d slot r ≡ reach_of c (slot % 2) (given c d slot (reads_of_reaches c r))

abbrev pub GivenValueIsOfTheReach : Type 0
GivenValueIsOfTheReach = (c : Network) (d : Device) (slot : ℕ) (r : ℕ → ℕ) → slot < 4 → pos 0 ≤ℤ d.volts.drop → ((i : ℕ) → r i ≤ widest c) → given c d slot (reads_of_reaches c r) ≡ bound_of c (slot % 2) (reach_given c d slot r)

-- and what it gives is at most the widest
abbrev pub GivenReachIsAtMostWidest : Type 0
GivenReachIsAtMostWidest = (c : Network) (d : Device) (slot : ℕ) (r : ℕ → ℕ) → r slot ≤ widest c → reach_given c d slot r ≤ widest c
