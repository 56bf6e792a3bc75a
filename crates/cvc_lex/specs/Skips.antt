-- A long scan goes over bytes in blocks. What it went over are bytes that all pass, so the run of them goes on behind.
use Rattle.std.specs.Prelude.{◌≡◌, ◌+◌, ◌≤◌, ℕ, Bool, List, drop, length}
use Rattle.std.specs.List.{prefix_len}

-- the first n bytes pass, and the run of bytes that pass goes on behind them
abbrev pub SkipsTo : (ℕ → Bool) → List ℕ → ℕ → Type 0
SkipsTo test bytes n = (n ≤ length bytes) × (n + prefix_len test (drop n bytes) ≡ prefix_len test bytes)
