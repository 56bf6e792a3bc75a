-- More names in a table.
use Rattle.std.specs.Prelude.{◌≡◌, ℕ, List, ◌++◌}

-- more names, behind those that there were
pub record Grows (old new : List (List ℕ)) : Type 0 where
  pub more : List (List ℕ)
  pub is : new ≡ old ++ more
