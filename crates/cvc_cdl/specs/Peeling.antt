-- How the finite cells are found: one that uses finite cells alone is finite. The cells that are known to be finite stand in a list, and of each cell it is
-- known how many of its uses aren't taken; a finite cell is taken from each cell that uses it.
use Rattle.std.specs.Prelude.{◌≡◌, ℕ, suc, ◌<◌, ◌≤◌, ◌==◌, Bool, false, not, List, length, take, count_by, slice_index, All, if◌then◌else◌}
use Rattle.std.specs.List.{list_any}
use Rattle.cvc_cdl.specs.Chains.{used_at, chain_by}

-- how often a number stands in a list
abbrev pub times : ℕ → List ℕ → ℕ
times x xs = count_by (λ y. y == x) xs

abbrev pub is_listed : List ℕ → ℕ → Bool
is_listed xs x = list_any (λ y. y == x) xs

-- how many of these aren't in the list
abbrev pub count_outside : List ℕ → List ℕ → ℕ
count_outside listed xs = count_by (λ x. not (is_listed listed x)) xs

abbrev pub one_if : Bool → ℕ
one_if b = if b then 1 else 0

-- the users of each cell, each as often as it uses the cell
pub record AreUsers (uses users : List (List ℕ)) : Type 0 where
  pub sized : length users ≡ length uses
  pub each : (i j : ℕ) → j < length uses → times i (used_at users j) ≡ times j (used_at uses i)

-- the list has each cell once that has no use left
pub record AreListed (left finite : List ℕ) : Type 0 where
  pub once : (i : ℕ) → i < length left → times i finite ≡ one_if (slice_index left i == 0)
  pub below : All (λ i. i < length left) finite

-- the first cells of the list were taken, and no longer chain starts in any of the list than it has cells up to there
pub record IsPeeled (uses : List (List ℕ)) (taken : ℕ) (left finite : List ℕ) : Type 0 where
  pub sized : length left ≡ length uses
  pub within : taken ≤ length finite
  pub counted : (i : ℕ) → i < length uses → slice_index left i ≡ count_outside (take taken finite) (used_at uses i)
  pub listed : AreListed left finite
  pub ranked : (p : ℕ) → p < length finite → chain_by uses (suc p) (slice_index finite p) ≡ false
