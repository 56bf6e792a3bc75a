-- The net of a name in tables. Where each name has one number and each instance its own names, numbers stand for texts.
use Rattle.std.specs.Prelude.{◌≡◌, ℕ, ◌-◌, ◌==◌, ◌<◌, ◌≤◌, ◌&&◌, Bool, List, take, length, All, Option, MatchOption, find, slice_index_or}
use Rattle.std.specs.Option.{option_map}
use Rattle.cvc_plan.specs.declared.rows.Connection.{Connection}
use Rattle.cvc_plan.specs.declared.rows.InstancePart.{InstancePart}
use Rattle.cvc_plan.specs.declared.rows.NetRow.{NetRow}
use Rattle.cvc_plan.specs.Nets.{net_of}
use Rattle.cvc_plan.specs.Parts.{IsPart, link_at, text}
use Rattle.cvc_flat.specs.declared.rows.InstanceRow.{InstanceRow}
use Rattle.cvc_names.specs.Names.{AreApart}
use Rattle.cvc_flat.specs.Tables.{net_at, no_row, path_of, way_at, ways_of}

-- what a port is connected to
abbrev pub net_beside : List Connection → ℕ → Option ℕ
net_beside connections name = option_map (λ (c : Connection). c.net) (find (λ (c : Connection). name == c.port) connections)

-- the names of these numbers
pub record AreNames (names : List (List ℕ)) (globals : ℕ) (parts : List InstancePart) : Type 0 where
  pub apart : AreApart names
  pub below : globals ≤ length names
  pub sound : All (IsPart names) parts

-- the row is the net of the name in the instance
pub record IsNetOf (names : List (List ℕ)) (globals : ℕ) (parts : List InstancePart) (rows : List InstanceRow)
    (instance name : ℕ) (row : NetRow) : Type 0 where
  pub resolved : net_at names parts (ways_of rows) row
      ≡ net_of (take globals names) (path_of names parts (way_at (ways_of rows) instance)) (text names name)
  pub named : row.name < length names

-- the same instance and the same name
abbrev pub is_row : NetRow → NetRow → Bool
is_row a b = (a.instance == b.instance) && (a.name == b.name)

-- the name of an instance by its number, which is not that of the top
abbrev pub own_name : List (List ℕ) → List InstancePart → List InstanceRow → ℕ → List ℕ
own_name names parts rows i = (link_at names parts (slice_index_or rows (i - 1) no_row).card).name

-- the instance of a name in an instance
pub record IsChild (names : List (List ℕ)) (parts : List InstancePart) (rows : List InstanceRow) (up : ℕ) (name : List ℕ) (i : ℕ) : Type 0 where
  pub above : 0 < i
  pub inside : i ≤ length rows
  pub parent : (slice_index_or rows (i - 1) no_row).parent ≡ up
  pub named : own_name names parts rows i ≡ name

abbrev pub ChildOf : List (List ℕ) → List InstancePart → List InstanceRow → ℕ → List ℕ → Option ℕ → Type 0
ChildOf names parts rows up name found =
    MatchOption found ((i : ℕ) → IsChild names parts rows up name i → ⊥) (λ i. IsChild names parts rows up name i)
