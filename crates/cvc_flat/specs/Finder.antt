-- How nets are looked up: a net by the hash of its printed name, and an instance by that of what is printed in front of a name there. The top is
-- instance 0.
use Rattle.std.specs.Prelude.{◌≡◌, ℕ, List, [], map}
use Rattle.cvc_cdl.specs.Instances.{printed}
use Rattle.cvc_plan.specs.declared.rows.InstancePart.{InstancePart}
use Rattle.cvc_plan.specs.declared.rows.NetRow.{NetRow}
use Rattle.cvc_flat.specs.declared.finder.Finder.{Finder}
use Rattle.cvc_flat.specs.declared.rows.InstanceRow.{InstanceRow}
use Rattle.cvc_flat.specs.FindNet.{printed_net}
use Rattle.cvc_flat.specs.Hashes.{hash_of}
use Rattle.cvc_flat.specs.Tables.{Way, names_on, net_at, ways_of}

unfoldable pub way_hash : List (List ℕ) → List InstancePart → Way → ℕ
way_hash names parts way = hash_of (printed (names_on names parts way) [])

unfoldable pub net_hash : List (List ℕ) → List InstancePart → List InstanceRow → NetRow → ℕ
net_hash names parts rows r = hash_of (printed_net (net_at names parts (ways_of rows) r))

pub record IsFinder (names : List (List ℕ)) (parts : List InstancePart) (rows : List InstanceRow) (known : List NetRow) (f : Finder) : Type 0 where
  pub instances : f.instances ≡ map (way_hash names parts) (ways_of rows)
  pub nets : f.nets ≡ map (net_hash names parts rows) known
