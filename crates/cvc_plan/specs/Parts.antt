-- What is kept of cards, with names by their numbers: of an instance its name and its connections, of a device its letter, its name and its line.
use Rattle.std.specs.Prelude.{ℕ, ◌<◌, List, [], map, length, All, slice_index_or}
use Rattle.cvc_base.specs.declared.param.Pair.{Pair}
use Rattle.cvc_card.specs.declared.card.Letter.TheVariants.{M}
use Rattle.cvc_plan.specs.declared.rows.Connection.{Connection}
use Rattle.cvc_plan.specs.declared.rows.DevicePart.{DevicePart}
use Rattle.cvc_plan.specs.declared.rows.InstancePart.{InstancePart}
use Rattle.cvc_plan.specs.Nets.{Link}

abbrev pub text : List (List ℕ) → ℕ → List ℕ
text names k = slice_index_or names k []

-- ## Instances

abbrev pub pair_of : List (List ℕ) → Connection → Pair
pair_of names c = record { name = text names c.port; value = text names c.net }

abbrev pub link_of : List (List ℕ) → InstancePart → Link
link_of names part = record { name = text names part.name; connections = map (pair_of names) part.connections.items }

abbrev pub no_link : Link
no_link = record { name = []; connections = [] }

abbrev pub link_at : List (List ℕ) → List InstancePart → ℕ → Link
link_at names parts k = slice_index_or (map (link_of names) parts) k no_link

abbrev pub AreConnections : List (List ℕ) → List Connection → Type 0
AreConnections names cs = All (λ (c : Connection). (c.port < length names) × (c.net < length names)) cs

abbrev pub IsPart : List (List ℕ) → InstancePart → Type 0
IsPart names p = (p.name < length names) × AreConnections names p.connections.items

-- ## Devices

abbrev pub no_part : DevicePart
no_part = record { letter = M; name = 0; line = 0 }

abbrev pub part_at : List DevicePart → ℕ → DevicePart
part_at cards k = slice_index_or cards k no_part
