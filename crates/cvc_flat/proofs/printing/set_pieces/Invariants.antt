use Rattle.std.proofs.Common.{◌≡◌, ◌+◌, ◌*◌, ◌≤◌, ◌<◌, ◌++◌, length}
use Rattle.std.specs.Prelude.{All}
use Rattle.std.specs.List.{flat_map}
use Rattle.cvc_cdl.specs.Instances.{printed}
use Rattle.cvc_plan.specs.Parts.{text}
use Rattle.cvc_flat.specs.Tables.{names_on, way_at, ways_of}
use Rattle.cvc_flat.proofs.printing.set_pieces.Given as goal

abbrev pub invariant-loop-card : goal.invariant-loop-card
invariant-loop-card l = record {
  inside : All (λ k. k < length l.parts) l.way.items;
  room : length l.pieces.items + 2 * length l.way.items ≤ 128;
  whole : flat_map (λ w. w.now) l.pieces.items ++ printed (names_on l.names l.parts l.way.items) (text l.names l.name) ≡ printed (names_on l.names l.parts (way_at (ways_of l.instances) l.instance)) (text l.names l.name);
}

abbrev pub decreases-loop-card : goal.decreases-loop-card
decreases-loop-card l = length l.way.items
