use Rattle.std.proofs.Common.{◌≡◌, ℕ, ◌≤◌, ◌<◌, ◌++◌, List, length}
use Rattle.std.specs.Prelude.{All}
use Rattle.std.specs.Io.KnownBytes.{append_known}
use Rattle.cvc_cdl.specs.Instances.{printed}
use Rattle.cvc_plan.specs.Parts.{text}
use Rattle.cvc_flat.specs.Tables.{names_on, way_at, ways_of}
use Rattle.cvc_flat.proofs.way.write_path.Given as goal

abbrev pub invariant-loop-card : goal.invariant-loop-card
invariant-loop-card g l = record {
  counts : g.K.Sink.faults l.initial.sink ≤ g.K.Sink.faults l.sink;
  inside : All (λ k. k < length l.parts) l.way.items;
  written : (done : List ℕ) × (done ++ printed (names_on l.names l.parts l.way.items) (text l.names l.name) ≡ printed (names_on l.names l.parts (way_at (ways_of l.instances) l.instance)) (text l.names l.name)) × (g.K.Sink.written l.sink ≡ append_known (g.K.Sink.written l.initial.sink) done);
}

abbrev pub decreases-loop-card : goal.decreases-loop-card
decreases-loop-card g l = length l.way.items
