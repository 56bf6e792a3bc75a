use Rattle.std.proofs.Common.{◌≡◌, ◌<◌, length, map, drop}
use Rattle.std.specs.Prelude.{All}
use Rattle.cvc_base.specs.declared.ids.NetId.{NetId}
use Rattle.cvc_bind.specs.Nets.{AreMarked, nets_behind, nets_of}
use Rattle.cvc_bind.proofs.nets.nets_of.Given as goal

abbrev pub invariant-loop-row : goal.invariant-loop-row
invariant-loop-row g l = record {
  sized : length l.marks.items ≡ length l.flat.list.nets;
  marked : AreMarked l.marks.items l.nets.items;
  so_far : nets_behind l.flat.list l.nets.items (map g.R.Named.net_name (drop l.row-index l.rows)) ≡ nets_of l.flat.list (map g.R.Named.net_name l.rows);
  each : length l.nets.items ≡ l.row-index;
  inside : All (λ (net : NetId). net.0 < length l.flat.list.nets) l.nets.items;
}
