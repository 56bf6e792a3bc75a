use Rattle.std.proofs.Common.{◌≡◌, ◌+◌, ◌-◌, ◌<◌, length}
use Rattle.cvc_io.specs.Files.{NoneFalls, Takes}
use Rattle.cvc_run.proofs.load.read_through.Given as goal

abbrev pub invariant-pieces : goal.invariant-pieces
invariant-pieces g l = record {
  room : 0 < length l.buf;
  files : g.S.Shelf.files l.shelf ≡ g.S.Shelf.files l.initial.shelf;
  counts : NoneFalls (g.S.Shelf.faults l.initial.shelf) (g.S.Shelf.faults l.shelf);
  taken : Takes (g.S.Shelf.standing l.initial.shelf) (g.S.Shelf.standing l.shelf) l.bytes.items;
}

abbrev pub decreases-pieces : goal.decreases-pieces
decreases-pieces g l = l.limit + 1 - length l.bytes.items
