use Rattle.std.proofs.Common.{◌≡◌, ◌-◌, ◌<◌, length}
use Rattle.cvc_io.specs.Files.{NoneFalls}
use Rattle.cvc_run.proofs.Netlists.{HasFed}
use Rattle.cvc_run.proofs.netlist.feed_through.Given as goal

abbrev pub invariant-pieces : goal.invariant-pieces
invariant-pieces g l = record {
  room : 0 < length l.buf;
  files : g.S.Shelf.files l.shelf ≡ g.S.Shelf.files l.initial.shelf;
  counts : NoneFalls (g.S.Shelf.faults l.initial.shelf) (g.S.Shelf.faults l.shelf);
  fed : HasFed (g.S.Shelf.standing l.initial.shelf) (g.S.Shelf.standing l.shelf) l.reader;
}

abbrev pub decreases-pieces : goal.decreases-pieces
decreases-pieces g l = 134217729 - l.reader.lexer.size
