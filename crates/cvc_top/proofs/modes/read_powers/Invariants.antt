use Rattle.cvc_top.proofs.ModesRead.{AreReadTo}
use Rattle.cvc_top.proofs.modes.read_powers.Given as goal

abbrev pub invariant-loop-row : goal.invariant-loop-row
invariant-loop-row g l = AreReadTo l.rows (g.S.Shelf.standing l.shelf) (g.S.Shelf.files l.fn.shelf) (g.S.Shelf.files l.shelf) (g.S.Shelf.faults l.fn.shelf) (g.S.Shelf.faults l.shelf) l.row-index l.mode l.powers
