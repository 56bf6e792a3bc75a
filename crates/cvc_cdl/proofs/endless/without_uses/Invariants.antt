use Rattle.std.proofs.Common.{take}
use Rattle.cvc_cdl.specs.Peeling.{AreListed}
use Rattle.cvc_cdl.proofs.endless.without_uses.Given as goal

abbrev pub invariant-loop-cell : goal.invariant-loop-cell
invariant-loop-cell l = AreListed (take l.cell l.left) l.finite.items
