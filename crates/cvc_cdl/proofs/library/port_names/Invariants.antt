use Rattle.std.proofs.Common.{take}
use Rattle.cvc_cdl.proofs.Lookups.{AreTheirPorts}
use Rattle.cvc_cdl.proofs.library.port_names.Given as goal

abbrev pub invariant-loop-cell : goal.invariant-loop-cell
invariant-loop-cell l = AreTheirPorts (take l.cell-index l.cells) l.names.items
