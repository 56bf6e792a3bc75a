use Rattle.std.proofs.Common.{take}
use Rattle.cvc_cdl.specs.Lookup.{FindsPorts}
use Rattle.cvc_cdl.proofs.library.names_of.Given as goal

abbrev pub invariant-loop-port : goal.invariant-loop-port
invariant-loop-port l = FindsPorts (take l.port-index l.ports) l.names
