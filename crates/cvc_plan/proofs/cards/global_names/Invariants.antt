use Rattle.std.proofs.Common.{◌≡◌, map, take}
use Rattle.cvc_cdl.specs.Netlist.{name_of_global}
use Rattle.cvc_plan.proofs.cards.global_names.Given as goal

abbrev pub invariant-loop-global : goal.invariant-loop-global
invariant-loop-global l = l.names ≡ take l.global-index (map name_of_global l.globals)
