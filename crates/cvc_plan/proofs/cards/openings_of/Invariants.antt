use Rattle.std.proofs.Common.{◌≡◌, ◌<◌, ◌++◌, length, map, take}
use Rattle.std.specs.Prelude.{All}
use Rattle.cvc_cdl.specs.declared.netlist.Global.{Global}
use Rattle.cvc_plan.specs.declared.cards.OpeningPlan.{OpeningPlan}
use Rattle.cvc_plan.specs.Nets.{opening_at}
use Rattle.cvc_plan.specs.Names.{Grows}
use Rattle.cvc_plan.specs.Planning.{opening_of}
use Rattle.cvc_plan.proofs.cards.openings_of.Given as goal

abbrev pub invariant-loop-global : goal.invariant-loop-global
invariant-loop-global l = record {
  grows : Grows l.initial.names l.names;
  within : All (λ (o : OpeningPlan). o.name < length l.names) l.openings.items;
  openings : map (opening_of l.names) l.openings.items ≡ map (λ (g : Global). opening_at g.line g.name) (take l.global-index l.globals);
}

abbrev pub invariant-loop-port : goal.invariant-loop-port
invariant-loop-port l = record {
  grows : Grows l.fn.names l.names;
  within : All (λ (o : OpeningPlan). o.name < length l.names) l.openings.items;
  openings : map (opening_of l.names) l.openings.items ≡ map (λ (g : Global). opening_at g.line g.name) l.globals ++ map (opening_at l.top.line) (take l.port-index l.port-items);
}
