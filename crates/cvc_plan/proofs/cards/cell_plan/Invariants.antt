use Rattle.std.proofs.Common.{take}
use Rattle.std.specs.List.{AllZip}
use Rattle.cvc_plan.specs.Planning.{AreSoundCards, CardsGrow, IsItemPlan}
use Rattle.cvc_plan.proofs.cards.cell_plan.Given as goal

abbrev pub invariant-loop-item : goal.invariant-loop-item
invariant-loop-item l = record {
  grows : CardsGrow l.initial.cards l.cards;
  sound : AreSoundCards l.cards;
  plans : AllZip (IsItemPlan l.netlist l.cards l.cell.ports) (take l.item-index l.item-items) l.plans.items;
}
