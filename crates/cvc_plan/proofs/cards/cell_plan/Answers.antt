use Rattle.std.proofs.Common.{[], ◌∙◌, take, sym, subst, arith}
use Rattle.std.specs.List.{AllZip}
use Rattle.std.proofs.lemmas.List.{take_all}
use Rattle.cvc_cdl.proofs.Zips.{zip_more}
use Rattle.cvc_plan.specs.Planning.{IsItemPlan}
use Rattle.cvc_plan.proofs.Growing.{grows_length}
use Rattle.cvc_plan.proofs.Pinned.{front_stays}
use Rattle.cvc_plan.proofs.Planned.{cards_none, cards_twice, items_stay}
use Rattle.cvc_plan.proofs.cards.cell_plan.Goals as goal

pub loop-item-init : goal.loop-item-init
loop-item-init c = record {
  grows = cards_none c.args.cards.now;
  sound = c.requires.sound;
  plans = subst (AllZip (IsItemPlan c.args.netlist.now c.args.cards.now c.args.cell.now.ports) []) (sym c.new-plans.ensures.items) tt;
}

pub item_plan-requires-clause-below : goal.item_plan-requires-clause-below
item_plan-requires-clause-below c = omega (arith, c.requires.below, grows_length c.args.cards.now.names c.loop-item.cards.names c.loop-item.invariant.grows.names)

pub item_plan-requires-clause-globals : goal.item_plan-requires-clause-globals
item_plan-requires-clause-globals c = front_stays c.args.cards.now.names c.loop-item.cards.names c.args.globals c.loop-item.invariant.grows.names c.requires.below ∙ c.requires.globals

pub item_plan-requires-clause-sound : goal.item_plan-requires-clause-sound
item_plan-requires-clause-sound c = c.loop-item.invariant.sound

pub loop-item-preserved : goal.loop-item-preserved
loop-item-preserved c =
    let n = c.args.netlist.now in
    let old = c.loop-item.cards in
    let new = c.item_plan.new.cards in
    let ports = c.args.cell.now.ports in
    let its = c.as_slice-item-items.result.now in
    let i = c.loop-item.item-index in
    let inv = c.loop-item.invariant in
    let plan = c.in_ok-item_plan.ensures in
    let is = subst (λ ps. IsItemPlan n new ps c.item-item.result c.in_ok-item_plan.field-0) (c.in_ok-ports.ensures ∙ c.as_slice.ensures) plan.plan in
    record {
      grows = cards_twice c.args.cards.now old new inv.grows plan.grows;
      sound = plan.sound;
      plans = zip_more (IsItemPlan n new ports) its i c.item-item.result c.loop-item.plans.items c.push.new.self.items c.in_ok-item_plan.field-0 c.loop-item-test.true c.item-item.is c.in_ok-push.ensures.items
          (items_stay n old new ports (take i its) c.loop-item.plans.items plan.grows inv.sound inv.plans) is;
    }

pub returns-clause-grows : goal.returns-clause-grows
returns-clause-grows c = c.loop-item.invariant.grows

pub returns-clause-sound : goal.returns-clause-sound
returns-clause-sound c = c.loop-item.invariant.sound

pub returns-clause-plan : goal.returns-clause-plan
returns-clause-plan c =
    let its = c.as_slice-item-items.result.now in
    subst (λ l. AllZip (IsItemPlan c.args.netlist.now c.loop-item.cards c.args.cell.now.ports) l c.loop-item.plans.items) (take_all c.loop-item.item-index its (omega (arith, c.loop-item-test.false)) ∙ c.as_slice-item-items.ensures) c.loop-item.invariant.plans
