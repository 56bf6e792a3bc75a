use Rattle.std.proofs.Common.{[], take, sym, subst, arith}
use Rattle.std.proofs.lemmas.List.{take_all}
use Rattle.cvc_cdl.proofs.Zips.{zip_more}
use Rattle.cvc_params.specs.PairLists.{AreItemsListed, IsItemListed}
use Rattle.cvc_params.proofs.Listed.{items_stay, more_none, more_twice}
use Rattle.cvc_params.proofs.pair_lists.item_lists.Goals as goal

pub loop-item-init : goal.loop-item-init
loop-item-init c = record {
  more = more_none c.args.sight.now c.requires.sight;
  listed = subst (AreItemsListed c.args.sight.now.indexes []) (sym c.new-lists.ensures.items) tt;
}

pub item_list-requires-clause-empty : goal.item_list-requires-clause-empty
item_list-requires-clause-empty c = c.loop-item.invariant.more.lists c.args.empty [] c.requires.empty

pub loop-item-preserved : goal.loop-item-preserved
loop-item-preserved c =
    let old = c.loop-item.sight in
    let new = c.item_list.new.sight in
    let its = c.args.items.now in
    let i = c.loop-item.item-index in
    let inv = c.loop-item.invariant in
    let list = c.in_ok-item_list.ensures in
    record {
      more = more_twice c.args.sight.now old new inv.more list.more;
      listed = zip_more (IsItemListed new.indexes) its i c.item-item.result c.loop-item.lists.items c.push.new.self.items c.in_ok-item_list.field-0 c.loop-item-test.true c.item-item.is c.in_ok-push.ensures.items
          (items_stay old new (take i its) c.loop-item.lists.items list.more inv.listed) list.listed;
    }

pub returns-clause-listed : goal.returns-clause-listed
returns-clause-listed c =
    subst (λ its. AreItemsListed c.loop-item.sight.indexes its c.loop-item.lists.items) (take_all c.loop-item.item-index c.args.items.now (omega (arith, c.loop-item-test.false))) c.loop-item.invariant.listed
