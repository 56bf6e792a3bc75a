use Rattle.std.proofs.Common.{[], subst}
use Rattle.cvc_params.specs.PairIndexes.{IsListed}
use Rattle.cvc_params.specs.PairLists.{AreItemsListed}
use Rattle.cvc_params.proofs.Listed.{items_stay, more_twice}
use Rattle.cvc_params.proofs.pair_lists.cell_lists.Goals as goal

pub list_of-requires-clause-empty : goal.list_of-requires-clause-empty
list_of-requires-clause-empty c = c.in_ok-items.ensures.more.lists c.args.empty [] c.requires.empty

pub returns-clause-more : goal.returns-clause-more
returns-clause-more c = more_twice c.args.sight.now c.item_lists.new.sight c.list_of.new.sight c.in_ok-items.ensures.more c.in_ok-own.ensures.more

pub returns-clause-listed : goal.returns-clause-listed
returns-clause-listed c =
    let old = c.item_lists.new.sight in
    let new = c.list_of.new.sight in
    record {
      own = subst (IsListed new.indexes c.in_ok-own.own) c.as_slice-2.ensures c.in_ok-own.ensures.listed;
      items = items_stay old new c.args.cell.now.items c.in_ok-items.items.items c.in_ok-own.ensures.more
          (subst (λ its. AreItemsListed old.indexes its c.in_ok-items.items.items) c.as_slice.ensures c.in_ok-items.ensures.listed);
    }
