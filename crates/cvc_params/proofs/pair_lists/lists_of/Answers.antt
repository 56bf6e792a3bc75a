use Rattle.std.proofs.Common.{[], ◌∙◌, take, sym, subst, arith}
use Rattle.std.proofs.lemmas.List.{take_all}
use Rattle.cvc_cdl.specs.Instances.{all_cells}
use Rattle.cvc_cdl.proofs.Zips.{zip_more, zip_push}
use Rattle.cvc_params.specs.PairLists.{AreListed, IsCellListed}
use Rattle.cvc_params.proofs.Listed.{cells_stay, more_none, more_twice}
use Rattle.cvc_params.proofs.pair_lists.lists_of.Goals as goal

pub loop-cell-init : goal.loop-cell-init
loop-cell-init c = record {
  more = more_none c.add.new.self c.in_ok-empty.ensures.sight;
  listed = subst (AreListed c.add.new.self.indexes []) (sym c.new-cells.ensures.items) tt;
}

pub cell_lists-requires-clause-empty : goal.cell_lists-requires-clause-empty
cell_lists-requires-clause-empty c = c.loop-cell.invariant.more.lists c.in_ok-empty.empty [] c.in_ok-empty.ensures.number

pub loop-cell-preserved : goal.loop-cell-preserved
loop-cell-preserved c =
    let old = c.loop-cell.sight in
    let new = c.cell_lists.new.sight in
    let cells = c.as_slice-cell-items.result.now in
    let i = c.loop-cell.cell-index in
    let inv = c.loop-cell.invariant in
    let lists = c.in_ok-cell_lists.ensures in
    record {
      more = more_twice c.add.new.self old new inv.more lists.more;
      listed = zip_more (IsCellListed new.indexes) cells i c.cell-item.result c.loop-cell.cells.items c.push.new.self.items c.in_ok-cell_lists.field-0 c.loop-cell-test.true c.cell-item.is c.in_ok-push.ensures.items
          (cells_stay old new (take i cells) c.loop-cell.cells.items lists.more inv.listed) lists.listed;
    }

pub cell_lists-requires-2-clause-empty : goal.cell_lists-requires-2-clause-empty
cell_lists-requires-2-clause-empty c = c.loop-cell.invariant.more.lists c.in_ok-empty.empty [] c.in_ok-empty.ensures.number

pub returns-clause-more : goal.returns-clause-more
returns-clause-more c =
    more_twice c.args.sight.now c.add.new.self c.cell_lists-2.new.sight
    record { sight = c.in_ok-empty.ensures.sight; lists = c.in_ok-empty.ensures.lists; netlist = c.in_ok-empty.ensures.netlist; levels = c.in_ok-empty.ensures.levels }
    (more_twice c.add.new.self c.loop-cell.sight c.cell_lists-2.new.sight c.loop-cell.invariant.more c.in_ok-cell_lists-2.ensures.more)

pub returns-clause-listed : goal.returns-clause-listed
returns-clause-listed c =
    let n = c.args.netlist.now in
    let old = c.loop-cell.sight in
    let new = c.cell_lists-2.new.sight in
    let cells = c.as_slice-cell-items.result.now in
    let lists = c.in_ok-cell_lists-2.ensures in
    let before = subst (λ cs. AreListed old.indexes cs c.loop-cell.cells.items) (take_all c.loop-cell.cell-index cells (omega (arith, c.loop-cell-test.false)) ∙ c.as_slice-cell-items.ensures) c.loop-cell.invariant.listed in
    subst (AreListed new.indexes (all_cells n)) (sym c.in_ok-push-2.ensures.items)
    (zip_push (IsCellListed new.indexes) n.cells c.loop-cell.cells.items n.main c.in_ok-cell_lists-2.field-0 (cells_stay old new n.cells c.loop-cell.cells.items lists.more before) lists.listed)
