use Rattle.std.proofs.Common.{◌≡◌, ◌<◌, [], length, map, get_or, sym, ap, ◌∙◌, arith}
use Rattle.std.proofs.lemmas.List.{get_or-map, length-map}
use Rattle.cvc_cdl.specs.Netlist.{name_of_cell}
use Rattle.cvc_names.specs.Names.{with_name}
use Rattle.cvc_plan.proofs.Planned.{next_name}
use Rattle.cvc_plan.proofs.cards.cell_names.Goals as goal

pub loop-cell-preserved : goal.loop-cell-preserved
loop-cell-preserved c =
    let all = map name_of_cell c.args.cells.now in
    let i = c.loop-cell.cell-index in
    let name = c.bytes.result.now in
    let below : i < length all = omega (arith, length-map c.args.cells.now name_of_cell, c.loop-cell-test.true) in
    let is : name ≡ get_or all i [] = c.bytes.ensures ∙ ap name_of_cell c.cell-item.is ∙ sym (get_or-map name_of_cell c.args.cells.now i c.cell-item.result [] c.loop-cell-test.true) in
    c.in_ok-number.ensures.names ∙ ap (λ ns. with_name ns name) c.loop-cell.invariant ∙ next_name all i name c.requires below is
