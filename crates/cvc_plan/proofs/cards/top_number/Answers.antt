use Rattle.std.proofs.Common.{ap, sym, ◌∙◌}
use Rattle.cvc_cdl.specs.Ending.{cell_named}
use Rattle.cvc_plan.proofs.Planned.{top_named}
use Rattle.cvc_plan.proofs.cards.top_number.Goals as goal

pub unreachable-requires : goal.unreachable-requires
unreachable-requires c =
    let n = c.args.netlist.now in
    top_named n.cells n.top c.in-Some.name c.in-Some.is c.requires.formed.top
    (ap (λ cells. cell_named cells c.in-Some.name) (sym c.as_slice.ensures) ∙ ap (cell_named c.as_slice.result.now) (sym c.bytes.ensures) ∙ c.in-None-cell_number.ensures.cell)
