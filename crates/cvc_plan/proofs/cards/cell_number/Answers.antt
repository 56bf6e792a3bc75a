use Rattle.std.proofs.Common.{ap, ◌∙◌}
use Rattle.cvc_names.specs.Names.{place_of}
use Rattle.cvc_plan.proofs.Planned.{cell_found}
use Rattle.cvc_plan.proofs.cards.cell_number.Goals as goal

pub returns-clause-cell : goal.returns-clause-cell
returns-clause-cell c = cell_found c.args.cells.now c.args.name.now c.find.result (c.find.ensures.place ∙ ap (λ ns. place_of ns c.args.name.now) c.requires)
