use Rattle.std.proofs.Common.{Bor, List, Option, Some, ℕ, ap, sym, ◌∙◌}
use Rattle.cvc_cdl.specs.Ending.{top_fault}
use Rattle.cvc_cdl.specs.Builder.{named_top}
use Rattle.cvc_cdl.proofs.Endings.{top_known, top_unknown}
use Rattle.cvc_cdl.proofs.ending.top_fault.Goals as goal

pub returns-in-Some : goal.returns-in-Some
returns-in-Some c =
    top_known c.args.library.now.cells.now c.in_ok-name.name.now c.in-Some.field-0 c.in-Some.ensures.place
    ∙ ap (λ (top : Option (Bor (List ℕ))). top_fault c.args.library.now.cells.now (named_top top)) (sym c.in_ok-name.was)

pub returns-in-None : goal.returns-in-None
returns-in-None c =
    ap (λ fault. Some fault) c.fault_at.ensures
    ∙ top_unknown c.args.library.now.cells.now c.in_ok-name.name.now c.in-None.ensures.place
    ∙ ap (λ (top : Option (Bor (List ℕ))). top_fault c.args.library.now.cells.now (named_top top)) (sym c.in_ok-name.was)
