use Rattle.std.proofs.Common.{Bool, List, ℕ, ap, subst, sym, ◌∙◌}
use Rattle.std.specs.Prelude.{All}
use Rattle.cvc_cdl.specs.Chains.{AreBelow, TellsEndless, all_numbers}
use Rattle.cvc_cdl.specs.Placed.{IsPlaced}
use Rattle.cvc_cdl.specs.declared.library.Placed.{Placed}
use Rattle.cvc_cdl.proofs.Endings.{uses_below}
use Rattle.cvc_cdl.proofs.ending.first_endless.Goals as goal

pub endless_cells-requires : goal.endless_cells-requires
endless_cells-requires c = subst AreBelow (sym (ap all_numbers c.deref.ensures.value ∙ c.requires.uses)) (uses_below c.args.library.now.cells.now)

pub first_recursive-requires-clause-told : goal.first_recursive-requires-clause-told
first_recursive-requires-clause-told c =
    subst (λ (uses : List (List ℕ)). TellsEndless uses c.deref-2.result.now) (ap all_numbers c.deref.ensures.value ∙ c.requires.uses)
    (subst (λ (answers : List Bool). TellsEndless (all_numbers c.deref.result.now) answers) (sym c.deref-2.ensures.value) c.in_ok-endless.ensures)

pub first_recursive-requires-clause-placed : goal.first_recursive-requires-clause-placed
first_recursive-requires-clause-placed c = let P : List Placed → Type 0 = All (IsPlaced c.args.library.now.cells.now) in subst P (sym c.deref-3.ensures.value) c.requires.placed
