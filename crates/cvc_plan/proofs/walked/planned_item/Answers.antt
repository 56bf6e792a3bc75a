use Rattle.std.proofs.Common.{◌≡◌, get_or, sym, ap, subst, ◌∙◌, arith}
use Rattle.std.specs.Prelude.{IsSome, None, Some}
use Rattle.std.proofs.lemmas.List.{get_or_default}
use Rattle.cvc_plan.specs.Planning.{kept_of}
use Rattle.cvc_plan.proofs.Planned.{kept_cell, kept_place, kept_there}
use Rattle.cvc_plan.proofs.walked.planned_item.Goals as goal

pub index-requires-in-Some-index : goal.index-requires-in-Some-index
index-requires-in-Some-index c =
    let plans = c.args.plan.now.cells.items in
    let cell = c.args.cell in
    let place = c.args.place in
    let has = subst (λ own. IsSome (kept_of plans own cell place)) c.in-None.is c.requires in
    let at : get_or plans cell None ≡ Some c.in-Some-index.kept =
    sym (c.index.ensures ∙ get_or_default plans cell c.index.result.now None (kept_cell plans cell place has)) ∙ c.in-Some-index.is in
    omega (arith, kept_place plans cell place c.in-Some-index.kept at has)

pub returns-in-Some-index : goal.returns-in-Some-index
returns-in-Some-index c =
    let plans = c.args.plan.now.cells.items in
    let cell = c.args.cell in
    let place = c.args.place in
    let has = subst (λ own. IsSome (kept_of plans own cell place)) c.in-None.is c.requires in
    let at : get_or plans cell None ≡ Some c.in-Some-index.kept =
    sym (c.index.ensures ∙ get_or_default plans cell c.index.result.now None (kept_cell plans cell place has)) ∙ c.in-Some-index.is in
    ap (λ own. kept_of plans own cell place) c.in-None.is ∙ kept_there plans cell place c.in-Some-index.kept at c.index-in-Some-index.result.now has c.index-in-Some-index.ensures
