use Rattle.std.proofs.Common.{◌≡◌, List, [], map, sym, ap, subst, ◌∙◌}
use Rattle.std.specs.Prelude.{Ok, Err, None}
use Rattle.std.proofs.lemmas.Result.{err_from_is_err_and}
use Rattle.cvc_base.specs.Answers.{Refuses}
use Rattle.cvc_plan.specs.Nets.{Opening}
use Rattle.cvc_flat.specs.declared.nets.NetTable.{NetTable}
use Rattle.cvc_flat.specs.declared.flat.Flat.{Flat}
use Rattle.cvc_flat.specs.declared.walk.Walked.{Walked}
use Rattle.cvc_flat.specs.Flat.{limits, nets_once, opening_fault, openings, visits_of}
use Rattle.cvc_flat.specs.Held.{Held}
use Rattle.cvc_flat.specs.Making.{net_of_opening}
use Rattle.cvc_flat.proofs.Whole.{at_opening, at_walk, nets_first, no_fault, shown_list}
use Rattle.cvc_flat.proofs.walk.flatten.Goals as goal

pub returns-in_err-nets-clause-fault : goal.returns-in_err-nets-clause-fault
returns-in_err-nets-clause-fault c =
    let n = c.args.netlist.now in
    let w = err_from_is_err_and c.from_residual-in_err-nets.result c.from_residual-in_err-nets.ensures.1 in
    let refusal = c.in_err-nets.field-0.0 in
    rw (w.1, w.2) (at_opening NetTable Flat n refusal (subst (λ (os : List Opening). Refuses {A = NetTable} (opening_fault limits [] os) (Err refusal)) c.in_ok-plan.ensures.openings c.in_err-nets.ensures.refused))

pub walk-requires-clause-nets : goal.walk-requires-clause-nets
walk-requires-clause-nets c =
    c.in_ok-nets.ensures.nets ∙ ap (λ (os : List Opening). nets_once [] (map net_of_opening os)) c.in_ok-plan.ensures.openings ∙ nets_first c.args.netlist.now

pub returns-in_err-walked-clause-fault : goal.returns-in_err-walked-clause-fault
returns-in_err-walked-clause-fault c =
    let n = c.args.netlist.now in
    let w = err_from_is_err_and c.from_residual-in_err-walked.result c.from_residual-in_err-walked.ensures.1 in
    let none : opening_fault limits [] (openings n) ≡ None = sym (ap (opening_fault limits []) c.in_ok-plan.ensures.openings) ∙ c.in_ok-nets.ensures.refused in
    rw (w.1, w.2) (at_walk Walked Flat n c.in_err-walked.field-0.0 none c.in_err-walked.ensures.refused)

pub returns-clause-flat : goal.returns-clause-flat
returns-clause-flat c =
    let n = c.args.netlist.now in
    let walked = c.in_ok-walked.walked in
    let none : opening_fault limits [] (openings n) ≡ None = sym (ap (opening_fault limits []) c.in_ok-plan.ensures.openings) ∙ c.in_ok-nets.ensures.refused in
    no_fault n none c.in_ok-walked.ensures.refused
    ∙ ap Ok (sym (shown_list n walked.plan walked.instances.items walked.made (visits_of limits n) c.in_ok-walked.ensures.plan.globals c.in_ok-walked.ensures.shows) ∙ ap (λ (h : Held). h.list) (sym c.in_ok-list_of.ensures))

pub walk-requires-clause-sight : goal.walk-requires-clause-sight
walk-requires-clause-sight c = c.in_ok-lists.ensures.more.sight

pub walk-requires-clause-same : goal.walk-requires-clause-same
walk-requires-clause-same c = c.in_ok-lists.ensures.more.netlist ∙ c.in_ok-sight.ensures.netlist

pub walk-requires-clause-outside : goal.walk-requires-clause-outside
walk-requires-clause-outside c = c.in_ok-lists.ensures.more.levels ∙ c.in_ok-sight.ensures.levels

pub walk-requires-clause-lists : goal.walk-requires-clause-lists
walk-requires-clause-lists c = c.in_ok-lists.ensures.listed

pub returns-in_err-lists-clause-fault : goal.returns-in_err-lists-clause-fault
returns-in_err-lists-clause-fault c =
    let w = err_from_is_err_and c.from_residual-in_err-lists.result c.from_residual-in_err-lists.ensures.1 in
    rw (w.1, w.2) tt
