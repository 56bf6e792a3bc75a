use Rattle.std.proofs.Common.{◌≡◌, [], ap, refl, rules, sym, ◌∙◌}
use Rattle.std.proofs.lemmas.List.{nil_from_length}
use Rattle.cvc_cdl.specs.Drafting.{draft_held, with_globals}
use Rattle.cvc_cdl.proofs.Drafts.{globals_on, globals_step, globals_end}
use Rattle.cvc_cdl.proofs.draft.Draft.add_globals.Goals as goal

pub loop-name-preserved : goal.loop-name-preserved
loop-name-preserved c =
    let whole = with_globals (draft_held c.args.self.now) (globals_on c.args.line c.into_iter-name-iterator.result.rest.items) in
    globals_step c.args.line whole (draft_held c.loop-name.self) c.loop-name.name-iterator.rest.items c.loop-name.invariant c.in-Some.name c.next.new.self.rest.items c.in-Some.ensures.steps.0 (draft_held c.add_global.new.self)
    c.in_ok-add_global.ensures.1

pub returns : goal.returns
returns c =
    let names : c.into_iter-name-iterator.result.rest.items ≡ c.args.names = search rules in
    let none : c.loop-name.name-iterator.rest.items ≡ [] = nil_from_length c.loop-name.name-iterator.rest.items (sym c.loop-name.name-iterator.rest.ok.0 ∙ c.in-None.ensures.steps.0) in
    let whole = with_globals (draft_held c.args.self.now) (globals_on c.args.line c.into_iter-name-iterator.result.rest.items) in
    (refl, globals_end c.args.line whole (draft_held c.loop-name.self) c.loop-name.name-iterator.rest.items c.loop-name.invariant none ∙ ap (λ ns. with_globals (draft_held c.args.self.now) (globals_on c.args.line ns)) names)
