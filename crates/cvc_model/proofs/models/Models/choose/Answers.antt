use Rattle.std.proofs.Common.{◌∙◌, ◌+◌, ◌<◌, ap, sym, subst, arith, List, length, get_or}
use Rattle.cvc_model.specs.declared.row.ModelRow.{ModelRow}
use Rattle.cvc_model.proofs.Walking.{placed, called, chosen, smaller, no_more}
use Rattle.cvc_model.proofs.models.Models.choose.Goals as goal

pub get-requires : goal.get-requires
get-requires c =
    subst (λ (rs : List ModelRow). c.in-Some.place < length rs) (sym c.self.view_is)
    (placed c.args.self.now c.args.name.now c.args.params.now c.loop-next.invariant.from c.loop-next.invariant.within c.loop-next.next c.loop-next.invariant.next c.loop-next.invariant.rest c.in-Some.place c.in-Some.is)

pub overflow_cast-result : goal.overflow_cast-result
overflow_cast-result c =
    let h = placed c.args.self.now c.args.name.now c.args.params.now c.loop-next.invariant.from c.loop-next.invariant.within c.loop-next.next c.loop-next.invariant.next c.loop-next.invariant.rest c.in-Some.place c.in-Some.is in
    omega arith

pub returns-in-Holds : goal.returns-in-Holds
returns-in-Holds c =
    sym (chosen c.args.self.now c.args.name.now c.args.params.now c.loop-next.invariant.from c.loop-next.invariant.within c.loop-next.next c.loop-next.invariant.next c.loop-next.invariant.rest c.in-Some.place c.in-Some.is
    c.get.result.now (c.get.ensures ∙ ap (λ (rs : List ModelRow). get_or rs c.in-Some.place c.get.result.now) c.self.view_is) _ c.in-Holds.ensures)

pub returns-in-Word : goal.returns-in-Word
returns-in-Word c =
    sym (chosen c.args.self.now c.args.name.now c.args.params.now c.loop-next.invariant.from c.loop-next.invariant.within c.loop-next.next c.loop-next.invariant.next c.loop-next.invariant.rest c.in-Some.place c.in-Some.is
    c.get.result.now (c.get.ensures ∙ ap (λ (rs : List ModelRow). get_or rs c.in-Some.place c.get.result.now) c.self.view_is) _ c.in-Word.ensures)

pub place_after-next-requires-clause-place : goal.place_after-next-requires-clause-place
place_after-next-requires-clause-place c =
    placed c.args.self.now c.args.name.now c.args.params.now c.loop-next.invariant.from c.loop-next.invariant.within c.loop-next.next c.loop-next.invariant.next c.loop-next.invariant.rest c.in-Some.place c.in-Some.is

pub place_after-next-requires-clause-named : goal.place_after-next-requires-clause-named
place_after-next-requires-clause-named c =
    called c.args.self.now c.args.name.now c.args.params.now c.loop-next.invariant.from c.loop-next.invariant.within c.loop-next.next c.loop-next.invariant.next c.loop-next.invariant.rest c.in-Some.place c.in-Some.is

pub loop-next-smaller : goal.loop-next-smaller
loop-next-smaller c =
    smaller c.args.self.now c.args.name.now c.args.params.now c.loop-next.invariant.from c.loop-next.invariant.within c.loop-next.next c.loop-next.invariant.next c.loop-next.invariant.rest c.in-Some.place c.in-Some.is
    _ c.place_after-next.ensures

pub loop-next-preserved : goal.loop-next-preserved
loop-next-preserved c =
    let h = placed c.args.self.now c.args.name.now c.args.params.now c.loop-next.invariant.from c.loop-next.invariant.within c.loop-next.next c.loop-next.invariant.next c.loop-next.invariant.rest c.in-Some.place c.in-Some.is in
    record {
      from = c.in-Some.place + 1;
      within = omega arith;
      next = c.place_after-next.ensures;
      rest = chosen c.args.self.now c.args.name.now c.args.params.now c.loop-next.invariant.from c.loop-next.invariant.within c.loop-next.next c.loop-next.invariant.next c.loop-next.invariant.rest c.in-Some.place c.in-Some.is
          c.get.result.now (c.get.ensures ∙ ap (λ (rs : List ModelRow). get_or rs c.in-Some.place c.get.result.now) c.self.view_is) _ c.in-Fails.ensures;
    }

pub returns : goal.returns
returns c =
    sym (no_more c.args.self.now c.args.name.now c.args.params.now c.loop-next.invariant.from c.loop-next.invariant.within c.loop-next.next c.loop-next.invariant.next c.loop-next.invariant.rest c.in_default.is)
