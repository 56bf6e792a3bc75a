use Rattle.std.proofs.Common.{◌∙◌, subst, List}
use Rattle.std.proofs.lemmas.Option.{get_or_from_slice_get}
use Rattle.cvc_model.specs.declared.row.ModelRow.{ModelRow}
use Rattle.cvc_model.specs.Indexed.{IsIndex}
use Rattle.cvc_model.proofs.Walking.{linked}
use Rattle.cvc_model.proofs.models.Models.place_after.Goals as goal

pub returns-in-Some : goal.returns-in-Some
returns-in-Some c =
    let h = linked c.args.self.now c.in-Some.index (subst (λ (rs : List ModelRow). IsIndex c.in-Some.index rs) c.self.view_is (c.self.invariant c.in-Some.index c.in-Some.is))
    c.args.place c.requires.place c.args.name.now c.requires.named in
    c.index.ensures ∙ get_or_from_slice_get c.in-Some.index.next.items c.args.place _ c.index.result.now h
