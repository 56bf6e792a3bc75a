use Rattle.std.proofs.Common.{◌∙◌, sym, ap, arith}
use Rattle.std.specs.Str.{bytes_eq}
use Rattle.cvc_model.specs.declared.row.ModelRow.{ModelRow}
use Rattle.cvc_model.proofs.Places.{next_place-read, next_place-past}
use Rattle.cvc_model.proofs.models.place_from.Goals as goal

pub returns-then-eq : goal.returns-then-eq
returns-then-eq c =
    let tested = c.eq.ensures ∙ ap (bytes_eq c.args.name.now) (c.bytes.ensures ∙ ap (λ (r : ModelRow). r.name) (sym c.index-rows-place.is)) in
    sym (c.loop-place.invariant ∙ next_place-read c.args.rows.now c.args.name.now c.loop-place.place c.index-rows-place.result (omega arith) c.index-rows-place.is _ (sym c.if-eq.true ∙ tested))

pub loop-place-preserved : goal.loop-place-preserved
loop-place-preserved c =
    let tested = c.eq.ensures ∙ ap (bytes_eq c.args.name.now) (c.bytes.ensures ∙ ap (λ (r : ModelRow). r.name) (sym c.index-rows-place.is)) in
    c.loop-place.invariant ∙ next_place-read c.args.rows.now c.args.name.now c.loop-place.place c.index-rows-place.result (omega arith) c.index-rows-place.is _ (sym c.if-eq.false ∙ tested)

pub returns : goal.returns
returns c = sym (c.loop-place.invariant ∙ next_place-past c.args.rows.now c.args.name.now c.loop-place.place (omega arith))
