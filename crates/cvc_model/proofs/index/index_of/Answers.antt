use Rattle.std.proofs.Common.{◌∙◌, ap, sym, arith}
use Rattle.cvc_model.specs.declared.row.ModelRow.{ModelRow}
use Rattle.cvc_model.proofs.Entries.{IsIndexFrom-end, IsIndexFrom-before}
use Rattle.cvc_model.proofs.index.index_of.Goals as goal

pub loop-place-init : goal.loop-place-init
loop-place-init c = IsIndexFrom-end c.args.rows.now _ _ c.new-first.ensures.empty (sym c.in_ok-next.next.ok.0 ∙ c.in_ok-next.ensures.len)

pub loop-place-preserved : goal.loop-place-preserved
loop-place-preserved c =
    IsIndexFrom-before c.args.rows.now c.loop-place.place c.loop-place.first.entries c.loop-place.next.items c.index-rows-place.result c.in_ok-name.name
    (omega arith) (omega arith) c.index-rows-place.is (c.in_ok-name.ensures.items ∙ c.bytes.ensures ∙ ap (λ (r : ModelRow). r.name) (sym c.index-rows-place.is)) c.loop-place.invariant
    _ c.in_ok-next-2.ensures.entries _ c.in_ok-next-2.ensures.old
