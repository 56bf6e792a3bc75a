use Rattle.std.proofs.Common.{Ok, arith, refl, sym, subst}
use Rattle.std.proofs.lemmas.Result.{err_from_is_err_and}
use Rattle.cvc_model.specs.Rows.{no_content}
use Rattle.cvc_model.specs.Drafting.{KeepsDraft}
use Rattle.cvc_model.proofs.Stepping.{stop_kept, of_draft, one_item, no_item}
use Rattle.cvc_model.proofs.draft.read_items.Goals as goal

pub loop-item-init : goal.loop-item-init
loop-item-init c = record { content = no_content; kept = record { voltages = c.none.ensures; tests = c.new.ensures }; rest = refl }

pub returns-in_err-add_item : goal.returns-in_err-add_item
returns-in_err-add_item c =
    let p = err_from_is_err_and c.from_residual.result c.from_residual.ensures.1 in
    let at = c.loop-item.invariant in
    rw (p.1, p.2) (stop_kept c.in_err-add_item.field-0.0 _ _
    (λ cause bad. one_item c.args.kind c.args.items.now _ at.content c.loop-item.item-index at.rest c.item-item.result (omega arith) c.item-item.is
    c.bytes.result.now c.bytes.ensures _ bad)
    (c.in_err-add_item.ensures at.content at.kept))

pub loop-item-preserved : goal.loop-item-preserved
loop-item-preserved c =
    let at = c.loop-item.invariant in
    let next = of_draft _ _ (c.in_ok-add_item.ensures at.content at.kept) in
    record {
      content = next.0;
      kept = next.1.1;
      rest = one_item c.args.kind c.args.items.now _ at.content c.loop-item.item-index at.rest c.item-item.result (omega arith) c.item-item.is
          c.bytes.result.now c.bytes.ensures _ next.1.0;
    }

pub returns : goal.returns
returns c =
    let at = c.loop-item.invariant in
    let all = no_item c.args.kind c.args.items.now _ at.content c.loop-item.item-index at.rest (omega arith) in
    subst (KeepsDraft (Ok c.loop-item.draft)) (sym all) at.kept
