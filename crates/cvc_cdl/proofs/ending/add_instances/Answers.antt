use Rattle.std.proofs.Common.{Some, None, ap, subst, sym, ◌∙◌}
use Rattle.std.specs.Prelude.{All}
use Rattle.std.proofs.lemmas.List.{append-nil}
use Rattle.std.proofs.lemmas.List.Elements.{All-push}
use Rattle.cvc_cdl.specs.declared.library.Placed.{Placed}
use Rattle.cvc_cdl.specs.Placed.{IsPlaced}
use Rattle.cvc_cdl.proofs.Endings.{insts_more}
use Rattle.cvc_cdl.proofs.ending.add_instances.Goals as goal
use Rattle.cvc_cdl.proofs.ending.add_instances.Goals.{in-Some+in_ok-push, in_default}

pub loop-item-preserved : goal.loop-item-preserved
loop-item-preserved c =
    let P : Placed → Type 0 = IsPlaced c.args.library.now.cells.now in
    let more = insts_more c.args.items.now c.loop-item.item-index c.item-item.result c.loop-item-test.true c.item-item.is in
    elim c.match-inst.branch [
      | in-Some+in_ok-push w ↦ record {
        insts = more (Some w.placed.result) (ap (λ x. Some x) w.placed.ensures.inst ∙ w.in-Some.ensures) c.args.found.now.items c.loop-item.found.items c.match-inst.found.items c.loop-item.invariant.insts
            (ap (λ v. v.items) w.found-is ∙ w.in_ok-push.ensures.items);
        placed = subst (All P) (sym (ap (λ v. v.items) w.found-is ∙ w.in_ok-push.ensures.items)) (All-push P c.loop-item.found.items w.placed.result c.loop-item.invariant.placed w.placed.ensures.placed);
      }
      | in_default w ↦ record {
        insts = more None w.in_default.ensures c.args.found.now.items c.loop-item.found.items c.match-inst.found.items c.loop-item.invariant.insts (ap (λ v. v.items) w.found-is ∙ sym (append-nil c.loop-item.found.items));
        placed = subst (All P) (sym (ap (λ v. v.items) w.found-is)) c.loop-item.invariant.placed;
      }
    ]
