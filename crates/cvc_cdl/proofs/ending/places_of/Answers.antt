use Rattle.std.proofs.Common.{Some, None, ap, sym, ◌∙◌}
use Rattle.std.proofs.lemmas.List.{append-nil}
use Rattle.cvc_cdl.specs.Placed.{place_placed}
use Rattle.cvc_cdl.proofs.Endings.{used_more}
use Rattle.cvc_cdl.proofs.ending.places_of.Goals as goal
use Rattle.cvc_cdl.proofs.ending.places_of.Goals.{in-Some+in_ok-push, in_default}

pub loop-inst-preserved : goal.loop-inst-preserved
loop-inst-preserved c =
    let more = used_more place_placed c.args.placed.now c.loop-inst.inst-index c.inst-item.result c.loop-inst-test.true c.inst-item.is in
    elim c.match-inst.branch [
      | in-Some+in_ok-push w ↦ more (Some w.in-Some.place) (sym w.in-Some.is) c.loop-inst.places.items c.match-inst.places.items c.loop-inst.invariant (ap (λ v. v.items) w.places-is ∙ w.in_ok-push.ensures.items)
      | in_default w ↦ more None (sym w.in_default.is) c.loop-inst.places.items c.match-inst.places.items c.loop-inst.invariant (ap (λ v. v.items) w.places-is ∙ sym (append-nil c.loop-inst.places.items))
    ]
