use Rattle.std.proofs.Common.{◌≡◌, ◌∷◌, ◌++◌, [], List, take, sym, ap, ◌∙◌}
use Rattle.std.proofs.lemmas.List.{take_more}
use Rattle.cvc_base.specs.declared.param.Pair.{Pair}
use Rattle.cvc_plan.specs.Parts.{pair_of}
use Rattle.cvc_plan.proofs.Growing.{connection_more, grows_twice, pairs_more}
use Rattle.cvc_plan.proofs.plan.connections_by_name.Goals as goal

pub loop-pair-preserved : goal.loop-pair-preserved
loop-pair-preserved c =
    let old = c.loop-pair.names in
    let new = c.connection.new.names in
    let done : List Pair = take c.loop-pair.pair-index c.args.pairs.now in
    let item = c.pair-item.result in
    let pair : pair_of new c.in_ok-connection.field-0 ≡ item = c.in_ok-connection.ensures.pair ∙ (λ i. record { name = c.bytes.ensures i; value = c.bytes-in-loop-pair.ensures i }) in
    record {
      grows = grows_twice c.args.names.now old new c.loop-pair.invariant.grows c.in_ok-connection.ensures.grows;
      within = connection_more old new c.loop-pair.connections.items c.push.new.self.items c.in_ok-connection.field-0 c.in_ok-connection.ensures.grows c.loop-pair.invariant.within c.in_ok-connection.ensures.within c.in_ok-push.ensures.items;
      pairs = pairs_more old new c.loop-pair.connections.items c.push.new.self.items c.in_ok-connection.field-0 done c.in_ok-connection.ensures.grows c.loop-pair.invariant.within c.in_ok-push.ensures.items c.loop-pair.invariant.pairs
          ∙ ap (λ (p : Pair). done ++ p ∷ []) (pair ∙ c.pair-item.is)
          ∙ sym (take_more c.args.pairs.now c.loop-pair.pair-index item c.loop-pair-test.true);
    }
