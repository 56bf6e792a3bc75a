use Rattle.std.proofs.Common.{◌≡◌, ℕ, ap, ◌∙◌, arith, below_more}
use Rattle.std.proofs.lemmas.List.{length-set, get_or-set_other, get_or-set_same}
use Rattle.cvc_law.specs.Network.{fixed_at}
use Rattle.cvc_law.specs.Family.{unknown, interval_at}
use Rattle.cvc_serial.specs.Starting.{started}
use Rattle.std.specs.Prelude.{slice_set}
use Rattle.cvc_serial.proofs.start.starting.Goals as goal

pub loop-n-preserved : goal.loop-n-preserved
loop-n-preserved c =
    let n = c.args.circuit.now in
    let f = c.args.family.now in
    let old = c.loop-n.bounds.items in
    let here = c.loop-n.n in
    let i = c.started.result in
    record {
      every_net = length-set old here i ∙ c.loop-n.invariant.every_net;
      at = below_more (λ (m : ℕ). interval_at (slice_set old here i) m ≡ started n (fixed_at n m) (interval_at f m)) here
          (λ m less. get_or-set_other old here m i unknown (λ same. omega arith) ∙ c.loop-n.invariant.at m less)
          (get_or-set_same old here i unknown (omega (arith, c.loop-n.invariant.every_net, c.nets-n-end.ensures.count)) ∙ (c.started.ensures ∙ ap (started n (fixed_at n here)) c.given.ensures));
    }
