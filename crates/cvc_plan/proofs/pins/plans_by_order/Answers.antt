use Rattle.std.proofs.Common.{◌≡◌, ℕ, List, [], take, get_or, Some, sym, ap, subst, ◌∙◌, arith}
use Rattle.std.specs.Prelude.{Option}
use Rattle.std.proofs.lemmas.List.{get_or_default}
use Rattle.cvc_base.specs.declared.param.Pair.{Pair}
use Rattle.cvc_cdl.proofs.Zips.{zip_more}
use Rattle.cvc_plan.specs.Nets.{paired}
use Rattle.cvc_plan.specs.Pins.{IsPortPlan, net_given}
use Rattle.cvc_plan.proofs.Growing.{grows_twice}
use Rattle.cvc_plan.proofs.Pinned.{front_stays, given_at}
use Rattle.cvc_plan.proofs.Planned.{port_plans_stay}
use Rattle.cvc_plan.proofs.pins.plans_by_order.Goals as goal

pub loop-place-preserved : goal.loop-place-preserved
loop-place-preserved c =
    let first = c.args.names.now in
    let old = c.loop-place.names in
    let new = c.port_plan.new.names in
    let g = c.args.globals in
    let globals : List (List ℕ) = take g first in
    let ports = c.args.ports.now in
    let used = c.args.used.now in
    let nets = c.args.nets.now in
    let pairs : List Pair = paired used nets in
    let k = c.loop-place.place in
    let inv = c.loop-place.invariant in
    let port = c.index-used-place.result in
    let q = c.in_ok-port_plan.field-0 in
    let e = c.in_ok-port_plan.ensures in
    let there : port ≡ get_or used k [] = c.index-used-place.is ∙ get_or_default used k port [] c.loop-place-test.true in
    let net : Some c.bytes.result.now ≡ net_given pairs port =
    ap Some (c.bytes.ensures ∙ c.index-nets-place.is ∙ get_or_default nets k c.index-nets-place.result [] (omega (arith, c.requires.fits, c.loop-place-test.true)))
    ∙ sym (given_at used nets k c.requires.once c.requires.fits c.loop-place-test.true) ∙ sym (ap (net_given pairs) there) in
    let is = subst (λ (o : Option (List ℕ)). IsPortPlan new globals ports o port q) net
    (subst (λ gs. IsPortPlan new gs ports (Some c.bytes.result.now) port q) (front_stays first old g inv.grows c.requires.below)
    (subst (λ t. IsPortPlan new (take g old) ports (Some c.bytes.result.now) t q) c.bytes-in-loop-place.ensures e.plan)) in
    record {
      grows = grows_twice first old new inv.grows e.grows;
      plans = zip_more (λ t r. IsPortPlan new globals ports (net_given pairs t) t r) used k port c.loop-place.plans.items c.push.new.self.items q c.loop-place-test.true c.index-used-place.is c.in_ok-push.ensures.items
          (port_plans_stay old new globals ports pairs (take k used) c.loop-place.plans.items e.grows inv.plans) is;
    }
