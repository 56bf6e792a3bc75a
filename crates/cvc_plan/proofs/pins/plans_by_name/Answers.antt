use Rattle.std.proofs.Common.{◌≡◌, ℕ, List, take, ap, subst, ◌∙◌}
use Rattle.std.specs.Prelude.{Option}
use Rattle.std.specs.Option.{option_map}
use Rattle.std.specs.Borrow.{Bor}
use Rattle.cvc_cdl.proofs.Zips.{zip_more}
use Rattle.cvc_plan.specs.Pins.{IsPortPlan, net_given}
use Rattle.cvc_plan.proofs.Growing.{grows_twice}
use Rattle.cvc_plan.proofs.Pinned.{front_stays}
use Rattle.cvc_plan.proofs.Planned.{port_plans_stay}
use Rattle.cvc_plan.proofs.pins.plans_by_name.Goals as goal

abbrev text_of : Bor (List ℕ) → List ℕ
text_of t = t.now

pub loop-port-preserved : goal.loop-port-preserved
loop-port-preserved c =
    let first = c.args.names.now in
    let old = c.loop-port.names in
    let new = c.port_plan.new.names in
    let g = c.args.globals in
    let globals : List (List ℕ) = take g first in
    let ports = c.args.ports.now in
    let used = c.args.used.now in
    let pairs = c.args.pairs.now in
    let k = c.loop-port.port-index in
    let inv = c.loop-port.invariant in
    let port = c.port-item.result in
    let q = c.in_ok-port_plan.field-0 in
    let e = c.in_ok-port_plan.ensures in
    let net : option_map text_of c.net_among-net.result ≡ net_given pairs port = c.net_among-net.ensures ∙ ap (net_given pairs) c.bytes.ensures in
    let is = subst (λ (o : Option (List ℕ)). IsPortPlan new globals ports o port q) net
    (subst (λ gs. IsPortPlan new gs ports (option_map text_of c.net_among-net.result) port q) (front_stays first old g inv.grows c.requires.below)
    (subst (λ t. IsPortPlan new (take g old) ports (option_map text_of c.net_among-net.result) t q) c.bytes-in-loop-port.ensures e.plan)) in
    record {
      grows = grows_twice first old new inv.grows e.grows;
      plans = zip_more (λ t r. IsPortPlan new globals ports (net_given pairs t) t r) used k port c.loop-port.plans.items c.push.new.self.items q c.loop-port-test.true c.port-item.is c.in_ok-push.ensures.items
          (port_plans_stay old new globals ports pairs (take k used) c.loop-port.plans.items e.grows inv.plans) is;
    }
