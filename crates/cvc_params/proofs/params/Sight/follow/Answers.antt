use Rattle.std.proofs.Common.{◌≡◌, ℕ, suc, ◌-◌, sym, ap, subst, ◌∙◌, arith}
use Rattle.std.specs.Prelude.{All}
use Rattle.cvc_params.specs.Sights.{Ends, IsStep}
use Rattle.cvc_params.specs.Levels.{instance_of}
use Rattle.cvc_params.specs.Params.{last_text}
use Rattle.cvc_params.specs.Seen.{use_in}
use Rattle.cvc_params.proofs.Answering.{IsAskedFor, asked_on, ends_after, ends_enough, sees_way}
use Rattle.cvc_params.proofs.Chains.{last_after, last_never}
use Rattle.cvc_params.proofs.params.Sight.follow.Goals as goal

pub returns-in-End-clause-last : goal.returns-in-End-clause-last
returns-in-End-clause-last c =
    let n = c.args.self.now.netlist.now in
    let levels = c.args.self.now.levels.items in
    let here : Ends n (use_in levels c.chain.spot) c.in-End.end.now = subst (IsStep n levels c.chain.spot) c.in-End.is c.in_ok-end.ensures in
    ends_enough n (instance_of levels) (use_in levels c.args.start) c.in-End.end.now (sees_way levels c.args.start.site c.requires.inside)
    (c.chain.invariant.ends c.in-End.end.now here)

pub returns-then-left-eq0-clause-last : goal.returns-then-left-eq0-clause-last
returns-then-left-eq0-clause-last c =
    let n = c.args.self.now.netlist.now in
    let levels = c.args.self.now.levels.items in
    let u = use_in levels c.chain.spot in
    let v = use_in levels c.in-On.seen in
    let leads = subst (IsStep n levels c.chain.spot) c.in-On.is c.in_ok-end.ensures in
    sym (last_never n v) ∙ sym (last_after n 0 u v leads.step) ∙ ap (λ (k : ℕ). last_text n (suc k) u) (sym c.if-left-eq0.true) ∙ c.chain.invariant.last

pub chain-preserved : goal.chain-preserved
chain-preserved c =
    let n = c.args.self.now.netlist.now in
    let levels = c.args.self.now.levels.items in
    let u = use_in levels c.chain.spot in
    let v = use_in levels c.in-On.seen in
    let leads = subst (IsStep n levels c.chain.spot) c.in-On.is c.in_ok-end.ensures in
    let left : suc (c.chain.left - 1) ≡ c.chain.left = omega arith in
    record {
      last = sym (last_after n (suc (c.chain.left - 1)) u v leads.step) ∙ ap (λ (k : ℕ). last_text n (suc k) u) left ∙ c.chain.invariant.last;
      ends = λ t e. c.chain.invariant.ends t (ends_after n u v t leads.step e);
      inside = leads.inside;
      asked = subst (All (IsAskedFor n levels v)) (sym c.in_ok-push-in-On.ensures.items)
          (asked_on n levels c.chain.spot c.in-On.seen c.chain.trail.items leads c.chain.invariant.inside c.chain.invariant.asked);
    }
