use Rattle.std.proofs.Common.{◌≡◌, ◌<◌, List, length, get_or, take, sym, ap, ◌∙◌, arith}
use Rattle.std.specs.Prelude.{is_none, Some}
use Rattle.std.proofs.lemmas.List.{take_all}
use Rattle.cvc_base.specs.declared.param.Pair.{Pair}
use Rattle.cvc_params.specs.Levels.{instance_of}
use Rattle.cvc_params.specs.Params.{pairs_above, params_in}
use Rattle.cvc_params.proofs.Answering.{same_itself, same_param, same_twice}
use Rattle.cvc_params.proofs.Listing.{params_first, params_lost, params_more}
use Rattle.cvc_params.proofs.Loops.{params_none}
use Rattle.cvc_params.proofs.params.Sight.params_of.Goals as goal

pub loop-pair-init : goal.loop-pair-init
loop-pair-init c = record {
  sight = c.requires;
  same = same_itself c.args.self.now;
  found = params_first c.args.self.now.netlist.now (instance_of c.args.self.now.levels.items) ∙ ap Some (sym (c.reserve.ensures ∙ c.new-params.ensures));
}

pub returns-in-None-clause-found : goal.returns-in-None-clause-found
returns-in-None-clause-found c =
    let pairs = c.args.pairs.now in
    let s = c.args.self.now in
    let items = c.as_slice-pair-items.ensures in
    let inside : c.loop-pair.pair-index < length pairs = omega (arith, c.loop-pair-test.true, ap length items) in
    sym (params_lost s.netlist.now (instance_of s.levels.items) pairs c.loop-pair.pair-index c.pair-item.result inside
    (c.pair-item.is ∙ ap (λ (l : List Pair). get_or l c.loop-pair.pair-index c.pair-item.result) items)
    (sym c.in-None.is ∙ c.in_ok-param.ensures.param ∙ same_param s c.loop-pair.self c.pair-item.result c.loop-pair.invariant.same))

pub returns-in-None-clause-looped : goal.returns-in-None-clause-looped
returns-in-None-clause-looped c =
    let pairs = c.args.pairs.now in
    let s = c.args.self.now in
    let items = c.as_slice-pair-items.ensures in
    let inside : c.loop-pair.pair-index < length pairs = omega (arith, c.loop-pair-test.true, ap length items) in
    sym (ap is_none (params_lost s.netlist.now (instance_of s.levels.items) pairs c.loop-pair.pair-index c.pair-item.result inside
    (c.pair-item.is ∙ ap (λ (l : List Pair). get_or l c.loop-pair.pair-index c.pair-item.result) items)
    (sym c.in-None.is ∙ c.in_ok-param.ensures.param ∙ same_param s c.loop-pair.self c.pair-item.result c.loop-pair.invariant.same)))
    ∙ params_none s.netlist.now (instance_of s.levels.items) pairs

pub loop-pair-preserved : goal.loop-pair-preserved
loop-pair-preserved c =
    let pairs = c.args.pairs.now in
    let s = c.args.self.now in
    let k = c.loop-pair.pair-index in
    let items = c.as_slice-pair-items.ensures in
    let inside : k < length pairs = omega (arith, c.loop-pair-test.true, ap length items) in
    record {
      sight = c.in_ok-param.ensures.sight;
      same = same_twice s c.loop-pair.self c.param.new.self c.loop-pair.invariant.same c.in_ok-param.ensures.same;
      found = params_more s.netlist.now (instance_of s.levels.items) pairs k c.pair-item.result c.loop-pair.params c.in-Some.param inside
          (c.pair-item.is ∙ ap (λ (l : List Pair). get_or l k c.pair-item.result) items) c.loop-pair.invariant.found
          (sym c.in-Some.is ∙ c.in_ok-param.ensures.param ∙ same_param s c.loop-pair.self c.pair-item.result c.loop-pair.invariant.same)
          ∙ ap Some (sym c.in_ok-push-in-Some.ensures.ok);
    }

pub returns-clause-looped : goal.returns-clause-looped
returns-clause-looped c =
    let pairs = c.args.pairs.now in
    let s = c.args.self.now in
    let items = c.as_slice-pair-items.ensures in
    let all : take c.loop-pair.pair-index pairs ≡ pairs = take_all c.loop-pair.pair-index pairs (omega (arith, c.loop-pair-test.false, ap length items)) in
    sym (ap is_none (sym (ap (params_in s.netlist.now (instance_of s.levels.items)) all) ∙ c.loop-pair.invariant.found))
    ∙ params_none s.netlist.now (instance_of s.levels.items) pairs

pub param-requires-clause-steps : goal.param-requires-clause-steps
param-requires-clause-steps c =
    let h = c.loop-pair.invariant.same in
    c.in_ok-steps.ensures ∙ sym (λ i. pairs_above (h.netlist i) (instance_of (h.levels i)))
