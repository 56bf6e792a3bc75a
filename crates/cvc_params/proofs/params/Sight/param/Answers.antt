use Rattle.std.proofs.Common.{◌≡◌, ℕ, List, Bor, refl, sym, ap, ◌∙◌}
use Rattle.std.specs.Option.{option_map}
use Rattle.cvc_base.specs.declared.param.Param.{Param}
use Rattle.cvc_params.specs.Levels.{instance_of}
use Rattle.cvc_params.specs.Params.{pairs_above, value_of_text}
use Rattle.cvc_params.specs.Seen.{use_in}
use Rattle.cvc_params.proofs.Listing.{param_found, param_lost}
use Rattle.cvc_params.proofs.params.Sight.param.Goals as goal

pub returns-in_default-clause-param : goal.returns-in_default-clause-param
returns-in_default-clause-param c =
    let s = c.args.self.now in
    let p = instance_of s.levels.items in
    param_lost s.netlist.now p c.args.pair.now (pairs_above s.netlist.now p) (use_in s.levels.items c.last_spot-start.result) refl c.last_spot-start.ensures.spot
    (ap (option_map (λ (t : Bor (List ℕ)). t.now)) (sym c.in_default.is) ∙ c.in_ok-text.ensures.last)

pub returns-clause-param : goal.returns-clause-param
returns-clause-param c =
    let s = c.args.self.now in
    let p = instance_of s.levels.items in
    let pair = c.args.pair.now in
    let names : c.in_ok-name.name ≡ pair.name = c.in_ok-name.ensures ∙ c.bytes.ensures in
    let q : Param = record { name = c.in_ok-name.name; value = c.in_ok-value.value } in
    let is : q ≡ record { name = pair.name; value = value_of_text c.in-Some.text.now } = λ i. record { name = names i; value = c.in_ok-value.ensures i } in
    param_found s.netlist.now p pair (pairs_above s.netlist.now p) (use_in s.levels.items c.last_spot-start.result) c.in-Some.text.now q refl c.last_spot-start.ensures.spot
    (ap (option_map (λ (t : Bor (List ℕ)). t.now)) (sym c.in-Some.is) ∙ c.in_ok-text.ensures.last) is
