use Rattle.std.proofs.Common.{◌≡◌, ◌+◌, ◌<◌, List, length, get_or, take, refl, sym, ap, ◌∙◌, arith, subst, true}
use Rattle.std.specs.Prelude.{IfSome, Option, Some, is_some}
use Rattle.cvc_base.specs.declared.param.Value.{Value}
use Rattle.cvc_card.specs.Words.{is_number}
use Rattle.std.proofs.lemmas.List.{take_all}
use Rattle.cvc_params.specs.Plain.{are_plain, has_number}
use Rattle.cvc_base.specs.declared.param.Pair.{Pair}
use Rattle.cvc_base.specs.declared.param.Param.{Param}
use Rattle.cvc_params.specs.Params.{value_of_text}
use Rattle.cvc_params.proofs.Listing.{params_first}
use Rattle.cvc_params.proofs.Plainly.{HaveParams, plain_front, plain_loops, plain_more}
use Rattle.cvc_params.proofs.plain.plain_params.Goals as goal

pub loop-pair-init : goal.loop-pair-init
loop-pair-init c = ((λ n p. params_first n p ∙ ap Some (sym (c.reserve.ensures ∙ c.new-params.ensures))), refl)

pub loop-pair-preserved : goal.loop-pair-preserved
loop-pair-preserved c =
    let pairs = c.args.pairs.now in
    let items = c.as_slice-pair-items.ensures in
    let pair = c.pair-item.result in
    let names : c.in_ok-name.name ≡ pair.name = c.in_ok-name.ensures ∙ c.bytes-in-loop-pair.ensures in
    let found = c.number_in.ensures in
    let values : c.in-Some.value ≡ value_of_text pair.value =
    subst (λ (o : Option Value). IfSome o (λ (v : Value). v ≡ value_of_text c.bytes.result.now)) c.in-Some.is found.value ∙ ap value_of_text c.bytes.ensures in
    let number : has_number pair ≡ true = ap is_number (sym c.bytes.ensures) ∙ sym found.number ∙ ap is_some c.in-Some.is in
    let q : Param = record { name = c.in_ok-name.name; value = c.in-Some.value } in
    let is : q ≡ record { name = pair.name; value = value_of_text pair.value } = λ i. record { name = names i; value = values i } in
    let inside : c.loop-pair.pair-index < length pairs = omega (arith, c.loop-pair-test.true, ap length items) in
    let here : pair ≡ get_or pairs c.loop-pair.pair-index pair = c.pair-item.is ∙ ap (λ (l : List Pair). get_or l c.loop-pair.pair-index pair) items in (
      subst (HaveParams (take (c.loop-pair.pair-index + 1) pairs)) (sym c.in_ok-push.ensures.ok) (plain_more pairs c.loop-pair.pair-index pair c.loop-pair.params q number inside here is c.loop-pair.invariant.0),
      plain_front pairs c.loop-pair.pair-index pair inside (ap has_number (sym here) ∙ number) c.loop-pair.invariant.1,
    )

pub returns-clause-looped : goal.returns-clause-looped
returns-clause-looped c =
    let pairs = c.args.pairs.now in
    let whole : take c.loop-pair.pair-index pairs ≡ pairs = take_all c.loop-pair.pair-index pairs (omega (arith, c.loop-pair-test.false, ap length c.as_slice-pair-items.ensures)) in
    λ n p. plain_loops n p pairs (sym (ap are_plain whole) ∙ c.loop-pair.invariant.1)
