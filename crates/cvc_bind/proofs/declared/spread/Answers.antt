use Rattle.std.proofs.Common.{◌≡◌, ℕ, ◌+◌, ◌-◌, ◌<◌, length, map, drop, sym, ap, subst, ◌∙◌, arith}
use Rattle.std.specs.Prelude.{Some, slice_index_or, slice_set}
use Rattle.std.specs.List.{range_with_len}
use Rattle.std.proofs.lemmas.Grind.{common_steps}
use Rattle.std.proofs.lemmas.List.{length-set}
use Rattle.std.proofs.lemmas.List.Elements.{All-get_or}
use Rattle.cvc_base.specs.declared.ids.NetId.{NetId}
use Rattle.cvc_law.specs.declared.interval.Fixed.{Fixed}
use Rattle.cvc_bind.specs.DeclaredNets.{declared}
use Rattle.cvc_bind.proofs.Spreading.{AreDeclared, none_put, one_more, whole, ordered_nets}
use Rattle.cvc_bind.proofs.declared.spread.Goals as goal

pub loop-place-init : goal.loop-place-init
loop-place-init c = record {
  sized = grind (arith, common_steps);
  put = none_put c.args.nets.now c.args.rows.now c.in_ok-fixed.fixed.items c.requires.each (λ n h. grind (arith, common_steps));
}

pub loop-place-preserved : goal.loop-place-preserved
loop-place-preserved c =
    let nets = c.args.nets.now in
    let rows = c.args.rows.now in
    let fixed = c.loop-place.fixed.items in
    let i = c.loop-place.place - 1 in
    let net : NetId = slice_index_or nets i (record { 0 = 0 }) in
    let row = c.index-rows-place.result in
    let in_rows : i < length rows = omega (arith, c.loop-place-test.true, c.loop-place.auto.place) in
    let in_nets : i < length nets = omega (arith, in_rows, c.requires.each) in
    let step : c.loop-place.place ≡ i + 1 = omega (arith, c.loop-place-test.true) in
    let net_here : slice_index_or nets i net ≡ net = grind (arith, common_steps) in
    let low : net.0 < c.args.count = All-get_or (λ (n : NetId). n.0 < c.args.count) nets i (record { 0 = 0 }) in_nets c.requires.inside in
    let inside : net.0 < length fixed = omega (arith, low, c.loop-place.invariant.sized) in
    let later = subst (λ (k : ℕ). AreDeclared (drop k nets) (drop k rows) fixed) step c.loop-place.invariant.put in
    let made = one_more nets rows i net row fixed in_nets in_rows net_here (sym c.index-rows-place.is) inside later in
    record {
      sized = length-set fixed net.0 (Some c.span_of.result) ∙ c.loop-place.invariant.sized;
      put = subst (λ (s : Fixed). AreDeclared (drop i nets) (drop i rows) (slice_set fixed net.0 (Some s))) (sym c.span_of.ensures) made;
    }

pub returns-clause-fixed : goal.returns-clause-fixed
returns-clause-fixed c =
    let zero : c.loop-place.place ≡ 0 = omega (arith, c.loop-place-test.false) in
    let all = subst (λ (k : ℕ). AreDeclared (drop k c.args.nets.now) (drop k c.args.rows.now) c.loop-place.fixed.items) zero c.loop-place.invariant.put in
    whole c.args.nets.now c.args.rows.now c.loop-place.fixed.items all ∙ ap (λ (k : ℕ). map (declared c.args.nets.now c.args.rows.now) (range_with_len 0 k)) c.loop-place.invariant.sized

pub returns-clause-ordered : goal.returns-clause-ordered
returns-clause-ordered c =
    let zero : c.loop-place.place ≡ 0 = omega (arith, c.loop-place-test.false) in
    let all = subst (λ (k : ℕ). AreDeclared (drop k c.args.nets.now) (drop k c.args.rows.now) c.loop-place.fixed.items) zero c.loop-place.invariant.put in
    ordered_nets c.args.nets.now c.args.rows.now c.loop-place.fixed.items c.requires.ordered all
