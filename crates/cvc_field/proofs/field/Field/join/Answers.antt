use Rattle.std.proofs.Common.{ap, ◌∙◌, arith}
use Rattle.cvc_field.specs.Trail.{is_quiet}
use Rattle.cvc_field.proofs.Parts.{joined_parts, joined_trail, quiet_left, quiet_right}
use Rattle.cvc_field.specs.Hands.{HandView}
use Rattle.cvc_field.proofs.field.Field.join.Goals as goal

pub overflow_add-numbers : goal.overflow_add-numbers
overflow_add-numbers c = let few = c.args.self.now.few_hands in let a = c.into_parts-seat.ensures.2 in let b = c.into_parts-other.ensures.2 in let p = c.requires.hands.0.2 in let q = c.requires.hands.1.2 in let n = c.requires.next in omega arith

pub of-requires : goal.of-requires
of-requires c =
    let all = joined_parts c.args.first c.args.second c.into_parts-seat.result.0 c.into_parts-other.result.0 c.put_together.new.seat c.into_parts-seat.result.1 c.into_parts-other.result.1 c.into_parts-seat.result.2 c.into_parts-other.result.2 c.into_parts-seat.ensures c.into_parts-other.ensures c.put_together.ensures.seat.1 c.put_together.ensures.seat.0.1 in
    (all.0, all.1, all.2, c.either.ensures ∙ all.3)

pub returns-clause-quiet : goal.returns-clause-quiet
returns-clause-quiet c =
    let e = ap (λ (v : HandView). v.trail) c.of.ensures ∙ joined_trail c.args.first c.args.second c.into_parts-seat.result.0 c.into_parts-other.result.0 c.put_together.new.seat c.into_parts-seat.result.1 c.into_parts-other.result.1 c.into_parts-seat.result.2 c.into_parts-other.result.2 c.into_parts-seat.ensures c.into_parts-other.ensures c.put_together.ensures.seat.1 in
    ((λ h. ap is_quiet e ∙ quiet_left c.args.first.trail c.args.second.trail h), λ h. ap is_quiet e ∙ quiet_right c.args.first.trail c.args.second.trail h)
