use Rattle.std.proofs.Common.{◌∙◌, ◌+◌, sym, arith}
use Rattle.cvc_lex.specs.Physical.{is_lone_dollar}
use Rattle.cvc_lex.proofs.Finding.{dollar_next, dollar_none}
use Rattle.cvc_lex.proofs.Texts.{place_more, place_here}
use Rattle.cvc_lex.proofs.physical.lone_dollar.Goals as goal

pub returns-then-is_lone_dollar-clause-place : goal.returns-then-is_lone_dollar-clause-place
returns-then-is_lone_dollar-clause-place c =
    let next = dollar_next c.args.text.now c.loop-len.i c.in-Some.len c.loop-len.invariant.0 c.in-Some.ensures in
    sym (place_here (is_lone_dollar c.args.text.now) (c.loop-len.i + c.in-Some.len) _ next.0 (sym c.is_lone_dollar.ensures ∙ c.if-is_lone_dollar.true)) ∙ sym next.1 ∙ c.loop-len.invariant.1

pub loop-len-preserved : goal.loop-len-preserved
loop-len-preserved c =
    let next = dollar_next c.args.text.now c.loop-len.i c.in-Some.len c.loop-len.invariant.0 c.in-Some.ensures in
    (omega arith, sym (place_more (is_lone_dollar c.args.text.now) (c.loop-len.i + c.in-Some.len) _ next.0 (sym c.is_lone_dollar.ensures ∙ c.if-is_lone_dollar.false)) ∙ sym next.1 ∙ c.loop-len.invariant.1)

pub returns-clause-place : goal.returns-clause-place
returns-clause-place c = sym (dollar_none c.args.text.now c.loop-len.i c.memchr.result c.in_default.is c.loop-len.invariant.0 c.memchr.ensures) ∙ c.loop-len.invariant.1
