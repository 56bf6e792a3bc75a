use Rattle.std.proofs.Common.{List, ◌∷◌, ◌++◌, [], All, ap, subst, refl, ◌∙◌}
use Rattle.std.proofs.lemmas.List.Elements.{All-head, All-tail}
use Rattle.std.proofs.lemmas.Result.{err_from_is_err_and}
use Rattle.cvc_base.specs.declared.line.Line.{Line}
use Rattle.cvc_lex.specs.Laws.{HasToken}
use Rattle.cvc_lex.specs.Lexing.{Lexing}
use Rattle.cvc_run.proofs.Passing.{all_passed, passes_more, passes_none, rest_next, stops_next}
use Rattle.cvc_run.proofs.netlist.pass_lines.Goals as goal

pub loop-line-init : goal.loop-line-init
loop-line-init c = record { lines = []; rest = refl; passed = passes_none c.args.builder.now; same = refl; tokens = c.requires }

pub pass_line-requires : goal.pass_line-requires
pass_line-requires c = All-head HasToken c.in-Some.line c.next_line.new.self.waiting (subst (All HasToken) c.in-Some.ensures.taken c.loop-line.invariant.tokens)

pub loop-line-preserved : goal.loop-line-preserved
loop-line-preserved c =
    let inv = c.loop-line.invariant in
    record {
      lines = inv.lines ++ c.in-Some.line ∷ [];
      rest = rest_next c.args.builder.now c.loop-line.builder c.args.lexer.now.waiting inv.lines c.loop-line.lexer.waiting inv.rest inv.passed c.in-Some.line c.next_line.new.self.waiting c.in-Some.ensures.taken;
      passed = passes_more c.args.builder.now c.loop-line.builder c.pass_line.new.builder inv.lines (c.in-Some.line ∷ []) inv.passed c.in_ok-pass_line.ensures.passed;
      same = c.next_line.ensures.same ∙ ap (λ (x : Lexing). record x { waiting = c.next_line.new.self.waiting }) inv.same;
      tokens = All-tail HasToken c.in-Some.line c.next_line.new.self.waiting (subst (All HasToken) c.in-Some.ensures.taken inv.tokens);
    }

pub returns-in_err-pass_line-clause-fault : goal.returns-in_err-pass_line-clause-fault
returns-in_err-pass_line-clause-fault c =
    let inv = c.loop-line.invariant in
    let p = err_from_is_err_and c.from_residual.result c.from_residual.ensures.1 in
    rw (p.1, p.2)
    (stops_next c.args.builder.now c.loop-line.builder c.args.lexer.now.waiting inv.lines c.loop-line.lexer.waiting inv.rest inv.passed c.in-Some.line c.next_line.new.self.waiting c.in-Some.ensures.taken c.in_err-pass_line.field-0.0
    c.in_err-pass_line.ensures.fault)

pub returns-clause-passed : goal.returns-clause-passed
returns-clause-passed c =
    let inv = c.loop-line.invariant in
    all_passed c.args.builder.now c.loop-line.builder c.args.lexer.now.waiting inv.lines c.loop-line.lexer.waiting inv.rest inv.passed c.in_default.ensures.taken.0

pub returns-clause-handed : goal.returns-clause-handed
returns-clause-handed c =
    let inv = c.loop-line.invariant in
    c.next_line.ensures.same ∙ ap (λ (x : Lexing). record x { waiting = c.next_line.new.self.waiting }) inv.same ∙ ap (λ (ls : List Line). record c.args.lexer.now { waiting = ls }) c.in_default.ensures.taken.1
