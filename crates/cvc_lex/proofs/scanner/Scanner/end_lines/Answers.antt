use Rattle.std.proofs.Common.{◌≡◌, [], length, ap, arith}
use Rattle.std.proofs.lemmas.Grind.{common_steps}
use Rattle.std.proofs.lemmas.Result.{err_from_is_err_and}
use Rattle.cvc_lex.specs.Scanning.{lexing_of}
use Rattle.cvc_lex.proofs.Readings.{lines_empty, lines_stop, lines_close}
use Rattle.cvc_lex.proofs.scanner.Scanner.end_lines.Goals as goal

pub returns-then-is_empty : goal.returns-then-is_empty
returns-then-is_empty c =
    let none : c.args.self.now.rest.items ≡ [] = grind (arith, common_steps) in
    lines_empty (lexing_of c.args.self.now) c.requires none (lexing_of c.close.new.self) c.close.result c.close.ensures

pub returns-in_err-end_rest : goal.returns-in_err-end_rest
returns-in_err-end_rest c =
    let p = err_from_is_err_and c.from_residual.result c.from_residual.ensures.1 in
    rw (p.1, p.2) (lines_stop (lexing_of c.args.self.now) c.requires (λ none. let long : length c.args.self.now.rest.items ≡ 0 = ap length none in grind (arith, common_steps)) (lexing_of c.end_rest.new.self) _ c.in_err-end_rest.ensures)

pub returns : goal.returns
returns c = lines_close (lexing_of c.args.self.now) c.requires (λ none. let long : length c.args.self.now.rest.items ≡ 0 = ap length none in grind (arith, common_steps)) (lexing_of c.end_rest.new.self) c.in_ok-end_rest.field-0 c.in_ok-end_rest.ensures (lexing_of c.close-2.new.self) c.close-2.result c.close-2.ensures
