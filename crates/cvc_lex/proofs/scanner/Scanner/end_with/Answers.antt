use Rattle.std.proofs.Common.{◌≡◌, [], inr}
use Rattle.std.proofs.lemmas.Grind.{common_steps}
use Rattle.std.proofs.lemmas.Result.{err_from_is_err_and}
use Rattle.std.proofs.Common.{arith}
use Rattle.cvc_lex.specs.Scanning.{lexing_of}
use Rattle.cvc_lex.proofs.Readings.{count_stop, keep_want, end_empty, end_kept}
use Rattle.cvc_lex.proofs.scanner.Scanner.end_with.Goals as goal

pub returns-in_err-count_bytes : goal.returns-in_err-count_bytes
returns-in_err-count_bytes c =
    let p = err_from_is_err_and c.from_residual.result c.from_residual.ensures.1 in
    rw (p.1, p.2) (count_stop (lexing_of c.args.self.now) c.requires.going c.args.bytes.now (inr c.requires.bytes) (lexing_of c.count_bytes.new.self) _ c.in_err-count_bytes.ensures)

pub returns-then-is_empty : goal.returns-then-is_empty
returns-then-is_empty c =
    let none : c.count_bytes.new.self.rest.items ≡ [] = grind (arith, common_steps) in
    end_empty (lexing_of c.args.self.now) c.requires.going c.args.bytes.now c.requires.bytes (lexing_of c.count_bytes.new.self) c.in_ok-count_bytes.ensures none (lexing_of c.end_line.new.self) c.end_line.result c.end_line.ensures

pub returns-in_err-extend_from_slice : goal.returns-in_err-extend_from_slice
returns-in_err-extend_from_slice c =
    let p = err_from_is_err_and c.from_residual-in_err-extend_from_slice.result c.from_residual-in_err-extend_from_slice.ensures.1 in
    rw (p.1, p.2) (keep_want (lexing_of c.args.self.now) c.requires.going c.args.bytes.now (lexing_of c.count_bytes.new.self) c.extend_from_slice.new.self.items c.in_ok-count_bytes.ensures.1)

pub returns : goal.returns
returns c = end_kept (lexing_of c.args.self.now) c.requires.going c.args.bytes.now c.requires.bytes (lexing_of c.count_bytes.new.self) c.in_ok-count_bytes.ensures c.extend_from_slice.new.self.items c.in_ok-extend_from_slice.ensures.items (lexing_of c.end_rest.new.self) c.end_rest.result c.end_rest.ensures
