use Rattle.std.proofs.Common.{inl}
use Rattle.std.proofs.lemmas.Result.{err_from_is_err_and}
use Rattle.cvc_lex.specs.Scanning.{lexing_of}
use Rattle.cvc_lex.proofs.Readings.{count_stop, keep_ok, keep_short, keep_want}
use Rattle.cvc_lex.proofs.scanner.Scanner.keep.Goals as goal

pub returns-in_err-count_bytes : goal.returns-in_err-count_bytes
returns-in_err-count_bytes c =
    let p = err_from_is_err_and c.from_residual.result c.from_residual.ensures.1 in
    rw (p.1, p.2) (count_stop (lexing_of c.args.self.now) c.requires.going c.args.bytes.now (inl c.requires.bytes) (lexing_of c.count_bytes.new.self) _ c.in_err-count_bytes.ensures)

pub returns-in_err-extend_from_slice : goal.returns-in_err-extend_from_slice
returns-in_err-extend_from_slice c =
    let p = err_from_is_err_and c.from_residual-in_err-extend_from_slice.result c.from_residual-in_err-extend_from_slice.ensures.1 in
    rw (p.1, p.2) (keep_want (lexing_of c.args.self.now) c.requires.going c.args.bytes.now (lexing_of c.count_bytes.new.self) c.extend_from_slice.new.self.items c.in_ok-count_bytes.ensures.1)

pub returns : goal.returns
returns c =
    let kept = keep_ok (lexing_of c.args.self.now) c.requires.going c.args.bytes.now (lexing_of c.count_bytes.new.self) c.extend_from_slice.new.self.items tt c.requires.bytes c.in_ok-count_bytes.ensures c.in_ok-extend_from_slice.ensures.items in
    let wanted = keep_want (lexing_of c.args.self.now) c.requires.going c.args.bytes.now (lexing_of c.count_bytes.new.self) c.extend_from_slice.new.self.items c.in_ok-count_bytes.ensures.1 in
    keep_short (lexing_of c.args.self.now) c.requires.going c.args.bytes.now (record (lexing_of c.count_bytes.new.self) { rest = c.extend_from_slice.new.self.items }) (lexing_of c.shorten.new.self) tt c.shorten.result kept wanted c.shorten.ensures
