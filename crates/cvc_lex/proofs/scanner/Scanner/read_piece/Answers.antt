use Rattle.std.proofs.lemmas.Result.{err_from_is_err_and}
use Rattle.cvc_lex.specs.Scanning.{lexing_of}
use Rattle.cvc_lex.proofs.Readings.{piece_stop, piece_more, piece_last, part_end}
use Rattle.cvc_lex.proofs.scanner.Scanner.read_piece.Goals as goal

pub returns-in_err-end_with : goal.returns-in_err-end_with
returns-in_err-end_with c =
    let p = err_from_is_err_and c.from_residual.result c.from_residual.ensures.1 in
    rw (p.1, p.2) (piece_stop (lexing_of c.args.self.now) (lexing_of c.loop-len.self) (lexing_of c.end_with.new.self) c.loop-len.start c.in-Some.len c.args.piece.now tt _ c.loop-len.invariant.1 c.in_err-end_with.ensures)

pub loop-len-preserved : goal.loop-len-preserved
loop-len-preserved c = (
  part_end c.loop-len.start c.in-Some.len c.args.piece.now c.loop-len.invariant.0 c.in-Some.ensures.0,
  piece_more (lexing_of c.args.self.now) (lexing_of c.loop-len.self) (lexing_of c.end_with.new.self) c.loop-len.start c.in-Some.len c.args.piece.now tt _ c.loop-len.invariant.1 c.in_ok-end_with.ensures,
)

pub returns : goal.returns
returns c = piece_last (lexing_of c.args.self.now) (lexing_of c.loop-len.self) (lexing_of c.keep.new.self) c.loop-len.start c.args.piece.now tt c.keep.result c.loop-len.invariant.1 c.keep.ensures
