use Rattle.std.proofs.lemmas.Result.{err_from_is_err_and}
use Rattle.cvc_rows.proofs.Files.{at_refusal, all_rows, lexical_fault}
use Rattle.cvc_rows.proofs.reading.read_rows.Goals as goal

pub returns-in_err-rows-clause-rows : goal.returns-in_err-rows-clause-rows
returns-in_err-rows-clause-rows g c =
    let p = err_from_is_err_and c.from_residual-in_err-rows.result c.from_residual-in_err-rows.ensures.1 in
    rw (p.1, p.2) (at_refusal g.J.Judge.told _ c.args.file c.args.bytes.now c.in_ok-lexed.lexed c.in_ok-lexed.ensures c.in_err-rows.field-0.0 c.in_err-rows.ensures.rows)

pub returns-in-None-clause-rows : goal.returns-in-None-clause-rows
returns-in-None-clause-rows g c =
    all_rows g.J.Judge.told _ c.args.file c.args.bytes.now c.in_ok-lexed.lexed c.in_ok-lexed.ensures c.in_ok-rows.rows c.in_ok-rows.ensures.rows c.in-None.is

pub returns-clause-rows : goal.returns-clause-rows
returns-clause-rows g c =
    lexical_fault g.J.Judge.told _ c.args.file c.args.bytes.now c.in_ok-lexed.lexed c.in_ok-lexed.ensures c.in_ok-rows.rows c.in_ok-rows.ensures.rows
    c.in-Some.fault c.in-Some.is _ c.tell.ensures
