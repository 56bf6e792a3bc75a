use Rattle.std.proofs.lemmas.Result.{err_from_is_err_and}
use Rattle.cvc_io.specs.Files.{Files}
use Rattle.cvc_run.specs.Said.{bound_of_job}
use Rattle.cvc_run.specs.Telling.{checked_whole}
use Rattle.cvc_run.proofs.Loading.{unsaid}
use Rattle.cvc_run.proofs.run.judge_files_serial.Goals as goal

pub returns-in_err-judged-clause-said : goal.returns-in_err-judged-clause-said
returns-in_err-judged-clause-said g c =
    let p = err_from_is_err_and c.from_residual-in_err-judged.result c.from_residual-in_err-judged.ensures.1 in
    rw (p.1, p.2) (unsaid checked_whole (g.S.Shelf.files c.args.shelf.now) (λ (fs : Files). bound_of_job fs c.args.job.now))
