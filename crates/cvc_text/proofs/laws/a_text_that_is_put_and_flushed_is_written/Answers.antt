use Rattle.cvc_text.proofs.Putting.{put_flushed, put_failed}
use Rattle.cvc_text.proofs.laws.a_text_that_is_put_and_flushed_is_written.Goals as goal

pub returns : goal.returns
returns c = record { flushed = λ u r. put_flushed u r; stopped = λ e. put_failed e }
