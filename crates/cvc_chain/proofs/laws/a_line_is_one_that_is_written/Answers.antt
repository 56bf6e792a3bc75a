use Rattle.cvc_chain.proofs.RoundTrip.{bad_rows_are_not_written, lines_are_written}
use Rattle.cvc_chain.proofs.laws.a_line_is_one_that_is_written.Goals as goal

pub returns : goal.returns
returns c = record { read = lines_are_written; refused = bad_rows_are_not_written }
