use Rattle.cvc_modes.proofs.Counting.{few_read}
use Rattle.cvc_modes.proofs.reading.read_modes.Goals as goal

pub returns-clause-few : goal.returns-clause-few
returns-clause-few c = few_read c.args.bytes.now c.read_rows.result c.read_rows.ensures.rows
