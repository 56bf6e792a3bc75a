use Rattle.cvc_delta.proofs.PowerFiles.{power_is_apart}
use Rattle.cvc_delta.proofs.laws.rows_of_a_power_file_are_apart.Goals as goal

pub returns : goal.returns
returns c = power_is_apart
