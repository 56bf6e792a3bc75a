use Rattle.cvc_chain.proofs.RoundTrip.{logs_are_read_back, only_logs_are_read}
use Rattle.cvc_chain.proofs.laws.a_log_is_read_back.Goals as goal

pub returns : goal.returns
returns c = record { back = logs_are_read_back; only = only_logs_are_read }
