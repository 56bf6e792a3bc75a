use Rattle.cvc_cdl.proofs.ReadsBack.{reads_back}
use Rattle.cvc_cdl.proofs.laws.a_printed_netlist_reads_back.Goals as goal

pub returns : goal.returns
returns c = reads_back
