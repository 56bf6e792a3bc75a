use Rattle.cvc_delta.specs.Edits.{after_all}
use Rattle.cvc_delta.proofs.reading.read_edits.Goals as goal

pub read_rows-requires : goal.read_rows-requires
unfolding after_all
read_rows-requires c = c.in_ok-names_left.ensures
