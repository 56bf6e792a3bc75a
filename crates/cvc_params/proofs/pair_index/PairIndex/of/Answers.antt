use Rattle.std.proofs.Common.{ap, ◌∙◌, arith}
use Rattle.std.specs.Str.{str_to_ascii_lowercase}
use Rattle.cvc_params.proofs.Indexing.{index_more}
use Rattle.cvc_params.proofs.pair_index.PairIndex.of.Goals as goal

pub loop-place-preserved : goal.loop-place-preserved
loop-place-preserved c =
    index_more c.args.pairs.now c.loop-place.place c.loop-place.last.entries c.index-pairs-place.result c.in_ok-name.name c.insert.new.self.entries
    (omega arith) c.index-pairs-place.is (c.in_ok-name.ensures ∙ ap str_to_ascii_lowercase c.bytes.ensures) c.in_ok-insert.ensures.entries c.loop-place.invariant
