use Rattle.std.proofs.Common.{arith}
use Rattle.cvc_params.proofs.Seeing.{card_listed, listed_index}
use Rattle.cvc_params.proofs.params.Sight.on_card.Goals as goal

pub index-index-requires : goal.index-index-requires
index-index-requires c =
    let s = c.args.self.now in
    let h = card_listed s c.args.depth c.index.result.now c.index-2.result.now c.requires.sight c.if-depth-eq0.false c.requires.inside c.index.ensures c.index-2.ensures in
    omega (arith, h.inside, s.indexes.lists.ok.0)

pub spot_in-requires-clause-index : goal.spot_in-requires-clause-index
spot_in-requires-clause-index c =
    let s = c.args.self.now in
    let h = card_listed s c.args.depth c.index.result.now c.index-2.result.now c.requires.sight c.if-depth-eq0.false c.requires.inside c.index.ensures c.index-2.ensures in
    listed_index s.indexes c.index-2.result.now.card c.index.result.now.card.now.pairs c.as_slice.result.now c.index-index.result.now h c.index-index.ensures c.as_slice.ensures
