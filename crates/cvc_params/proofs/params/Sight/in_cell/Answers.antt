use Rattle.std.proofs.Common.{arith}
use Rattle.cvc_params.proofs.Seeing.{cell_listed, listed_index}
use Rattle.cvc_params.proofs.params.Sight.in_cell.Goals as goal

pub index-index-requires-2 : goal.index-index-requires-2
index-index-requires-2 c =
    let s = c.args.self.now in
    let h = cell_listed s c.args.depth c.index.result.now c.index-2.result.now c.requires.sight c.if-depth-eq0.false c.requires.inside c.index.ensures c.index-2.ensures in
    omega (arith, h.inside, s.indexes.lists.ok.0)

pub spot_in-requires-2-clause-index : goal.spot_in-requires-2-clause-index
spot_in-requires-2-clause-index c =
    let s = c.args.self.now in
    let h = cell_listed s c.args.depth c.index.result.now c.index-2.result.now c.requires.sight c.if-depth-eq0.false c.requires.inside c.index.ensures c.index-2.ensures in
    listed_index s.indexes c.index-2.result.now.cell c.index.result.now.cell.now.pairs c.as_slice-2.result.now c.index-index-2.result.now h c.index-index-2.ensures c.as_slice-2.ensures
