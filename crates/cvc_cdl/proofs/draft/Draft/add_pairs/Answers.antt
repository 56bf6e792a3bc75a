use Rattle.cvc_cdl.proofs.Drafts.{pairs_inside}
use Rattle.cvc_cdl.proofs.draft.Draft.add_pairs.Goals as goal

pub returns-in-Some : goal.returns-in-Some
returns-in-Some c = pairs_inside c.args.self.now c.in-Some.cell c.in-Some.is c.args.pairs c.append.new.list c.append.result c.append.ensures
