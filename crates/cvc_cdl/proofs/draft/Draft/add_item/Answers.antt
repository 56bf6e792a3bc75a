use Rattle.cvc_cdl.proofs.Drafts.{item_inside, item_outside}
use Rattle.cvc_cdl.proofs.draft.Draft.add_item.Goals as goal

pub returns-in-Some : goal.returns-in-Some
returns-in-Some c = item_inside c.args.self.now c.in-Some.cell c.in-Some.is c.args.item c.add.new.self c.add.result c.add.ensures

pub returns-in-None : goal.returns-in-None
returns-in-None c = item_outside c.args.self.now c.args.item c.in-None.is c.add-in-None.new.self c.add-in-None.result c.add-in-None.ensures
