use Rattle.std.proofs.Common.{◌∙◌}
use Rattle.cvc_names.specs.Names.{lent}
use Rattle.cvc_names.proofs.Tables.{among}
use Rattle.cvc_names.proofs.borrowed.BorrowedNames.contains.Goals as goal

pub returns : goal.returns
returns c = c.contains.ensures ∙ among lent c.self.inside.set.keys c.args.self.now c.self.view_is c.args.name.now
