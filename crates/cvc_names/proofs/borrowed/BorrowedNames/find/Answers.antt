use Rattle.std.proofs.Common.{◌∙◌}
use Rattle.cvc_names.specs.Names.{lent}
use Rattle.cvc_names.proofs.Tables.{place}
use Rattle.cvc_names.proofs.borrowed.BorrowedNames.find.Goals as goal

pub returns-clause-place : goal.returns-clause-place
returns-clause-place c = c.get_index_of.ensures.index ∙ place lent c.self.inside.set.keys c.args.self.now c.self.view_is c.args.name.now
