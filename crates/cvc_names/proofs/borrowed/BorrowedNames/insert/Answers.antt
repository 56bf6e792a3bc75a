use Rattle.std.proofs.Common.{ap, not, ◌∙◌}
use Rattle.cvc_names.specs.Names.{lent}
use Rattle.cvc_names.proofs.Tables.{among}
use Rattle.cvc_names.proofs.borrowed.BorrowedNames.insert.Goals as goal

pub returns-clause-free : goal.returns-clause-free
returns-clause-free c = c.in_ok-insert.ensures.added ∙ ap not (among lent c.self.inside.set.keys c.args.self.now c.self.view_is c.args.name.now)
