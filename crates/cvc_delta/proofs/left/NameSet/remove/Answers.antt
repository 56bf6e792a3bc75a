use Rattle.std.proofs.Common.{sym}
use Rattle.cvc_delta.proofs.Marked.{removed}
use Rattle.cvc_delta.proofs.left.NameSet.remove.Goals as goal

pub returns-in-Some-clause-left : goal.returns-in-Some-clause-left
returns-in-Some-clause-left c =
    removed c.args.self.now.names c.args.self.now.marks.items c.unmark.new.marks.items c.args.name.now c.in-Some.place (sym c.in-Some.ensures.place) c.unmark.ensures.left
