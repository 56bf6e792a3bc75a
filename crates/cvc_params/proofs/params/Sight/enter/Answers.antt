use Rattle.std.proofs.Common.{refl}
use Rattle.cvc_params.proofs.Answering.{knowing_more}
use Rattle.cvc_params.proofs.Sighted.{sight_more}
use Rattle.cvc_params.proofs.params.Sight.enter.Goals as goal

pub returns-clause-sight : goal.returns-clause-sight
returns-clause-sight c =
    knowing_more c.args.self.now _ c.args.level c.new.result c.requires.sight
    (sight_more c.args.self.now _ c.args.level c.args.lists c.requires.sight.lists c.requires.level c.requires.card c.requires.cell refl refl refl
    c.in_ok-push.ensures.items c.in_ok-push-2.ensures.items)
    refl c.in_ok-push.ensures.items refl c.in_ok-push-3.ensures.items c.new.ensures
