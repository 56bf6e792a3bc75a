use Rattle.std.proofs.Common.{refl}
use Rattle.cvc_params.proofs.Answering.{knowing_kept}
use Rattle.cvc_params.proofs.Sighted.{on_both, sight_kept}
use Rattle.cvc_params.proofs.params.Sight.add.Goals as goal

pub returns-clause-sight : goal.returns-clause-sight
returns-clause-sight c =
    on_both c.add.result c.add.ensures.main c.add.ensures.lists
    (λ main lists. knowing_kept c.args.self.now _ c.requires (sight_kept c.args.self.now _ c.requires.lists refl refl refl refl main lists) refl refl c.requires.main refl c.requires.known)
