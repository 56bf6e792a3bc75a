use Rattle.std.proofs.Common.{refl, sym, ◌∙◌}
use Rattle.cvc_cdl.proofs.Endings.{cause_known, cause_unknown}
use Rattle.cvc_cdl.proofs.library.Library.cause.Goals as goal

pub returns-in_default : goal.returns-in_default
returns-in_default c = cause_unknown c.args.self.now.cells.now c.args.placed.now.inst.now c.args.placed.now.inst.now.cell refl (sym c.in_default.is ∙ c.requires.at)

pub returns : goal.returns
returns c =
    cause_known c.args.self.now.cells.now c.args.placed.now.inst.now c.args.placed.now.inst.now.cell c.in-Some.place c.index-self-place.result refl (sym c.in-Some.is ∙ c.requires.at) c.misfit.result c.misfit.ensures
