use Rattle.std.proofs.Common.{subst}
use Rattle.cvc_names.proofs.Repeats.{when}
use Rattle.cvc_delta.specs.Found.{IsFound}
use Rattle.cvc_delta.specs.Rows.{AreWiderRows}
use Rattle.cvc_delta.proofs.Holding.{result_widened}
use Rattle.cvc_delta.proofs.found.behind_set.Goals as goal

pub returns-in-Kept-clause-held : goal.returns-in-Kept-clause-held
returns-in-Kept-clause-held c f models rows wides ordered wider held =
    result_widened c.there_is_exactly_one_least_family.ensures f models rows c.widening_keeps_a_base.ensures wides ordered (when c.args.wider (AreWiderRows rows wides) c.if-not-wider.false wider) c.in-Kept.field-0
    (subst (IsFound f models rows) c.in-Kept.is held)

pub returns-clause-held : goal.returns-clause-held
returns-clause-held c f models rows wides ordered wider held =
    c.widening_keeps_a_base.ensures f models rows wides c.in-Base.family ordered (when c.args.wider (AreWiderRows rows wides) c.if-not-wider.false wider) (subst (IsFound f models rows) c.in-Base.is held)
