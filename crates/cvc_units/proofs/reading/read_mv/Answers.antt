use Rattle.std.proofs.Common.{◌≤◌, IfOk, sym, subst, ◌∙◌}
use Rattle.std.specs.Prelude.{unsigned_abs}
use Rattle.cvc_units.proofs.Answered.{millivolts_by_split, millivolts_without, voltage_is_small}
use Rattle.cvc_units.proofs.reading.read_mv.Goals as goal

pub returns-clause-split : goal.returns-clause-split
returns-clause-split c = λ p h. c.millivolts.ensures ∙ millivolts_by_split c.args.text.now p h

pub returns-clause-no_split : goal.returns-clause-no_split
returns-clause-no_split c = λ none. c.millivolts.ensures ∙ millivolts_without c.args.text.now none

pub returns-clause-small : goal.returns-clause-small
returns-clause-small c = subst (λ r. IfOk r (λ v. unsigned_abs v ≤ 1000000)) (sym c.millivolts.ensures) (voltage_is_small c.args.text.now)
