use Rattle.std.proofs.Common.{◌^◌, ◌<◌, ◌≢◌, Err, IfOk, sym, subst, ◌∙◌}
use Rattle.std.specs.Prelude.{unsigned_abs}
use Rattle.cvc_units.specs.declared.fault.NumFault.TheVariants.{TooFine}
use Rattle.cvc_units.proofs.Answered.{number_by_split, number_without, number_is_small}
use Rattle.cvc_units.proofs.reading.read_number.Goals as goal

pub returns-clause-split : goal.returns-clause-split
returns-clause-split c = λ p h. c.number.ensures ∙ number_by_split c.args.text.now p h

pub returns-clause-no_split : goal.returns-clause-no_split
returns-clause-no_split c = λ none. c.number.ensures ∙ number_without c.args.text.now none

pub returns-clause-small : goal.returns-clause-small
returns-clause-small c = subst (λ r. IfOk r (λ n. unsigned_abs n < 10 ^ 36)) (sym c.number.ensures) (number_is_small c.args.text.now).0

pub returns-clause-never_too_fine : goal.returns-clause-never_too_fine
returns-clause-never_too_fine c = subst (λ r. r ≢ Err TooFine) (sym c.number.ensures) (number_is_small c.args.text.now).1
