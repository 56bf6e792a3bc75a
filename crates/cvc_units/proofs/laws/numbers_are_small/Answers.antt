use Rattle.cvc_units.proofs.Answered.{number_is_small, voltage_is_small}
use Rattle.cvc_units.proofs.laws.numbers_are_small.Goals as goal

pub returns-clause-number : goal.returns-clause-number
returns-clause-number c = λ text. (number_is_small text).0

pub returns-clause-millivolts : goal.returns-clause-millivolts
returns-clause-millivolts c = voltage_is_small

pub returns-clause-never_too_fine : goal.returns-clause-never_too_fine
returns-clause-never_too_fine c = λ text. (number_is_small text).1
