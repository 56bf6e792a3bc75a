use Rattle.cvc_units.proofs.Answered.{number_by_split, millivolts_by_split, number_without, millivolts_without}
use Rattle.cvc_units.proofs.laws.number_is_of_its_split.Goals as goal

pub returns-clause-number : goal.returns-clause-number
returns-clause-number c = number_by_split

pub returns-clause-millivolts : goal.returns-clause-millivolts
returns-clause-millivolts c = millivolts_by_split

pub returns-clause-no_number : goal.returns-clause-no_number
returns-clause-no_number c = number_without

pub returns-clause-no_millivolts : goal.returns-clause-no_millivolts
returns-clause-no_millivolts c = millivolts_without
