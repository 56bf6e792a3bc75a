use Rattle.cvc_law.specs.Network.{nets}
use Rattle.cvc_law.proofs.ReachConduct.{gives_is}
use Rattle.cvc_law.proofs.ReachFamilies.{family_reaches, within_reaches, within_from_reaches}
use Rattle.cvc_law.proofs.ReachAgree.{closed_reaches, closed_from_reaches, reaches_intervals, family_intervals, least_reaches, least_from_reaches}
use Rattle.cvc_law.proofs.laws.the_reach_form_agrees.Goals as goal

pub returns-clause-conduction : goal.returns-clause-conduction
returns-clause-conduction c = gives_is

pub returns-clause-family : goal.returns-clause-family
returns-clause-family c = family_reaches

pub returns-clause-within : goal.returns-clause-within
returns-clause-within c = λ network f g family. (within_reaches network f g, within_from_reaches network f g family)

pub returns-clause-closed : goal.returns-clause-closed
returns-clause-closed c = λ network f circuit family. (closed_reaches network circuit f family, closed_from_reaches network circuit f family)

pub returns-clause-least : goal.returns-clause-least
returns-clause-least c = λ network f circuit family. (least_reaches network circuit f, least_from_reaches network circuit f family)

pub returns-clause-back : goal.returns-clause-back
returns-clause-back c = λ network f circuit family. (family_intervals network circuit f family, reaches_intervals network f (nets network) family.every_bound family.in_range)
