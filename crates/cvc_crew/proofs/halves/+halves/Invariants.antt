use Rattle.std.proofs.Common.{◌+◌, ◌-◌, ◌*◌}
use Rattle.cvc_crew.specs.Workers.{numbers_in}
use Rattle.cvc_crew.proofs.halves.+halves.Given as goal

abbrev pub decreases-work_in : goal.decreases-work_in
decreases-work_in g l = 4 * numbers_in l.place.now + 1

abbrev pub decreases-work_both : goal.decreases-work_both
decreases-work_both g l = 4 * (numbers_in l.front.now + numbers_in l.back.now) - 1

abbrev pub decreases-work_both-one : goal.decreases-work_both-one
decreases-work_both-one g l = 4 * numbers_in l.front.now + 2

abbrev pub decreases-work_both-two : goal.decreases-work_both-two
decreases-work_both-two g l = 4 * numbers_in l.back.now + 2

abbrev pub decreases-work_all : goal.decreases-work_all
decreases-work_all g l = 4 * l.hand.numbers
