use Rattle.std.proofs.Common.{cond, ◌==◌}
use Rattle.cvc_field.proofs.field.Field.take.Given as goal

abbrev pub ghosts-compare_exchange_as : goal.ghosts-compare_exchange_as
ghosts-compare_exchange_as a = record { intent = λ r. cond (r == 1) a.meant a.other }
