use Rattle.cvc_field.proofs.field.Field.raise.Given as goal

abbrev pub ghosts-fetch_max_as : goal.ghosts-fetch_max_as
ghosts-fetch_max_as a = record { intent = λ _. a.meant }
