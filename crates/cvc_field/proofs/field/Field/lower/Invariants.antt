use Rattle.cvc_field.proofs.field.Field.lower.Given as goal

abbrev pub ghosts-fetch_min_as : goal.ghosts-fetch_min_as
ghosts-fetch_min_as a = record { intent = λ _. a.meant }
