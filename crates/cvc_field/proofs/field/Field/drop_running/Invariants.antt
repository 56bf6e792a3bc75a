use Rattle.cvc_field.proofs.field.Field.drop_running.Given as goal

abbrev pub ghosts-fetch_and_as : goal.ghosts-fetch_and_as
ghosts-fetch_and_as a = record { intent = λ _. a.meant }
