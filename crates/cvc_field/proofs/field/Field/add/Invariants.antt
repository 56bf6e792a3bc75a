use Rattle.cvc_field.proofs.field.Field.add.Given as goal

abbrev pub ghosts-fetch_add_as : goal.ghosts-fetch_add_as
ghosts-fetch_add_as a = record { intent = λ _. a.meant }
