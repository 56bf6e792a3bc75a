use Rattle.cvc_field.proofs.field.Field.subtract.Given as goal

abbrev pub ghosts-fetch_sub_as : goal.ghosts-fetch_sub_as
ghosts-fetch_sub_as a = record { intent = λ _. a.meant }
