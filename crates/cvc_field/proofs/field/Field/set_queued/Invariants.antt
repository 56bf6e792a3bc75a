use Rattle.cvc_field.proofs.field.Field.set_queued.Given as goal

abbrev pub ghosts-fetch_or_as : goal.ghosts-fetch_or_as
ghosts-fetch_or_as a = record { intent = λ _. a.meant }
