use Rattle.cvc_field.proofs.field.Field.read_count.Given as goal

abbrev pub ghosts-load_as : goal.ghosts-load_as
ghosts-load_as a = record { intent = λ _. a.meant }
