use Rattle.cvc_field.proofs.field.Field.split.Given as goal

abbrev pub ghosts-cut_at : goal.ghosts-cut_at
ghosts-cut_at a = record { at = a.left }
