-- What each step of a run leaves of a shelf: no file open, the files as they were, and no count lower than before.
use Rattle.std.specs.Prelude.{◌≡◌, Option, None}
use Rattle.cvc_io.specs.Files.{Files, Standing, Counts, NoneFalls}

pub record Leaves (standing : Option Standing) (files_before files_after : Option Files) (before after : Counts) : Type 0 where
  pub closed : standing ≡ None
  pub files : files_after ≡ files_before
  pub counts : NoneFalls before after
