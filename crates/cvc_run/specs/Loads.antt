-- What is loaded of a file of the shelf, where the shelf tells its files: its bytes, up to a limit.
use Rattle.std.specs.Prelude.{ℕ, List, take, ◌+◌, Option, IfSome}
use Rattle.cvc_io.specs.Files.{Files, content}

-- so many bytes of a file, and one more where it has more
abbrev pub up_to : ℕ → List ℕ → List ℕ
up_to limit bytes = take (limit + 1) bytes

-- what is said of the bytes of a name, where the shelf tells its files
abbrev pub OfContent : Option Files → List ℕ → (List ℕ → Type 0) → Type 0
OfContent files name P = IfSome files (λ fs. P (content fs name))
