-- What is seen of the shelf that never fails. Of an open file it tells the rest and no name.
use Rattle.std.specs.Prelude.{ℕ, List, [], map, drop, Option, Some, None, Bool, true, false}
use Rattle.cvc_io.specs.Files.{Files, Standing}
use Rattle.cvc_io.specs.MemFiles.{file_of, file_at}
use Rattle.cvc_io.specs.declared.held.MemFile.{MemFile}
use Rattle.cvc_io.specs.declared.held.OpenFile.{OpenFile}
use Rattle.cvc_io.specs.declared.sure_shelf.SureShelf.{SureShelf}

abbrev pub files_of : SureShelf → Files
files_of s = map file_of s.files.items

-- a name that the shelf lacks has no bytes
abbrev pub rest_of : List MemFile → Option OpenFile → List ℕ
rest_of files None = []
rest_of files (Some o) = drop o.at (file_at files o.place).bytes

abbrev pub standing_with : Bool → List ℕ → Option Standing
standing_with false rest = None
standing_with true rest = Some record { name = None; rest = Some rest }

abbrev pub standing_of : SureShelf → Option Standing
standing_of s = standing_with s.is_open (rest_of s.files.items s.reading)
