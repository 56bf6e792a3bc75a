-- The files of a shelf in memory, and what stands open of them.
use Rattle.std.specs.Prelude.{◌≡◌, ℕ, suc, ◌<◌, ◌≤◌, List, [], ◌∷◌, map, drop, length, Option, Some, None, Bool, if◌then◌else◌, slice_index, slice_index_or}
use Rattle.std.specs.Str.{bytes_eq}
use Rattle.cvc_io.specs.Files.{File, Standing, bytes_of}
use Rattle.cvc_io.specs.declared.held.MemFile.{MemFile}
use Rattle.cvc_io.specs.declared.held.OpenFile.{OpenFile}

abbrev pub file_of : MemFile → File
file_of f = record { name = f.name; bytes = f.bytes }

abbrev pub no_file : MemFile
no_file = record { name = []; bytes = [] }

abbrev pub file_at : List MemFile → ℕ → MemFile
file_at files place = slice_index_or files place no_file

abbrev pub standing_at : List MemFile → OpenFile → Standing
standing_at files o = record { name = Some (file_at files o.place).name; rest = Some (drop o.at (file_at files o.place).bytes) }

abbrev pub later_place : Option ℕ → Bool → Option ℕ
later_place (Some place) same = Some (suc place)
later_place None same = if same then Some 0 else None

-- the place of the last file of this name
abbrev pub place_of : List MemFile → List ℕ → Option ℕ
place_of [] name = None
place_of (f ∷ fs) name = later_place (place_of fs name) (bytes_eq f.name name)

abbrev pub count_at : List ℕ → ℕ → Option ℕ → ℕ
count_at failures all (Some place) = slice_index failures place
count_at failures all None = all

-- the place of a file of this name, whose bytes are those of the name
pub record IsFound (files : List MemFile) (name : List ℕ) (place : ℕ) : Type 0 where
  pub inside : place < length files
  pub named : (file_at files place).name ≡ name
  pub bytes : bytes_of (map file_of files) name ≡ Some (file_at files place).bytes

-- the last file of its name stands open, and no more of it was read than there is
pub record IsOpenFile (files : List MemFile) (o : OpenFile) : Type 0 where
  pub inside : o.place < length files
  pub read : o.at ≤ length (file_at files o.place).bytes
  pub last : place_of files (file_at files o.place).name ≡ Some o.place
