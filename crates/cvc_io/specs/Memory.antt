-- What is seen of the shelf in memory that can fail: its files, the file that stands open, the calls that are to fail, and how often each name has
-- failed. A name that it holds has its own failures, and any other name all of them.
use Rattle.std.specs.Prelude.{◌≡◌, ℕ, Bool, not, ◌&&◌, ◌||◌, ◌==◌, List, map, Option, is_some, IfSome, if◌then◌else◌}
use Rattle.std.specs.List.{list_any}
use Rattle.std.specs.Str.{bytes_eq}
use Rattle.std.specs.Option.{option_map}
use Rattle.cvc_io.specs.Causes.{bump}
use Rattle.cvc_io.specs.Files.{Files, Standing, Counts, bytes_of}
use Rattle.cvc_io.specs.MemFiles.{file_of, standing_at, place_of, count_at}
use Rattle.cvc_io.specs.declared.mem_shelf.MemShelf.{MemShelf}

abbrev pub files_of : MemShelf → Files
files_of s = map file_of s.files.items

abbrev pub standing_of : MemShelf → Option Standing
standing_of s = option_map (standing_at s.files.items) s.reading

abbrev pub counts_of : MemShelf → Counts
counts_of s name = count_at s.failures.items s.all (place_of s.files.items name)

-- the numbers of the calls that fail
abbrev pub failing_of : MemShelf → List ℕ
failing_of s = s.failing.items

-- how many calls were made that open or read
abbrev pub calls_of : MemShelf → ℕ
calls_of s = s.calls

-- ## Which calls fail

-- the next call that opens or reads is to fail
abbrev pub is_to_fail : List ℕ → ℕ → Bool
is_to_fail failing calls = list_any (λ number. number == bump calls) failing

abbrev pub is_held : Files → List ℕ → Bool
is_held fs name = is_some (bytes_of fs name)

-- ## How the counts move

-- A failure on a name is counted for that name, and for every name that the shelf lacks.
abbrev pub count_after : Files → List ℕ → Bool → Counts → Counts
count_after fs called succeeded counts name = if succeeded || (is_held fs name && not (bytes_eq name called)) then counts name else bump (counts name)

-- A name that is added begins at 0, unless the shelf held it; then it keeps its count.
abbrev pub count_added : Files → List ℕ → Bool → Counts → Counts
count_added fs added succeeded counts name = if succeeded && bytes_eq added name && not (is_held fs name) then 0 else counts name

abbrev pub AreSame : Counts → Counts → Type 0
AreSame counts now = (name : List ℕ) → now name ≡ counts name

-- a call on this name was made
abbrev pub CountsCall : Files → List ℕ → Bool → Counts → Counts → Type 0
CountsCall fs called succeeded before now = AreSame (count_after fs called succeeded before) now

-- a call on the open file was made
abbrev pub CountsRead : Files → Option Standing → Bool → Counts → Counts → Type 0
CountsRead fs standing succeeded before now = IfSome standing (λ file. IfSome file.name (λ name. CountsCall fs name succeeded before now))

-- this name was to be added
abbrev pub CountsAdded : Files → List ℕ → Bool → Counts → Counts → Type 0
CountsAdded fs added succeeded before now = AreSame (count_added fs added succeeded before) now
