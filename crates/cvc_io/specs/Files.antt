-- Files by name, and the one file that stands open. A name that was given bytes twice has the later ones.
-- Of an open file the name may be untold; its rest, the bytes that are left, is told exactly where the shelf tells its files.
use Rattle.std.specs.Prelude.{◌≡◌, ℕ, ◌≤◌, min, List, [], ◌∷◌, length, take, Option, Some, None, Bool, if◌then◌else◌, Result, MatchOption, MatchResult, IfSome, IsSomeAnd}
use Rattle.std.specs.Option.{option_map, unwrap_or}
use Rattle.std.specs.Str.{bytes_eq}
use Rattle.std.specs.Io.KnownBytes.{prepend_known}
use Rattle.cvc_io.specs.Causes.{Rose}

-- a name and its bytes
pub record File : Type 0 where
  pub name : List ℕ
  pub bytes : List ℕ

abbrev pub Files : Type 0
Files = List File

abbrev pub later_or : Option (List ℕ) → Bool → List ℕ → Option (List ℕ)
later_or (Some later) same bytes = Some later
later_or None same bytes = if same then Some bytes else None

-- the bytes of a name, if some file has it
abbrev pub bytes_of : Files → List ℕ → Option (List ℕ)
bytes_of [] name = None
bytes_of (f ∷ fs) name = later_or (bytes_of fs name) (bytes_eq f.name name) f.bytes

-- a name that the files lack has no bytes
abbrev pub content : Files → List ℕ → List ℕ
content fs name = unwrap_or (bytes_of fs name) []

pub record Standing : Type 0 where
  pub name : Option (List ℕ)
  pub rest : Option (List ℕ)

-- a file stands open under this name, with all of its bytes left
pub record IsOpened (files : Option Files) (name : List ℕ) (s : Standing) : Type 0 where
  pub named : IfSome s.name (λ n. n ≡ name)
  pub whole : s.rest ≡ option_map (λ fs. content fs name) files

-- the same file with these bytes still in front of its rest
abbrev pub with_front : List ℕ → Standing → Standing
with_front bytes s = record { name = s.name; rest = prepend_known bytes s.rest }

-- a read that gave these bytes took them from the rest
abbrev pub Takes : Option Standing → Option Standing → List ℕ → Type 0
Takes old new bytes = IsSomeAnd new (λ s. old ≡ Some (with_front bytes s))

abbrev pub IsAtEnd : Option Standing → Type 0
IsAtEnd s = IfSome s (λ file. IfSome file.rest (λ rest. rest ≡ []))

-- a read took what it gave, gave nothing only at the end, and took nothing where it failed
abbrev pub Reads : {E : Type 0} → Option Standing → Option Standing → Result ℕ E → List ℕ → Type 0
Reads old new result buf = MatchResult result (λ n. Takes old new (take n buf) × (n ≡ 0 → IsAtEnd new)) (λ _. new ≡ old)

-- a read that gave so many bytes filled its room as far as the rest goes
abbrev pub Fills : Option Standing → ℕ → ℕ → Type 0
Fills old room n = IfSome old (λ file. IfSome file.rest (λ rest. n ≡ min (length rest) room))

-- how often each name has failed
abbrev pub Counts : Type 0
Counts = List ℕ → ℕ

abbrev pub NoneFalls : Counts → Counts → Type 0
NoneFalls before now = (name : List ℕ) → before name ≤ now name

-- the count of the open file's name rose, or of every name where none is told
abbrev pub RoseFor : Option Standing → Counts → Counts → Type 0
RoseFor s before now = IfSome s (λ file. MatchOption file.name ((name : List ℕ) → Rose (before name) (now name)) (λ name. Rose (before name) (now name)))
