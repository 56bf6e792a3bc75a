-- What is read of a file that stands open: its bytes up to some place, or all of them.
use Rattle.std.specs.Prelude.{◌≡◌, ℕ, List, Option, IfSome, Err}
use Rattle.cvc_base.specs.declared.fault.Fault.{Fault}
use Rattle.cvc_cdl.specs.File.{file_of}
use Rattle.cvc_io.specs.Files.{Files, Standing, content}
use Rattle.cvc_run.specs.Reader.{HasRead}
use Rattle.cvc_run.specs.declared.netlist.NetlistReader.{NetlistReader}

-- what is said of the bytes that are left of the open file, where they are told
abbrev pub OfRest : Option Standing → (List ℕ → Type 0) → Type 0
OfRest standing P = IfSome standing (λ s. IfSome s.rest P)

-- the reader has read all that was left of the open file
abbrev pub HasReadRest : Option Standing → NetlistReader → Type 0
HasReadRest standing r = (stream : List ℕ) × HasRead r stream × OfRest standing (λ rest. rest ≡ stream)

-- the reader has read the file of this name
abbrev pub HasReadFile : Option Files → List ℕ → NetlistReader → Type 0
HasReadFile files name r = (stream : List ℕ) × HasRead r stream × IfSome files (λ fs. content fs name ≡ stream)

-- whichever top is asked for, this is the first fault of the netlist
abbrev pub IsFaultOf : Fault → List ℕ → Type 0
IsFaultOf fault bytes = (top : Option (List ℕ)) → file_of bytes top ≡ Err fault
