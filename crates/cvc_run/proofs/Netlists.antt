-- A netlist that is read from a file that stands open.
use Rattle.std.proofs.Common.{◌≡◌, ℕ, ◌+◌, ◌≤◌, List, ◌++◌, length, take, Option, Some, None, Result, Err, sym, ap, subst, ◌∙◌}
use Rattle.std.proofs.lemmas.List.{length-append, length-take-le}
use Rattle.cvc_base.specs.Answers.{Gives}
use Rattle.cvc_base.specs.declared.fault.Fault.{Fault}
use Rattle.cvc_base.specs.declared.fault.Refusal.{Refusal}
use Rattle.cvc_base.specs.declared.fault.FileKind.TheVariants.{Netlist as NetlistFile}
use Rattle.cvc_cdl.specs.declared.netlist.Netlist.{Netlist}
use Rattle.cvc_cdl.specs.File.{file_of}
use Rattle.cvc_io.specs.Files.{Files, Standing, Takes}
use Rattle.cvc_lex.specs.Lexing.{HasRead as LexerHasRead, fault_in}
use Rattle.cvc_lex.specs.Lines.{closed_so_far, sure_fault}
use Rattle.cvc_lex.proofs.Faults.{sure_none}
use Rattle.cvc_run.specs.Loads.{OfContent}
use Rattle.cvc_run.specs.Reader.{HasRead, IsDecided}
use Rattle.cvc_run.specs.Rests.{HasReadFile, IsFaultOf, OfRest}
use Rattle.cvc_run.specs.Stops.{IfAt, Says, as_load}
use Rattle.cvc_run.specs.declared.stop.RunStop.{RunStop}
use Rattle.cvc_run.specs.declared.stop.RunStop.TheVariants.{At, Read, NoMemory}
use Rattle.cvc_run.specs.declared.netlist.NetlistReader.{NetlistReader}
use Rattle.cvc_run.proofs.Loading.{loads_gives}
use Rattle.cvc_run.proofs.Shelving.{of_any, of_taken, takes_more}

-- the reader has read what was taken from the open file
pub record HasFed (old new : Option Standing) (r : NetlistReader) : Type 0 where
  pub stream : List ℕ
  pub taken : Takes old new stream
  pub read : HasRead r stream

pub fed_more : (a b c : Option Standing) (r r' : NetlistReader) (piece : List ℕ) → (fed : HasFed a b r) → Takes b c piece → HasRead r' (fed.stream ++ piece) → HasFed a c r'
fed_more a b c r r' piece fed taken read = record { stream = fed.stream ++ piece; taken = takes_more a b c fed.stream piece fed.taken taken; read = read }

-- a fault is decided before its end
pub fed_decided : (a b c : Option Standing) (r : NetlistReader) (piece : List ℕ) (fault : Fault) → (fed : HasFed a b r) → Takes b c piece → IsDecided (fed.stream ++ piece) fault → OfRest a (IsFaultOf fault)
fed_decided a b c r piece fault fed taken decided =
    of_taken a c (fed.stream ++ piece) (IsFaultOf fault) (takes_more a b c fed.stream piece fed.taken taken)
    (of_any c (λ rest. IsFaultOf fault ((fed.stream ++ piece) ++ rest)) (λ rest top. decided rest top))

-- the lexer has counted what was read, which is within the limit
pub counted : (r : NetlistReader) (stream : List ℕ) → HasRead r stream → (r.lexer.size ≡ length stream) × (length stream ≤ 134217728)
counted r stream h =
    let state : LexerHasRead r.lexer stream (length (closed_so_far NetlistFile stream)) None = subst (LexerHasRead r.lexer stream (length (closed_so_far NetlistFile stream))) h.refused h.lines.state in
    let none : sure_fault NetlistFile stream ≡ None = fault_now state.0 in
    let few : length stream ≤ 134217728 = (sure_none NetlistFile stream none).1 in
    ((state.2 h.going).size, few)
  where
    fault_now : fault_in r.lexer.file r.lexer.finished stream ≡ None → sure_fault NetlistFile stream ≡ None
    fault_now e = sym (λ i. fault_in (h.file i) (h.going i) stream) ∙ e

-- the count rises by what was read
pub longer : (r r' : NetlistReader) (stream buf : List ℕ) (n : ℕ) → r.lexer.size ≡ length stream → r'.lexer.size ≡ length (stream ++ take n buf) → n ≤ length buf → r'.lexer.size ≡ r.lexer.size + n
longer r r' stream buf n old new le = new ∙ length-append stream (take n buf) ∙ ap (λ k. k + length (take n buf)) (sym old) ∙ ap (λ k. r.lexer.size + k) (length-take-le n buf le)

-- what the end of the netlist says is said of the file
pub netlist_loaded : (files : Option Files) (name : List ℕ) (top : Option (List ℕ)) (reader : NetlistReader) (r : Result Netlist Refusal) → HasReadFile files name reader
    → ((stream : List ℕ) → HasRead reader stream → Gives {A = Netlist} (λ n. n) r (file_of stream top)) → OfContent files name (λ bytes. Says {A = Netlist} (λ n. n) (as_load r) (file_of bytes top))
netlist_loaded None name top reader r read gives = tt
netlist_loaded (Some fs) name top reader r read gives = subst (λ (b : List ℕ). Says {A = Netlist} (λ n. n) (as_load r) (file_of b top)) (sym read.2) (loads_gives {A = Netlist} (λ n. n) r (file_of read.0 top) (gives read.0 read.1))

-- the fault of a file with any top is that with this one
pub at_this_top : (files : Option Files) (name : List ℕ) (top : Option (List ℕ)) (x : RunStop Fault) → IfAt {A = Unit {0}} (Err x) (λ fault. OfContent files name (IsFaultOf fault))
    → OfContent files name (λ bytes. Says {A = Netlist} (λ n. n) (Err x) (file_of bytes top))
at_this_top None name top x h = tt
at_this_top (Some fs) name top (At fault) h = h top
at_this_top (Some fs) name top Read h = tt
at_this_top (Some fs) name top NoMemory h = tt
