-- What the words of the command line ask for: a command, or the first fault among the words. The first word names the command. The words that the
-- command must have come next: names of files, or numbers. All later words are the command's options.
use Rattle.std.specs.Prelude.{ℕ, ◌≤◌, true, false, List, [], ◌∷◌, unwrap_or, Result, Ok, Err, codes, slice_index_or, if◌then◌else◌}
use Rattle.std.specs.Str.{bytes_eq}
use Rattle.cvc_words.specs.declared.command.Command.{Command}
use Rattle.cvc_words.specs.declared.command.Command.TheVariants.{Check, Serial, Gen, Expect, Prove, Verify, Modes, Session}
use Rattle.cvc_words.specs.declared.command.Job.{Job}
use Rattle.cvc_words.specs.declared.fault.WordFault.{WordFault}
use Rattle.cvc_words.specs.declared.fault.WordFault.TheVariants.{NoCommand, UnknownCommand}
use Rattle.cvc_words.specs.declared.options.Takes.{Takes}
use Rattle.cvc_words.specs.Number.{number_within}
use Rattle.cvc_words.specs.Options.{Options, AreWorkers, given, later_of, options_of}
use Rattle.cvc_base.specs.Order.{◌>>=◌}

abbrev pub default_workers : ℕ
default_workers = 4

abbrev pub workers_of : Options → ℕ
workers_of options = unwrap_or options.workers default_workers

abbrev pub most_stages : ℕ
most_stages = 200000

-- the greatest number of 64 bits
abbrev pub last_seed : ℕ
last_seed = 18446744073709551615

-- ## What each command takes

abbrev pub check_takes : Takes
check_takes = record { must_have = 3; top = true; workers = true; nets = true }

abbrev pub serial_takes : Takes
serial_takes = record { must_have = 3; top = true; workers = false; nets = true }

abbrev pub gen_takes : Takes
gen_takes = record { must_have = 2; top = false; workers = true; nets = false }

abbrev pub expect_takes : Takes
expect_takes = record { must_have = 4; top = true; workers = false; nets = false }

abbrev pub prove_takes : Takes
prove_takes = record { must_have = 3; top = true; workers = false; nets = false }

abbrev pub verify_takes : Takes
verify_takes = record { must_have = 5; top = true; workers = false; nets = true }

abbrev pub modes_takes : Takes
modes_takes = record { must_have = 3; top = true; workers = false; nets = false }

abbrev pub session_takes : Takes
session_takes = record { must_have = 4; top = true; workers = false; nets = true }

-- ## What each command asks for

-- the word at this place behind the command's name, from 0
abbrev pub word : ℕ → List (List ℕ) → List ℕ
word place words = slice_index_or words place []

-- three names of files
abbrev pub job : List (List ℕ) → Options → Job
job words o = record { netlist = word 0 words; models = word 1 words; power = word 2 words; top = o.top; workers = workers_of o; nets = o.nets }

-- a seed and a number of stages
abbrev pub gen_of : List (List ℕ) → Result Command WordFault
gen_of words = do
  later ← later_of gen_takes words
  seed ← number_within 0 last_seed (word 0 words)
  size ← number_within 1 most_stages (word 1 words)
  options ← options_of gen_takes later
  Ok (Gen seed size (workers_of options))

-- the netlist, the models, the power file and the expected bounds
abbrev pub expect_of : List (List ℕ) → Result Command WordFault
expect_of words = given expect_takes words >>= λ o. Ok (Expect (word 0 words) (word 1 words) (word 2 words) (word 3 words) o.top)

-- the netlist, the models and the power file
abbrev pub prove_of : List (List ℕ) → Result Command WordFault
prove_of words = given prove_takes words >>= λ o. Ok (Prove (word 0 words) (word 1 words) (word 2 words) o.top)

-- the netlist, the models, the power file, the log and the report
abbrev pub verify_of : List (List ℕ) → Result Command WordFault
verify_of words = given verify_takes words >>= λ o. Ok (Verify (word 0 words) (word 1 words) (word 2 words) (word 3 words) (word 4 words) o.top o.nets)

-- the netlist, the models and the list of the modes
abbrev pub modes_of : List (List ℕ) → Result Command WordFault
modes_of words = given modes_takes words >>= λ o. Ok (Modes (word 0 words) (word 1 words) (word 2 words) o.top)

-- the netlist, the models, the power file and the edits
abbrev pub session_of : List (List ℕ) → Result Command WordFault
session_of words = given session_takes words >>= λ o. Ok (Session (word 0 words) (word 1 words) (word 2 words) (word 3 words) o.top o.nets)

-- the words after the command's name
unfoldable pub command_named : List ℕ → List (List ℕ) → Result Command WordFault
command_named name words =
    if bytes_eq name (codes "check") then (given check_takes words >>= λ options. Ok (Check (job words options)))
    else (if bytes_eq name (codes "serial") then (given serial_takes words >>= λ options. Ok (Serial (job words options)))
    else (if bytes_eq name (codes "gen") then gen_of words
    else (if bytes_eq name (codes "expect") then expect_of words
    else (if bytes_eq name (codes "prove") then prove_of words
    else (if bytes_eq name (codes "verify") then verify_of words
    else (if bytes_eq name (codes "modes") then modes_of words
    else (if bytes_eq name (codes "session") then session_of words
    else Err UnknownCommand)))))))

-- the command of the words, or their first fault
abbrev pub command_of : List (List ℕ) → Result Command WordFault
command_of [] = Err NoCommand
command_of (name ∷ words) = command_named name words

-- ## The numbers of a command

pub record AreStages (n : ℕ) : Type 0 where
  pub some : 1 ≤ n
  pub limit : n ≤ most_stages

-- they lie within their limits
abbrev pub IsWithin : Command → Type 0
IsWithin (Check job) = AreWorkers job.workers
IsWithin (Serial job) = AreWorkers job.workers
IsWithin (Gen seed size workers) = AreStages size × AreWorkers workers
IsWithin (Expect netlist models power expected top) = Unit {0}
IsWithin (Prove netlist models power top) = Unit {0}
IsWithin (Verify netlist models power log report top nets) = Unit {0}
IsWithin (Modes netlist models list top) = Unit {0}
IsWithin (Session netlist models power edits top nets) = Unit {0}
