-- The run that the words of the command line ask for. Refused words have their status and their line, and read no file. A further command is a further
-- line here, with the run that its crate defines.
use Rattle.std.specs.Prelude.{◌≡◌, Option, Result, Ok, Err}
use Rattle.cvc_io.specs.Files.{Files}
use Rattle.cvc_run.specs.Due.{no_file}
use Rattle.cvc_run.specs.Outcome.{job_run, survey_run, words_ending}
use Rattle.cvc_run.specs.Run.{Run}
use Rattle.cvc_top.specs.Certificates.{prove_run, verify_files, verify_run}
use Rattle.cvc_top.specs.Expectations.{expect_files, expect_run}
use Rattle.cvc_top.specs.Modes.{modes_run}
use Rattle.cvc_top.specs.Sessions.{session_files, session_run}
use Rattle.cvc_words.specs.declared.command.Command.{Command}
use Rattle.cvc_words.specs.declared.command.Command.TheVariants.{Check, Serial, Gen, Expect, Prove, Verify, Modes, Session}
use Rattle.cvc_words.specs.declared.fault.WordFault.{WordFault}

-- words that are refused
abbrev pub refused_run : WordFault → Run
refused_run fault = record { outcome = λ e. e ≡ words_ending fault; due = no_file; accepted = ⊥ }

abbrev pub command_run : Option Files → Command → Run
command_run files (Check job) = job_run files job
command_run files (Serial job) = job_run files job
command_run files (Gen seed size workers) = survey_run seed size
command_run files (Expect netlist models power expected top) = expect_run files (expect_files netlist models power expected top)
command_run files (Prove netlist models power top) = prove_run files top netlist models power
command_run files (Verify netlist models power log report top nets) = verify_run files (verify_files netlist models power log report top nets)
command_run files (Modes netlist models list top) = modes_run files top netlist models list
command_run files (Session netlist models power edits top nets) = session_run files (session_files netlist models power edits top) nets

-- the run of what the words say: a command, or their fault
abbrev pub words_run : Option Files → Result Command WordFault → Run
words_run files (Ok command) = command_run files command
words_run files (Err fault) = refused_run fault
