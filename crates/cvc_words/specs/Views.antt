-- What the answers of the code stand for.
use Rattle.std.specs.Prelude.{◌≡◌, IfSome, Result, Ok, Err}
use Rattle.std.specs.Option.{option_map}
use Rattle.cvc_words.specs.declared.fault.WordFault.{WordFault}
use Rattle.cvc_words.specs.declared.fault.WordRefusal.{WordRefusal}
use Rattle.cvc_words.specs.declared.fault.WordRefusal.TheVariants.{At, NoMemory}
use Rattle.cvc_words.specs.declared.options.Options.{Options as Held}
use Rattle.cvc_words.specs.Options.{Options, AreWorkers}

-- an answer is this one; want of memory says nothing
abbrev pub Gives : {A : Type 0} → Result A WordRefusal → Result A WordFault → Type 0
Gives (Ok x) wanted = wanted ≡ Ok x
Gives (Err (At fault)) wanted = wanted ≡ Err fault
Gives (Err NoMemory) wanted = Unit {0}

-- the options that the code holds
abbrev pub options_view : Held → Options
options_view o = record { top = option_map (λ name. name.now) o.top; workers = o.workers; nets = o.nets }

abbrev pub options_seen : Result Held WordFault → Result Options WordFault
options_seen (Ok o) = Ok (options_view o)
options_seen (Err fault) = Err fault

-- the number of workers, if one was given, is within its limits
abbrev pub IsLimited : Held → Type 0
IsLimited o = IfSome o.workers AreWorkers
