-- What a command takes: so many words that it must have, and behind them its options, of `top=` and a name, `workers=` and a number from 1 to 64, and
-- `nets`. They come in any order, each at most once. The first later word that is none of the command's options, that was given before, or whose number
-- or name is refused, is the fault.
use Rattle.std.specs.Prelude.{ℕ, ◌≤◌, Bool, true, false, ◌&&◌, nat_lt, List, [], ◌∷◌, take, drop, length, Option, Some, None, is_some, Result, Ok, Err, codes, if◌then◌else◌}
use Rattle.std.specs.Str.{bytes_eq}
use Rattle.cvc_words.specs.declared.fault.WordFault.{WordFault}
use Rattle.cvc_words.specs.declared.fault.WordFault.TheVariants.{MissingWord, UnknownWord, TwiceWord, BadName}
use Rattle.cvc_words.specs.declared.options.Takes.{Takes}
use Rattle.cvc_words.specs.Number.{number_within}
use Rattle.cvc_base.specs.Order.{◌>>=◌}

-- what the options gave so far
pub record Options : Type 0 where
  pub top : Option (List ℕ)
  pub workers : Option ℕ
  pub nets : Bool

abbrev pub no_options : Options
no_options = record { top = None; workers = None; nets = false }

abbrev pub most_workers : ℕ
most_workers = 64

pub record AreWorkers (n : ℕ) : Type 0 where
  pub some : 1 ≤ n
  pub limit : n ≤ most_workers

-- ## One option more

abbrev pub with_name : Options → List ℕ → Result Options WordFault
with_name options [] = Err BadName
with_name options name = Ok (record options { top = Some name })

abbrev pub with_top : Options → List ℕ → Result Options WordFault
with_top options name = if is_some options.top then Err TwiceWord else with_name options name

abbrev pub with_workers : Options → List ℕ → Result Options WordFault
with_workers options number =
    if is_some options.workers then Err TwiceWord else (number_within 1 most_workers number >>= λ n. Ok (record options { workers = Some n }))

abbrev pub with_nets : Options → Result Options WordFault
with_nets options = if options.nets then Err TwiceWord else Ok (record options { nets = true })

-- ## The later words

-- the key stands at the front of the word; what follows it
abbrev pub begins : List ℕ → List ℕ → Bool
begins key word = bytes_eq (take (length key) word) key

abbrev pub value_after : List ℕ → List ℕ → List ℕ
value_after key word = drop (length key) word

-- a later word of a command that takes these options
unfoldable pub with_word : Takes → Options → List ℕ → Result Options WordFault
with_word takes options word =
    if takes.top && begins (codes "top=") word then with_top options (value_after (codes "top=") word)
    else (if takes.workers && begins (codes "workers=") word then with_workers options (value_after (codes "workers=") word)
    else (if takes.nets && bytes_eq word (codes "nets") then with_nets options
    else Err UnknownWord))

-- the words from the left, up to the first fault
unfoldable pub with_words : Takes → Options → List (List ℕ) → Result Options WordFault
with_words takes options [] = Ok options
with_words takes options (word ∷ words) = do
  next ← with_word takes options word
  with_words takes next words

abbrev pub options_of : Takes → List (List ℕ) → Result Options WordFault
options_of takes words = with_words takes no_options words

-- ## All words behind the command's name

-- the words behind those that the command must have
abbrev pub later_of : Takes → List (List ℕ) → Result (List (List ℕ)) WordFault
later_of takes words = if nat_lt (length words) takes.must_have then Err MissingWord else Ok (drop takes.must_have words)

-- the options of a command whose other words are names of files, which may look like anything
abbrev pub given : Takes → List (List ℕ) → Result Options WordFault
given takes words = later_of takes words >>= options_of takes
