-- The word that is printed for each fault of the command line.
use Rattle.std.specs.Prelude.{ℕ, List, codes}
use Rattle.cvc_words.specs.declared.fault.WordFault.{WordFault}
use Rattle.cvc_words.specs.declared.fault.WordFault.TheVariants.{NoCommand, UnknownCommand, MissingWord, UnknownWord, TwiceWord, BadNumber, BadName}

abbrev pub word_of : WordFault → List ℕ
word_of NoCommand = codes "no-command"
word_of UnknownCommand = codes "unknown-command"
word_of MissingWord = codes "missing-word"
word_of UnknownWord = codes "unknown-word"
word_of TwiceWord = codes "twice-word"
word_of BadNumber = codes "bad-number"
word_of BadName = codes "bad-name"
