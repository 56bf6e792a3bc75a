-- Worked words: the definition computes their commands and faults.
use Rattle.std.proofs.Common.{◌≡◌, false, [], ◌∷◌, Ok, Err, Some, refl, codes}
use Rattle.cvc_words.specs.declared.command.Command.TheVariants.{Check, Gen}
use Rattle.cvc_words.specs.declared.fault.WordFault.TheVariants.{NoCommand, UnknownCommand, MissingWord, UnknownWord, TwiceWord, BadNumber, BadName}
use Rattle.cvc_words.specs.Number.{number_within}
use Rattle.cvc_words.specs.Options.{with_word, with_words}
use Rattle.cvc_words.specs.Command.{command_named, command_of}

-- no words
nothing : command_of [] ≡ Err NoCommand
nothing = refl

-- lint a
lint : command_of (codes "lint" ∷ codes "a" ∷ []) ≡ Err UnknownCommand
unfolding command_named
lint = refl

-- gen x
gen-x : command_of (codes "gen" ∷ codes "x" ∷ []) ≡ Err MissingWord
unfolding command_named
gen-x = refl

-- check a b c workers=01
leading-zero : command_of (codes "check" ∷ codes "a" ∷ codes "b" ∷ codes "c" ∷ codes "workers=01" ∷ []) ≡ Err BadNumber
unfolding number_within with_word with_words command_named
leading-zero = refl

-- check a b c workers=1 workers=65
twice : command_of (codes "check" ∷ codes "a" ∷ codes "b" ∷ codes "c" ∷ codes "workers=1" ∷ codes "workers=65" ∷ []) ≡ Err TwiceWord
unfolding number_within with_word with_words command_named
twice = refl

-- serial a b c workers=2
no-workers : command_of (codes "serial" ∷ codes "a" ∷ codes "b" ∷ codes "c" ∷ codes "workers=2" ∷ []) ≡ Err UnknownWord
unfolding number_within with_word with_words command_named
no-workers = refl

-- check a b c top= frob
no-name : command_of (codes "check" ∷ codes "a" ∷ codes "b" ∷ codes "c" ∷ codes "top=" ∷ codes "frob" ∷ []) ≡ Err BadName
unfolding number_within with_word with_words command_named
no-name = refl

-- check nets nets nets top=a=b
files : command_of (codes "check" ∷ codes "nets" ∷ codes "nets" ∷ codes "nets" ∷ codes "top=a=b" ∷ [])
    ≡ Ok (Check record { netlist = codes "nets"; models = codes "nets"; power = codes "nets"; top = Some (codes "a=b"); workers = 4; nets = false })
unfolding number_within with_word with_words command_named
files = refl

-- gen 18446744073709551615 200000 workers=64
largest : command_of (codes "gen" ∷ codes "18446744073709551615" ∷ codes "200000" ∷ codes "workers=64" ∷ []) ≡ Ok (Gen 18446744073709551615 200000 64)
unfolding number_within with_word with_words command_named
largest = refl
