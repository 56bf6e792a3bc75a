use Rattle.std.proofs.Common.{◌≡◌, take}
use Rattle.std.specs.List.{list_all}
use Rattle.cvc_lex.specs.Bytes.{is_word}
use Rattle.cvc_lex.proofs.tokens.is_words.Given as goal

abbrev pub invariant-loop-byte : goal.invariant-loop-byte
invariant-loop-byte l = l.words ≡ list_all (is_word l.file) (take l.byte-index l.block)
