use Rattle.std.proofs.Common.{◌≡◌, take}
use Rattle.std.specs.List.{list_all}
use Rattle.cvc_lex.specs.Bytes.{is_blank}
use Rattle.cvc_lex.proofs.physical.is_blanks.Given as goal

abbrev pub invariant-loop-byte : goal.invariant-loop-byte
invariant-loop-byte l = l.blanks ≡ list_all is_blank (take l.byte-index l.block)
