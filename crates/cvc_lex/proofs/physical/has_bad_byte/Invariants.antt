use Rattle.std.proofs.Common.{◌≡◌, take}
use Rattle.std.specs.List.{list_any}
use Rattle.cvc_lex.specs.Bytes.{is_bad}
use Rattle.cvc_lex.proofs.physical.has_bad_byte.Given as goal

abbrev pub invariant-loop-byte : goal.invariant-loop-byte
invariant-loop-byte l = l.bad ≡ list_any is_bad (take l.byte-index l.text)
