use Rattle.std.proofs.Common.{◌≡◌, ◌+◌, ◌≤◌, ℕ, length, drop, false}
use Rattle.cvc_lex.specs.Physical.{tokens_from}
use Rattle.cvc_lex.proofs.tokens.token_count.Given as goal

abbrev pub invariant-loop-byte : goal.invariant-loop-byte
invariant-loop-byte l = (l.count ≤ l.byte-index) × ((number column : ℕ) → l.count + length (tokens_from l.file number l.inside (column + l.byte-index) (drop l.byte-index l.text)) ≡ length (tokens_from l.file number false column l.text))
