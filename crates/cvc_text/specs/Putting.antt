-- A text on its way to a sink. Bytes that are put wait in a buffer, behind those that wait already, and the sink takes them from the front. Texts that
-- are put one behind another are put as the one text of them all, up to the first write that fails.
use Rattle.std.specs.Prelude.{ℕ, ◌≡◌, List, [], ◌++◌, Option, Result, MatchResult, Ok}
use Rattle.std.specs.Io.KnownBytes.{append_known}
use Rattle.cvc_io.specs.Causes.{HasCause}
use Rattle.cvc_io.specs.declared.error.WriteFailed.{WriteFailed}

-- what the sink took, where it tells it, what waits for it, and how often it has failed
pub record Stand : Type 0 where
  pub written : Option (List ℕ)
  pub waiting : List ℕ
  pub faults : ℕ

abbrev pub stand : Option (List ℕ) → List ℕ → ℕ → Stand
stand written waiting faults = record { written = written; waiting = waiting; faults = faults }

-- The text was put behind what waits, and the sink took some bytes from the front. The rest waits, and is dropped where a write failed, which has a cause.
pub record Puts {T E : Type 0} (result : Result T E) (old new : Stand) (text : List ℕ) : Type 0 where
  pub taken : List ℕ
  pub rest : List ℕ
  pub whole : old.waiting ++ text ≡ taken ++ rest
  pub written : new.written ≡ append_known old.written taken
  pub waiting : MatchResult result (λ _. new.waiting ≡ rest) (λ _. new.waiting ≡ [])
  pub cause : HasCause old.faults new.faults result

-- it was put, and no write failed
abbrev pub HasPut : Stand → Stand → List ℕ → Type 0
HasPut old new text = Puts {T = Unit {0}} {E = WriteFailed} (Ok tt) old new text
