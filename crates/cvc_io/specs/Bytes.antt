-- What a sink took: of a piece in one write, and of a text in as many as it needs.
use Rattle.std.specs.Prelude.{◌≡◌, ℕ, ◌≤◌, List, ◌++◌, length, take, Option, Result, MatchResult, IfOk}
use Rattle.std.specs.Io.KnownBytes.{append_known}

-- a write appended what it took, and nothing where it failed
abbrev pub Writes : {E : Type 0} → Option (List ℕ) → Option (List ℕ) → Result ℕ E → List ℕ → Type 0
Writes old new result piece = MatchResult result (λ n. new ≡ append_known old (take n piece)) (λ _. new ≡ old)

-- it took at least one byte, and at most the piece
abbrev pub TakesSome : {E : Type 0} → Result ℕ E → List ℕ → Type 0
TakesSome result piece = IfOk result (λ n. (1 ≤ n) × (n ≤ length piece))

-- a part of the text from its front on was written
pub record WritesPart (old new : Option (List ℕ)) (text : List ℕ) : Type 0 where
  pub part : List ℕ
  pub rest : List ℕ
  pub whole : text ≡ part ++ rest
  pub written : new ≡ append_known old part

-- the text was written, or a part of it where the write failed
abbrev pub WritesText : {E : Type 0} → Option (List ℕ) → Option (List ℕ) → Result (Unit {0}) E → List ℕ → Type 0
WritesText old new result text = MatchResult result (λ _. new ≡ append_known old text) (λ _. WritesPart old new text)
