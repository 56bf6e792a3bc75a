-- What the laws of logical lines say: some lines are the front of others, and a line has a token.
use Rattle.std.specs.Prelude.{◌≡◌, ◌<◌, List, ◌++◌, length}
use Rattle.cvc_base.specs.declared.line.Line.{Line}

abbrev pub IsFront : List Line → List Line → Type 0
IsFront front lines = (later : List Line) × (front ++ later ≡ lines)

abbrev pub HasToken : Line → Type 0
HasToken line = 0 < length line.tokens
