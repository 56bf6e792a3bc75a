-- Comments that go on. A line of a netlist that begins with `*` and a byte other than a dot, behind blanks, is a comment whatever follows; so is a line of
-- another file that begins with `#`. Of such a line nothing is read but whether its text has a bad byte.
use Rattle.std.specs.Prelude.{◌≡◌, ℕ, ◌<◌, Bool, false, not, ◌&&◌, ◌==◌, List, [], ◌∷◌, length, Result, Ok, Err, if◌then◌else◌}
use Rattle.cvc_base.specs.declared.fault.FileKind.{FileKind}
use Rattle.cvc_base.specs.declared.stop.Stop.{Stop}
use Rattle.cvc_base.specs.declared.stop.Stop.TheVariants.{At, NoMemory}
use Rattle.cvc_lex.specs.Bytes.{is_netlist}
use Rattle.cvc_lex.specs.Physical.{unindented}
use Rattle.cvc_lex.specs.Lexing.{Lexing, ReadsAs}

abbrev pub card_comment : List ℕ → Bool
card_comment [] = false
card_comment (x ∷ []) = false
card_comment (x ∷ y ∷ ys) = (x == 42) && not (y == 46)

abbrev pub row_comment : List ℕ → Bool
row_comment [] = false
row_comment (x ∷ xs) = x == 35

abbrev pub begins_comment : FileKind → List ℕ → Bool
begins_comment kind line = if is_netlist kind then card_comment (unindented line) else row_comment (unindented line)

-- some bytes that read the same as longer ones
pub record IsShort (kind : FileKind) (short long : List ℕ) : Type 0 where
  pub longer : length short < length long
  pub some : 0 < length short
  pub reads : ReadsAs kind short long

-- what is kept of the open physical line reads the same as before
abbrev pub Shortens : Lexing → Lexing → Result (Unit {0}) Stop → Type 0
Shortens old new (Ok done) = (new ≡ record old { rest = new.rest }) × (ReadsAs old.file new.rest old.rest) × (new.rest ≡ [] → old.rest ≡ []) × (old.rest ≡ [] → new.rest ≡ [])
Shortens old new (Err (At cause)) = ⊥
Shortens old new (Err NoMemory) = new ≡ old
