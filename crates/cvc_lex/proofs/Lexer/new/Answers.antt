use Rattle.std.proofs.Common.{[], subst, sym}
use Rattle.cvc_lex.specs.Lexing.{Lexing, StandsFor}
use Rattle.cvc_lex.proofs.Handing.{fresh}
use Rattle.cvc_lex.proofs.Lexer.new.Goals as goal

pub returns-clause-stands : goal.returns-clause-stands
returns-clause-stands c = let P : Lexing → Type 0 = λ x. StandsFor x [] 0 in subst P (sym c.new.ensures) (fresh c.args.file)
