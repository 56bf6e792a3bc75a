use Rattle.std.proofs.Common.{refl}
use Rattle.cvc_lex.specs.Scanning.{lexing_of}
use Rattle.cvc_lex.proofs.Handing.{hands, takes_front}
use Rattle.cvc_lex.proofs.Lexer.next_line.Goals as goal

pub returns-clause-hands : goal.returns-clause-hands
returns-clause-hands c =
    let taken = takes_front c.self.inside.scanner.closed.items c.pop_front.new.self.items c.pop_front.result c.pop_front.ensures.items c.pop_front.ensures.rest in
    rw (← c.self.view_is) (hands (lexing_of c.self.inside.scanner) (record (lexing_of c.self.inside.scanner) { waiting = c.pop_front.new.self.items }) c.pop_front.result c.pop_front.new.self.items taken refl)
