use Rattle.std.proofs.Common.{◌≡◌, sym, ap, subst, ◌∙◌, false, true, refl}
use Rattle.cvc_base.specs.Answers.{Refuses}
use Rattle.cvc_base.specs.declared.fault.FileKind.{FileKind}
use Rattle.cvc_lex.specs.Lines.{lexical}
use Rattle.cvc_lex.specs.Lexing.{Lexing}
use Rattle.cvc_lex.specs.Scanning.{lexing_of, at_end}
use Rattle.cvc_lex.proofs.Handing.{finished, finished_file, kept_lexical, refuses}
use Rattle.cvc_lex.proofs.Standing.{kept_finish}
use Rattle.cvc_lex.proofs.Lexer.finish.Goals as goal

pub returns-in-Some-clause-stands : goal.returns-in-Some-clause-stands
returns-in-Some-clause-stands c =
    let goes : (lexing_of c.self.inside.scanner).finished ≡ false = ap (λ (x : Lexing). x.finished) c.self.view_is ∙ c.requires in
    rw (← c.self.view_is) (λ stream n st. kept_finish (lexing_of c.self.inside.scanner) stream n c.in-Some.refusal goes c.in-Some.is st)

pub returns-in-Some-clause-refuses : goal.returns-in-Some-clause-refuses
returns-in-Some-clause-refuses c = kept_lexical c.args.self.now c.in-Some.refusal c.requires (ap (λ (x : Lexing). x.refused) (sym c.self.view_is) ∙ c.in-Some.is)

pub returns-clause-stands : goal.returns-clause-stands
returns-clause-stands c = rw (← c.self.view_is) (finished (lexing_of c.self.inside.scanner) (lexing_of c.end_lines-done.new.self) (lexing_of c.answer-answer.new.self) c.end_lines-done.result c.end_lines-done.ensures c.answer-answer.ensures.state)

pub returns-clause-refuses : goal.returns-clause-refuses
returns-clause-refuses c = rw (← c.self.view_is) (λ stream n st.
    let file = finished_file (lexing_of c.self.inside.scanner) (lexing_of c.end_lines-done.new.self) (lexing_of c.answer-answer.new.self) c.end_lines-done.result c.end_lines-done.ensures c.answer-answer.ensures.state in
    let now = finished (lexing_of c.self.inside.scanner) (lexing_of c.end_lines-done.new.self) (lexing_of c.answer-answer.new.self) c.end_lines-done.result c.end_lines-done.ensures c.answer-answer.ensures.state stream n st in
    let P : FileKind → Type 0 = λ k. Refuses (lexical k stream) c.answer-answer.result in
    subst P file (refuses (at_end (lexing_of c.answer-answer.new.self)) stream n true c.answer-answer.result refl c.answer-answer.ensures.refused now))

pub returns-clause-same : goal.returns-clause-same
returns-clause-same c = rw (← c.self.view_is) (finished_file (lexing_of c.self.inside.scanner) (lexing_of c.end_lines-done.new.self) (lexing_of c.answer-answer.new.self) c.end_lines-done.result c.end_lines-done.ensures c.answer-answer.ensures.state, refl)
