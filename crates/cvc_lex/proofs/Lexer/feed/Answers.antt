use Rattle.std.proofs.Common.{◌≡◌, ◌++◌, sym, ap, subst, ◌∙◌, false}
use Rattle.cvc_base.specs.Answers.{IfAt, Refuses}
use Rattle.cvc_base.specs.declared.fault.FileKind.{FileKind}
use Rattle.cvc_lex.specs.Lines.{sure_fault}
use Rattle.cvc_lex.specs.Lexing.{Lexing, IsFirstFaultOf}
use Rattle.cvc_lex.specs.Scanning.{lexing_of}
use Rattle.cvc_lex.proofs.Handing.{fed, fed_same, kept_refuses, kept_sure, refuses, sure_at}
use Rattle.cvc_lex.proofs.Standing.{kept_feed}
use Rattle.cvc_lex.proofs.Lexer.feed.Goals as goal

pub returns-in-Some-clause-stands : goal.returns-in-Some-clause-stands
returns-in-Some-clause-stands c =
    let goes : (lexing_of c.self.inside.scanner).finished ≡ false = ap (λ (x : Lexing). x.finished) c.self.view_is ∙ c.requires in
    rw (← c.self.view_is) (λ stream n st. kept_feed (lexing_of c.self.inside.scanner) stream c.args.piece.now n c.in-Some.refusal goes c.in-Some.is st)

pub returns-in-Some-clause-refuses : goal.returns-in-Some-clause-refuses
returns-in-Some-clause-refuses c = kept_refuses c.args.self.now c.args.piece.now c.in-Some.refusal c.requires (ap (λ (x : Lexing). x.refused) (sym c.self.view_is) ∙ c.in-Some.is)

pub returns-in-Some-clause-sure : goal.returns-in-Some-clause-sure
returns-in-Some-clause-sure c = kept_sure c.args.self.now c.args.piece.now c.in-Some.refusal c.requires (ap (λ (x : Lexing). x.refused) (sym c.self.view_is) ∙ c.in-Some.is)

pub returns-clause-stands : goal.returns-clause-stands
returns-clause-stands c = rw (← c.self.view_is) (fed (lexing_of c.self.inside.scanner) (lexing_of c.read_piece-done.new.self) (lexing_of c.answer.new.self) c.args.piece.now c.read_piece-done.result c.read_piece-done.ensures c.answer.ensures.state)

pub returns-clause-refuses : goal.returns-clause-refuses
returns-clause-refuses c = rw (← c.self.view_is) (λ stream n st.
    let same = fed_same (lexing_of c.self.inside.scanner) (lexing_of c.read_piece-done.new.self) (lexing_of c.answer.new.self) c.args.piece.now c.read_piece-done.result c.read_piece-done.ensures c.answer.ensures.state in
    let now = fed (lexing_of c.self.inside.scanner) (lexing_of c.read_piece-done.new.self) (lexing_of c.answer.new.self) c.args.piece.now c.read_piece-done.result c.read_piece-done.ensures c.answer.ensures.state stream n st in
    let P : FileKind → Type 0 = λ k. Refuses (sure_fault k (stream ++ c.args.piece.now)) c.answer.result in
    subst P same.0 (refuses (lexing_of c.answer.new.self) (stream ++ c.args.piece.now) n false c.answer.result same.1 c.answer.ensures.refused now))

pub returns-clause-sure : goal.returns-clause-sure
returns-clause-sure c = rw (← c.self.view_is) (λ stream n st.
    let same = fed_same (lexing_of c.self.inside.scanner) (lexing_of c.read_piece-done.new.self) (lexing_of c.answer.new.self) c.args.piece.now c.read_piece-done.result c.read_piece-done.ensures c.answer.ensures.state in
    let now = fed (lexing_of c.self.inside.scanner) (lexing_of c.read_piece-done.new.self) (lexing_of c.answer.new.self) c.args.piece.now c.read_piece-done.result c.read_piece-done.ensures c.answer.ensures.state stream n st in
    let P : FileKind → Type 0 = λ k. IfAt c.answer.result (IsFirstFaultOf k (stream ++ c.args.piece.now)) in
    subst P same.0 (sure_at (lexing_of c.answer.new.self) (stream ++ c.args.piece.now) n c.answer.result same.1 c.answer.ensures.refused now))

pub returns-clause-same : goal.returns-clause-same
returns-clause-same c = rw (← c.self.view_is) (fed_same (lexing_of c.self.inside.scanner) (lexing_of c.read_piece-done.new.self) (lexing_of c.answer.new.self) c.args.piece.now c.read_piece-done.result c.read_piece-done.ensures c.answer.ensures.state)
