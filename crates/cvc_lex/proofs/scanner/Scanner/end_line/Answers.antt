use Rattle.std.proofs.Common.{sym, ap, ◌∙◌, ◌+◌, ◌≡◌, true, refl}
use Rattle.std.specs.List.{list_any}
use Rattle.std.proofs.lemmas.Result.{err_from_is_err_and}
use Rattle.cvc_lex.specs.Bytes.{is_bad}
use Rattle.cvc_lex.specs.Physical.{read, shape_of, text_of}
use Rattle.cvc_lex.specs.Scanning.{lexing_of, shaped}
use Rattle.cvc_lex.proofs.LineEnds.{bad_cause, read_shaped, stopped_line, added_line}
use Rattle.cvc_lex.proofs.scanner.Scanner.end_line.Goals as goal

pub returns-then-has_bad_byte : goal.returns-then-has_bad_byte
returns-then-has_bad_byte c =
    let bad : list_any is_bad (text_of c.args.line.now) ≡ true = ap (list_any is_bad) (sym c.text_of-text.ensures.text) ∙ sym c.has_bad_byte.ensures ∙ c.if-has_bad_byte.true in
    (bad_cause c.args.self.now.file (c.args.self.now.count + 1) c.args.line.now c.args.self.now.«open» bad, record { file = refl; finished = refl; refused = refl; waiting = refl; count = refl })

pub returns-in_err-add_text : goal.returns-in_err-add_text
returns-in_err-add_text c =
    let p = err_from_is_err_and c.from_residual.result c.from_residual.ensures.1 in
    let same = read_shaped c.args.self.now.file (c.args.self.now.count + 1) c.args.line.now c.text_of-text.result.now c.cut.result.now c.text_of-text.ensures.text (sym c.has_bad_byte.ensures ∙ c.if-has_bad_byte.false) c.cut.ensures.cut in
    rw (p.1, p.2) (stopped_line (lexing_of c.args.self.now) (lexing_of c.add_text.new.self) (shaped c.args.self.now.file (c.args.self.now.count + 1) (shape_of c.args.self.now.file c.cut.result.now) c.cut.result.now) (read c.args.self.now.file (c.args.self.now.count + 1) c.args.line.now) _ same c.in_err-add_text.ensures)

pub returns : goal.returns
returns c =
    let same = read_shaped c.args.self.now.file (c.args.self.now.count + 1) c.args.line.now c.text_of-text.result.now c.cut.result.now c.text_of-text.ensures.text (sym c.has_bad_byte.ensures ∙ c.if-has_bad_byte.false) c.cut.ensures.cut in
    added_line (lexing_of c.args.self.now) (lexing_of c.add_text.new.self) (shaped c.args.self.now.file (c.args.self.now.count + 1) (shape_of c.args.self.now.file c.cut.result.now) c.cut.result.now) (read c.args.self.now.file (c.args.self.now.count + 1) c.args.line.now) c.in_ok-add_text.field-0 same c.in_ok-add_text.ensures
