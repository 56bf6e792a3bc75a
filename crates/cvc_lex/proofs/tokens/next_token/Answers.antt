use Rattle.std.proofs.Common.{sym, ap, ◌∙◌, ◌≡◌, ℕ, List, ◌+◌, ◌-◌, ◌<◌, ◌≤◌, length, take, drop, arith}
use Rattle.std.proofs.lemmas.List.{take_rest, length-drop}
use Rattle.cvc_lex.proofs.Texts.{no_token, sign_token, word_token, word_some}
use Rattle.cvc_lex.proofs.tokens.next_token.Goals as goal

rest_length : (i : ℕ) (text : List ℕ) → length (take (length text - i) (drop i text)) ≡ length text - i
rest_length i text = ap length (take_rest text i) ∙ length-drop i text

here : (i n : ℕ) (text : List ℕ) → i ≤ length text → n ≤ length (take (length text - i) (drop i text)) → (i + n ≡ length text → ⊥) → i + n < length text
here i n text le within ne = let e = rest_length i text in omega (arith, ne)

pub returns-then-start-text-clause-token : goal.returns-then-start-text-clause-token
returns-then-start-text-clause-token c = λ number. no_token c.args.file number c.args.text.now c.args.i c.indent.result c.indent.ensures.place c.if-start-text.true

pub returns-then-is_alone-clause-token : goal.returns-then-is_alone-clause-token
returns-then-is_alone-clause-token c = λ number. sign_token c.args.file number c.args.text.now c.args.i c.indent.result c.indent.ensures.place (here c.args.i c.indent.result c.args.text.now c.requires c.indent.ensures.within c.if-start-text.false) (sym c.is_alone.ensures ∙ c.if-is_alone.true)

pub returns-else-is_alone-clause-range : goal.returns-else-is_alone-clause-range
returns-else-is_alone-clause-range c =
    let lt = here c.args.i c.indent.result c.args.text.now c.requires c.indent.ensures.within c.if-start-text.false in
    let some_byte = word_some c.args.file 0 c.args.text.now c.args.i c.indent.result c.word_len.result c.indent.ensures.place c.requires lt (sym c.is_alone.ensures ∙ c.if-is_alone.false) c.word_len.ensures.word in
    let long = rest_length (c.args.i + c.indent.result) c.args.text.now in
    let within = c.word_len.ensures.within in
    (omega arith, omega arith, omega (arith, long, within))

pub returns-else-is_alone-clause-token : goal.returns-else-is_alone-clause-token
returns-else-is_alone-clause-token c = λ number. word_token c.args.file number c.args.text.now c.args.i c.indent.result c.word_len.result c.indent.ensures.place c.requires (here c.args.i c.indent.result c.args.text.now c.requires c.indent.ensures.within c.if-start-text.false) (sym c.is_alone.ensures ∙ c.if-is_alone.false) c.word_len.ensures.word
