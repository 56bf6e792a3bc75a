use Rattle.std.proofs.Common.{ℕ, List, [], ◌∷◌, ◌++◌, map, sym, ap, subst, ◌∙◌, append_assoc}
use Rattle.std.specs.Prelude.{Result, Ok, Err, codes, decimal}
use Rattle.std.proofs.lemmas.List.Concat.{flat_map-append}
use Rattle.std.proofs.lemmas.Result.{err_from_is_err_and}
use Rattle.cvc_text.specs.Lines.{blank_before, line_end, line}
use Rattle.cvc_text.specs.Printed.{word_text}
use Rattle.cvc_text.specs.Putting.{Stand, Puts}
use Rattle.cvc_text.proofs.Putting.{puts_then, puts_stopped}
use Rattle.cvc_report.proofs.refusal.put_line_refusal.Goals as goal

-- a line of a first word, some words and the others
line_in_parts : {T E : Type 0} (r : Result T E) (a b : Stand) (first : List ℕ) (some others : List (List ℕ)) → Puts r a b ((first ++ blank_before some) ++ line_end others) → Puts r a b (line (first ∷ some ++ others))
line_in_parts r a b first some others put =
    let P : List ℕ → Type 0 = λ l. Puts r a b l in
    subst P (append_assoc first (blank_before some) (line_end others) ∙ ap (λ (l : List ℕ). first ++ l) (sym (append_assoc (blank_before some) (blank_before others) (10 ∷ [])) ∙ ap (λ (l : List ℕ). l ++ 10 ∷ []) (sym (flat_map-append (λ w. 32 ∷ w) some others)))) put

pub returns-in_err-put : goal.returns-in_err-put
returns-in_err-put g c =
    let p = err_from_is_err_and c.from_residual.result c.from_residual.ensures.1 in
    let subject = map word_text c.args.subject.now in
    let others = codes "line" ∷ decimal c.args.number ∷ c.args.word.now ∷ [] in
    rw p.1 (line_in_parts (Err p.0) _ _ (codes "refused") subject others (puts_stopped {T = Unit {0}} p.0 p.0 _ _ (codes "refused" ++ blank_before subject) (line_end others)
    (puts_stopped {T = Unit {0}} _ p.0 _ _ (codes "refused") (blank_before subject) c.in_err-put.ensures)))

pub returns-in_err-put_words : goal.returns-in_err-put_words
returns-in_err-put_words g c =
    let p = err_from_is_err_and c.from_residual-in_err-put_words.result c.from_residual-in_err-put_words.ensures.1 in
    let subject = map word_text c.args.subject.now in
    let others = codes "line" ∷ decimal c.args.number ∷ c.args.word.now ∷ [] in
    rw p.1 (line_in_parts (Err p.0) _ _ (codes "refused") subject others (puts_stopped {T = Unit {0}} _ p.0 _ _ (codes "refused" ++ blank_before subject) (line_end others)
    (puts_then _ (Err _) _ _ _ (codes "refused") (blank_before subject) c.in_ok-put.ensures c.in_err-put_words.ensures)))

pub returns : goal.returns
returns g c =
    let subject = map word_text c.args.subject.now in
    let others = codes "line" ∷ decimal c.args.number ∷ c.args.word.now ∷ [] in
    line_in_parts c.end_line.result _ _ (codes "refused") subject others (puts_then _ c.end_line.result _ _ _ (codes "refused" ++ blank_before subject) (line_end others)
    (puts_then _ (Ok _) _ _ _ (codes "refused") (blank_before subject) c.in_ok-put.ensures c.in_ok-put_words.ensures) c.end_line.ensures)
