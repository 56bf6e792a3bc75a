-- A log past its limit has its first fault within the limit and one byte more, so no more of it needs to be read.
use Rattle.std.proofs.Common.{◌≡◌, ℕ, zero, suc, ◌+◌, ◌<◌, ◌≤◌, Bool, true, false, List, [], ◌∷◌, ◌++◌, length, take, refl, sym, ap, ◌∙◌, arith, append-nil, append_assoc, length-append}
use Rattle.std.specs.Prelude.{All, Result, Ok, Err, nat_lt}
use Rattle.std.specs.List.{slice_split}
use Rattle.std.proofs.lemmas.Bool.{lt-ltb, ltb-false}
use Rattle.std.proofs.lemmas.List.{take_all}
use Rattle.std.proofs.lemmas.List.Elements.{All-nil, All-push}
use Rattle.std.proofs.lemmas.List.Splits.{slice_split_at, slice_split_none, length-slice_split}
use Rattle.cvc_base.specs.Order.{◌>>=◌}
use Rattle.cvc_base.specs.declared.cause.Cause.{Cause}
use Rattle.cvc_base.specs.declared.cause.Cause.TheVariants.{FileTooLong}
use Rattle.cvc_chain.specs.Reading.{is_line_feed, judged, limit, log_behind, log_of}
use Rattle.cvc_rows.specs.declared.refused.LineFault.{LineFault}
use Rattle.cvc_rows.specs.Rows.{at_line}
use Rattle.cvc_run.specs.Loads.{up_to}
use Rattle.cvc_serial.specs.declared.log.LogLine.{LogLine}

-- no line ends in these bytes
abbrev IsUnended : List ℕ → Type 0
IsUnended text = All (λ b. is_line_feed b ≡ false) text

abbrev too_long : List LogLine → Result (List LogLine) (LineFault Cause)
too_long log = Err (record { line = length log + 1; cause = FileTooLong })

-- ## A line

judged_past : (end : ℕ) (text : List ℕ) → limit < end → judged end text ≡ Err FileTooLong
judged_past end text past = rw (lt-ltb limit end past) refl

judged_within : (end : ℕ) (text : List ℕ) (line : LogLine) → judged end text ≡ Ok line → end ≤ limit
judged_within end text line e = by (nat_lt limit end) refl e
  where
    by : (b : Bool) → nat_lt limit end ≡ b → judged end text ≡ Ok line → end ≤ limit
    by false is e = ltb-false limit end is
    by true is e = cc

some_parts : (xs : List ℕ) → 0 < length (slice_split is_line_feed xs)
some_parts xs = omega (arith, length-slice_split is_line_feed xs)

-- what comes behind a line is the same for two texts
behind_line : (log : List LogLine) (start : ℕ) (text : List ℕ) (some others : List (List ℕ)) → 0 < length some → 0 < length others
    → ((line : LogLine) → judged (start + length text + 1) text ≡ Ok line → log_behind (log ++ line ∷ []) (start + length text + 1) some ≡ log_behind (log ++ line ∷ []) (start + length text + 1) others)
    → log_behind log start (text ∷ some) ≡ log_behind log start (text ∷ others)
unfolding log_behind
behind_line log start text [] others s o same = absurd (omega (arith, s))
behind_line log start text (x ∷ xs) [] s o same = absurd (omega (arith, o))
behind_line log start text (x ∷ xs) (y ∷ ys) s o same = by (judged (start + length text + 1) text) refl
  where
    by : (r : Result LogLine Cause) → judged (start + length text + 1) text ≡ r
        → ◌>>=◌ (at_line (length log + 1) r) (λ line. log_behind (log ++ line ∷ []) (start + length text + 1) (x ∷ xs)) ≡ ◌>>=◌ (at_line (length log + 1) r) (λ line. log_behind (log ++ line ∷ []) (start + length text + 1) (y ∷ ys))
    by (Ok line) e = same line e
    by (Err cause) e = refl

-- a line that passes the limit, with others behind it or at the end
line_past : (log : List LogLine) (start : ℕ) (text : List ℕ) (texts : List (List ℕ)) → 0 < length text → limit < start + length text → log_behind log start (text ∷ texts) ≡ too_long log
unfolding log_behind
line_past log start [] texts some past = absurd (omega (arith, some))
line_past log start (x ∷ xs) [] some past = rw (lt-ltb limit (start + length (x ∷ xs)) past) refl
line_past log start (x ∷ xs) (next ∷ texts) some past = rw (judged_past (start + length (x ∷ xs) + 1) (x ∷ xs) (omega (arith, past))) refl

-- ## Bytes, behind those of a line that isn't ended yet

more_unended : (text : List ℕ) (x : ℕ) → IsUnended text → is_line_feed x ≡ false → IsUnended (text ++ x ∷ [])
more_unended text x all e = All-push (λ b. is_line_feed b ≡ false) text x all e

past_limit : (log : List LogLine) (start : ℕ) (text rest : List ℕ) → IsUnended text → 0 < length text → limit < start + length text → log_behind log start (slice_split is_line_feed (text ++ rest)) ≡ too_long log
past_limit log start text [] all some past =
    ap (λ (l : List ℕ). log_behind log start (slice_split is_line_feed l)) (append-nil text)
    ∙ ap (log_behind log start) (slice_split_none is_line_feed text all)
    ∙ line_past log start text [] some past
past_limit log start text (x ∷ xs) all some past =
    by (is_line_feed x) refl (λ e. let size = length-append text (x ∷ []) in past_limit log start (text ++ x ∷ []) xs (more_unended text x all e) (omega (arith, size)) (omega (arith, size, past)))
  where
    by : (b : Bool) → is_line_feed x ≡ b → (is_line_feed x ≡ false → log_behind log start (slice_split is_line_feed ((text ++ x ∷ []) ++ xs)) ≡ too_long log)
        → log_behind log start (slice_split is_line_feed (text ++ x ∷ xs)) ≡ too_long log
    by true e again = ap (log_behind log start) (slice_split_at is_line_feed text x xs all e) ∙ line_past log start text (slice_split is_line_feed xs) some past
    by false e again = ap (λ (l : List ℕ). log_behind log start (slice_split is_line_feed l)) (sym (append_assoc text (x ∷ []) xs)) ∙ again e

-- so many more bytes reach one past the limit
same_log : (log : List LogLine) (start : ℕ) (text rest : List ℕ) (n : ℕ) → IsUnended text → start ≤ limit → start + length text + n ≡ limit + 1
    → log_behind log start (slice_split is_line_feed (text ++ take n rest)) ≡ log_behind log start (slice_split is_line_feed (text ++ rest))
same_log log start text [] n all within ends = ap (λ (l : List ℕ). log_behind log start (slice_split is_line_feed (text ++ l))) (take_all n [] (omega arith))
same_log log start text (x ∷ xs) zero all within ends =
    let some : 0 < length text = omega (arith, within, ends) in
    let past : limit < start + length text = omega (arith, ends) in
    past_limit log start text [] all some past ∙ sym (past_limit log start text (x ∷ xs) all some past)
same_log log start text (x ∷ xs) (suc n) all within ends =
    by (is_line_feed x) refl
    (λ line read. same_log (log ++ line ∷ []) (start + length text + 1) [] xs n (All-nil (λ b. is_line_feed b ≡ false)) (judged_within (start + length text + 1) text line read) (omega (arith, ends)))
    (λ e. let size = length-append text (x ∷ []) in same_log log start (text ++ x ∷ []) xs n (more_unended text x all e) within (omega (arith, size, ends)))
  where
    read_of : List ℕ → Result (List LogLine) (LineFault Cause)
    read_of bytes = log_behind log start (slice_split is_line_feed bytes)

    behind : LogLine → List ℕ → Result (List LogLine) (LineFault Cause)
    behind line bytes = log_behind (log ++ line ∷ []) (start + length text + 1) (slice_split is_line_feed bytes)

    by : (b : Bool) → is_line_feed x ≡ b → ((line : LogLine) → judged (start + length text + 1) text ≡ Ok line → behind line (take n xs) ≡ behind line xs)
        → (is_line_feed x ≡ false → read_of ((text ++ x ∷ []) ++ take n xs) ≡ read_of ((text ++ x ∷ []) ++ xs)) → read_of (text ++ x ∷ take n xs) ≡ read_of (text ++ x ∷ xs)
    by true e next again =
        ap (log_behind log start) (slice_split_at is_line_feed text x (take n xs) all e)
        ∙ behind_line log start text (slice_split is_line_feed (take n xs)) (slice_split is_line_feed xs) (some_parts (take n xs)) (some_parts xs) next
        ∙ sym (ap (log_behind log start) (slice_split_at is_line_feed text x xs all e))
    by false e next again = ap read_of (sym (append_assoc text (x ∷ []) (take n xs))) ∙ again e ∙ ap read_of (append_assoc text (x ∷ []) xs)

pub log-up_to : (bytes : List ℕ) → log_of (up_to limit bytes) ≡ log_of bytes
unfolding log_of
log-up_to bytes = same_log [] 0 [] bytes (limit + 1) (All-nil (λ b. is_line_feed b ≡ false)) (omega arith) (omega arith)
