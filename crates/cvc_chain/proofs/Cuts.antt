-- Lists that are cut at their first element that passes a test, and what a reader of lines has read so far.
use Rattle.std.proofs.Common.{◌≡◌, ℕ, ◌+◌, ◌-◌, ◌<◌, ◌≤◌, Bool, true, false, List, [], ◌∷◌, ◌++◌, Some, None, length, take, drop, length-drop, refl, sym, ap, ◌∙◌, subst, arith}
use Rattle.std.specs.Prelude.{cond, nat_lt, Result, Ok, Err}
use Rattle.std.specs.List.{position, position_or_len, slice_split}
use Rattle.std.proofs.lemmas.Bool.{ltb-false}
use Rattle.std.proofs.lemmas.List.{take_all}
use Rattle.std.proofs.lemmas.List.Elements.{All-from_get_or}
use Rattle.std.proofs.lemmas.List.Quantifiers.{position-Some}
use Rattle.std.proofs.lemmas.List.Splits.{slice_split_first, slice_split_none, length-slice_split}
use Rattle.std.proofs.lemmas.List.Sums.{fails_before_first, position_or_len_is}
use Rattle.cvc_base.specs.declared.cause.Cause.{Cause}
use Rattle.cvc_rows.specs.declared.refused.LineFault.{LineFault}
use Rattle.cvc_serial.specs.declared.log.LogLine.{LogLine}
use Rattle.cvc_chain.specs.Reading.{is_line_feed, judged, log_behind, unended}

pub found : (p : ℕ → Bool) (xs : List ℕ) (i : ℕ) → position p xs ≡ Some i → slice_split p xs ≡ take i xs ∷ slice_split p (drop (i + 1) xs)
found p xs i e =
    let at = position-Some p xs i 0 e in
    let is : position_or_len p xs ≡ i = position_or_len_is p xs i 0 (omega (arith, at.0)) at.2 (λ lt. at.1) in
    let P : ℕ → Type 0 = λ n. slice_split p xs ≡ take n xs ∷ slice_split p (drop (n + 1) xs) in
    subst P is (slice_split_first p xs 0 (omega (arith, is, at.0)))

past_by : (k n : ℕ) (b : Bool) → nat_lt k n ≡ b → cond b (Some k) None ≡ None → n ≤ k
past_by k n true is e = cc
past_by k n false is e = ltb-false k n is

pub none : (p : ℕ → Bool) (xs : List ℕ) → position p xs ≡ None → slice_split p xs ≡ xs ∷ []
none p xs e =
    let past : length xs ≤ position_or_len p xs = past_by _ _ (nat_lt (position_or_len p xs) (length xs)) refl e in
    slice_split_none p xs (All-from_get_or (λ x. p x ≡ false) xs 0 (λ i lt. fails_before_first p xs i 0 (omega (arith, lt, past))))

-- ## Lines of a log

line_read : (log : List LogLine) (start : ℕ) (text : List ℕ) (texts : List (List ℕ)) (line : LogLine) → 0 < length texts → judged (start + length text + 1) text ≡ Ok line
    → log_behind log start (text ∷ texts) ≡ log_behind (log ++ line ∷ []) (start + length text + 1) texts
unfolding log_behind
line_read log start text [] line some e = absurd (omega (arith, some))
line_read log start text (next ∷ texts) line some e = rw e refl

line_refused : (log : List LogLine) (start : ℕ) (text : List ℕ) (texts : List (List ℕ)) (cause : Cause) → 0 < length texts → judged (start + length text + 1) text ≡ Err cause
    → log_behind log start (text ∷ texts) ≡ Err (record { line = length log + 1; cause = cause })
unfolding log_behind
line_refused log start text [] cause some e = absurd (omega (arith, some))
line_refused log start text (next ∷ texts) cause some e = rw e refl

some_parts : (p : ℕ → Bool) (xs : List ℕ) → 0 < length (slice_split p xs)
some_parts p xs = omega (arith, length-slice_split p xs)

-- what stands behind the place, as a slice
pub rest_whole : (n : ℕ) (text : List ℕ) → take (length text - n) (drop n text) ≡ drop n text
rest_whole n text = take_all (length text - n) (drop n text) (omega (arith, length-drop n text))

module _ (log : List LogLine) (start i : ℕ) (rest text : List ℕ) (at : position is_line_feed rest ≡ Some i) (is : text ≡ take i rest) (long : length text ≡ i) where
  cut_here : slice_split is_line_feed rest ≡ text ∷ slice_split is_line_feed (drop (i + 1) rest)
  cut_here = found is_line_feed rest i at ∙ ap (λ (l : List ℕ). l ∷ slice_split is_line_feed (drop (i + 1) rest)) (sym is)

  same_end : start + length text + 1 ≡ start + (i + 1)
  same_end = omega (arith, long)

  -- one more line was read
  pub line_more : (line : LogLine) (wanted : Result (List LogLine) (LineFault Cause)) → judged (start + (i + 1)) text ≡ Ok line → log_behind log start (slice_split is_line_feed rest) ≡ wanted
      → log_behind (log ++ line ∷ []) (start + (i + 1)) (slice_split is_line_feed (take (length rest - (i + 1)) (drop (i + 1) rest))) ≡ wanted
  line_more line wanted e so_far =
      let others = slice_split is_line_feed (drop (i + 1) rest) in
      let here : judged (start + length text + 1) text ≡ Ok line = ap (λ (n : ℕ). judged n text) same_end ∙ e in
      let step = line_read log start text others line (some_parts is_line_feed (drop (i + 1) rest)) here in
      let ends : log_behind (log ++ line ∷ []) (start + (i + 1)) others ≡ log_behind (log ++ line ∷ []) (start + length text + 1) others = ap (λ (n : ℕ). log_behind (log ++ line ∷ []) n others) (sym same_end) in
      ap (λ (l : List ℕ). log_behind (log ++ line ∷ []) (start + (i + 1)) (slice_split is_line_feed l)) (rest_whole (i + 1) rest) ∙ ends ∙ sym step ∙ ap (log_behind log start) (sym cut_here) ∙ so_far

  -- a line was refused
  pub line_stops : (cause : Cause) (wanted : Result (List LogLine) (LineFault Cause)) → judged (start + (i + 1)) text ≡ Err cause → log_behind log start (slice_split is_line_feed rest) ≡ wanted
      → wanted ≡ Err (record { line = length log + 1; cause = cause })
  line_stops cause wanted e so_far =
      let others = slice_split is_line_feed (drop (i + 1) rest) in
      let here : judged (start + length text + 1) text ≡ Err cause = ap (λ (n : ℕ). judged n text) same_end ∙ e in
      sym so_far ∙ ap (log_behind log start) cut_here ∙ line_refused log start text others cause (some_parts is_line_feed (drop (i + 1) rest)) here

module _ (log : List LogLine) (start whole : ℕ) (rest : List ℕ) (at : position is_line_feed rest ≡ None) (ends : start + length rest ≡ whole) where
  last_line : log_behind log start (slice_split is_line_feed rest) ≡ log_behind log start (rest ∷ [])
  last_line = ap (log_behind log start) (none is_line_feed rest at)

  last_read : (u : Unit {0}) → unended (start + length rest) rest ≡ Ok u → log_behind log start (rest ∷ []) ≡ Ok log
  unfolding log_behind
  last_read u e = rw e refl

  last_refused : (cause : Cause) → unended (start + length rest) rest ≡ Err cause → log_behind log start (rest ∷ []) ≡ Err (record { line = length log + 1; cause = cause })
  unfolding log_behind
  last_refused cause e = rw e refl

  here : unended (start + length rest) rest ≡ unended whole rest
  here = ap (λ (n : ℕ). unended n rest) ends

  -- all lines were read
  pub all_read : (u : Unit {0}) (wanted : Result (List LogLine) (LineFault Cause)) → unended whole rest ≡ Ok u → log_behind log start (slice_split is_line_feed rest) ≡ wanted → wanted ≡ Ok log
  all_read u wanted e so_far = sym so_far ∙ last_line ∙ last_read u (here ∙ e)

  -- what no LF ends was refused
  pub end_stops : (cause : Cause) (wanted : Result (List LogLine) (LineFault Cause)) → unended whole rest ≡ Err cause → log_behind log start (slice_split is_line_feed rest) ≡ wanted
      → wanted ≡ Err (record { line = length log + 1; cause = cause })
  end_stops cause wanted e so_far = sym so_far ∙ last_line ∙ last_refused cause (here ∙ e)
