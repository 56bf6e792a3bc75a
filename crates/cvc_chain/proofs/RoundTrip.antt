-- What is written of a log is read as that log, and nothing else is read.
use Rattle.std.proofs.Common.{◌≡◌, ℕ, ◌+◌, ◌<◌, ◌≤◌, ◌^◌, Bool, true, false, List, [], ◌∷◌, ◌++◌, Option, Some, None, length, get_or, take, drop, suc, append_assoc, length-append, refl, sym, ap, ◌∙◌, arith}
use Rattle.std.proofs.Math.Seq.{drop-append-add, get_or-append_seam, split_at, take-append_seam}
use Rattle.std.specs.Prelude.{◌↔◌, nat_lt, if◌then◌else◌, ℤ, Result, Ok, Err, decimal}
use Rattle.std.specs.Fmt.{signed_decimal}
use Rattle.std.specs.List.{All, join_with_byte, position, position_or_len, slice_split}
use Rattle.std.proofs.lemmas.Bool.{eqb-true, le-ltb, lt-ltb, ltb-false}
use Rattle.std.proofs.lemmas.List.{append-nil, append_cancel_right, get_or_append_left}
use Rattle.std.proofs.lemmas.List.Elements.{All-append, All-cons, All-nil, All-tail}
use Rattle.std.proofs.lemmas.List.Quantifiers.{position-Some}
use Rattle.std.proofs.lemmas.List.Sums.{position_or_len_is}
use Rattle.std.proofs.lemmas.List.Splits.{join_with_byte-slice_split}
use Rattle.cvc_base.specs.declared.cause.Cause.{Cause}
use Rattle.cvc_base.specs.declared.cause.Cause.TheVariants.{FileTooLong, BadRow}
use Rattle.cvc_base.specs.Order.{◌>>=◌}
use Rattle.cvc_rows.specs.Rows.{at_line}
use Rattle.cvc_rows.specs.declared.refused.LineFault.{LineFault}
use Rattle.cvc_serial.specs.declared.log.LogLine.{LogLine}
use Rattle.cvc_text.specs.Lines.{line}
use Rattle.cvc_chain.specs.Reading.{cut_again, cut_first, is_blank, is_line_feed, judged, limit, line_from, line_of, line_of_words, log_behind, log_of, number_below, or_bad_row, unended, voltage_of}
use Rattle.cvc_chain.specs.Laws.{IsWritten}
use Rattle.cvc_chain.specs.Text.{IsLogLine, log_line, log_text}
use Rattle.cvc_chain.proofs.Cuts.{all_read, line_more, rest_whole}
use Rattle.cvc_chain.proofs.Numbers.{numeral, other_numeral, other_voltage, voltage, written, written_voltage}

-- ## Bytes behind a blank or LF

position_at : (p : ℕ → Bool) (xs : List ℕ) (y : ℕ) (ys : List ℕ) → All (λ x. p x ≡ false) xs → p y ≡ true → position p (xs ++ y ∷ ys) ≡ Some (length xs)
position_at p xs y ys off on =
    let within : length xs < length (xs ++ y ∷ ys) = omega (arith, length-append xs (y ∷ ys)) in
    let is : position_or_len p (xs ++ y ∷ ys) ≡ length xs = position_or_len_is p (xs ++ y ∷ ys) (length xs) 0 (omega (arith, within))
    (λ k lt. rw (get_or_append_left xs (y ∷ ys) 0 k lt) (off k 0 lt)) (λ lt. rw (get_or-append_seam xs y ys 0) on) in
    rw (is, lt-ltb (length xs) (length (xs ++ y ∷ ys)) within) refl

behind : (xs : List ℕ) (y : ℕ) (ys : List ℕ) → drop (length xs + 1) (xs ++ y ∷ ys) ≡ ys
behind xs y ys = drop-append-add xs (y ∷ ys) 1

cut_here : (xs : List ℕ) (i : ℕ) → position is_blank xs ≡ Some i → xs ≡ take i xs ++ 32 ∷ drop (i + 1) xs
cut_here xs i at =
    let found = position-Some is_blank xs i 0 at in
    let next : suc i ≡ i + 1 = omega arith in
    rw (eqb-true (get_or xs i 0) 32 found.1, next) at (split_at xs i 0 found.0)

-- ## Lines

-- three words with a blank between each two
abbrev words : List ℕ → List ℕ → List ℕ → List ℕ
words device slot value = device ++ 32 ∷ (slot ++ 32 ∷ value)

by_cuts : (text first others second third : List ℕ) (i j : ℕ) → position is_blank text ≡ Some i → take i text ≡ first → drop (i + 1) text ≡ others
    → position is_blank others ≡ Some j → take j others ≡ second → drop (j + 1) others ≡ third → line_of text ≡ line_of_words first second third
unfolding line_of
by_cuts text first others second third i j a b c d e f = rw (a, b, c, d, e, f) refl

ended : (device slot value : List ℕ) → words device slot value ++ 10 ∷ [] ≡ line (device ∷ slot ∷ value ∷ [])
ended device slot value =
    append_assoc device (32 ∷ (slot ++ 32 ∷ value)) (10 ∷ [])
    ∙ ap (λ (bs : List ℕ). device ++ 32 ∷ ((slot ++ 32 ∷ bs) ++ 10 ∷ [])) (sym (append-nil value))

abbrev text_of : LogLine → List ℕ
text_of l = words (decimal l.device) (decimal l.slot) (signed_decimal l.value)

other_text : (l : LogLine) → IsLogLine l → All (λ b. is_line_feed b ≡ false) (text_of l)
other_text l is =
    let P : ℕ → Type 0 = λ b. is_line_feed b ≡ false in
    let device = decimal l.device in
    let slot = decimal l.slot in
    let value = signed_decimal l.value in
    let d = other_numeral l.device (omega (arith, is.device)) in
    let s = other_numeral l.slot (omega (arith, is.slot)) in
    let v = other_voltage l.value is.low is.high in
    let behind_slot = All-append P slot (32 ∷ value) (λ k b lt. (s k b lt).1) (All-cons P 32 value refl (λ k b lt. (v k b lt).1)) in
    All-append P device (32 ∷ (slot ++ 32 ∷ value)) (λ k b lt. (d k b lt).1) (All-cons P 32 (slot ++ 32 ∷ value) refl behind_slot)

pub is_read : (l : LogLine) → IsLogLine l → line_of (text_of l) ≡ Some l
is_read l is =
    let device = decimal l.device in
    let slot = decimal l.slot in
    let value = signed_decimal l.value in
    let d = other_numeral l.device (omega (arith, is.device)) in
    let s = other_numeral l.slot (omega (arith, is.slot)) in
    let cut = by_cuts (text_of l) device (slot ++ 32 ∷ value) slot value (length device) (length slot)
    (position_at is_blank device 32 (slot ++ 32 ∷ value) (λ k b lt. (d k b lt).0) refl) (take-append_seam device (32 ∷ (slot ++ 32 ∷ value))) (behind device 32 (slot ++ 32 ∷ value))
    (position_at is_blank slot 32 value (λ k b lt. (s k b lt).0) refl) (take-append_seam slot (32 ∷ value)) (behind slot 32 value) in
    cut ∙ rw (numeral (2 ^ 32) l.device (omega arith) is.device, numeral 4 l.slot (omega arith) is.slot, voltage l.value is.low is.high) refl

-- the words of a line that is read
record IsCut (text : List ℕ) (l : LogLine) : Type 0 where
  device : List ℕ
  slot : List ℕ
  value : List ℕ
  is : text ≡ words device slot value
  read : line_of_words device slot value ≡ Some l

cut_second : (l : LogLine) (o : Option ℕ) (device others text : List ℕ) → text ≡ device ++ 32 ∷ others → position is_blank others ≡ o
    → cut_again o device others ≡ Some l → IsCut text l
cut_second l None device others text is at e = cc
cut_second l (Some j) device others text is at e = record {
  device = device;
  slot = take j others;
  value = drop (j + 1) others;
  is = is ∙ ap (λ (bs : List ℕ). device ++ 32 ∷ bs) (cut_here others j at);
  read = e;
}

cut_at_first : (l : LogLine) (o : Option ℕ) (text : List ℕ) → position is_blank text ≡ o → cut_first o text ≡ Some l → IsCut text l
cut_at_first l None text at e = cc
cut_at_first l (Some i) text at e = cut_second l (position is_blank (drop (i + 1) text)) (take i text) (drop (i + 1) text) text (cut_here text i at) refl e

cut_of : (l : LogLine) (text : List ℕ) → line_of text ≡ Some l → IsCut text l
unfolding line_of
cut_of l text e = cut_at_first l (position is_blank text) text refl e

by_words : (l : LogLine) (device slot value : List ℕ) (d s : Option ℕ) (v : Option ℤ) → number_below (2 ^ 32) device ≡ d → number_below 4 slot ≡ s
    → voltage_of value ≡ v → line_from d s v ≡ Some l
    → IsLogLine l × (words device slot value ≡ text_of l)
by_words l device slot value (Some d) (Some s) (Some v) hd hs hv e =
    let same : record { device = d; slot = s; value = v } ≡ l = cc in
    let wd = written (2 ^ 32) d device (omega arith) hd in
    let ws = written 4 s slot (omega arith) hs in
    let wv = written_voltage v value hv in
    rw (← same) (record { device = wd.1; slot = ws.1; low = wv.low; high = wv.high }, rw (wd.0, ws.0, wv.text) refl)
by_words l device slot value _ _ _ hd hs hv e = cc

pub is_written : (l : LogLine) (text : List ℕ) → line_of text ≡ Some l → IsLogLine l × (text ≡ text_of l)
is_written l text e =
    let c = cut_of l text e in
    let w = by_words l c.device c.slot c.value (number_below (2 ^ 32) c.device) (number_below 4 c.slot) (voltage_of c.value) refl refl refl c.read in
    (w.0, c.is ∙ w.1)

-- a line is read just where it is written
pub lines_are_written : (text : List ℕ) (l : LogLine) → (line_of text ≡ Some l) ↔ IsWritten l text
lines_are_written text l = (
  λ e. let w = is_written l text e in (w.0, ap (λ (bs : List ℕ). bs ++ 10 ∷ []) w.1 ∙ ended (decimal l.device) (decimal l.slot) (signed_decimal l.value)),
  λ h. let same : text ≡ text_of l = append_cancel_right text (text_of l) (10 ∷ []) (h.1 ∙ sym (ended (decimal l.device) (decimal l.slot) (signed_decimal l.value))) in
      ap line_of same ∙ is_read l h.0,
)

-- up to the limit a line is a bad row just where it isn't read
bad_row : (end : ℕ) (b : Bool) (o : Option LogLine) → nat_lt limit end ≡ b → (if b then Err FileTooLong else or_bad_row o) ≡ Err BadRow
    → (end ≤ limit) × (o ≡ None)
bad_row end true o is e = cc
bad_row end false None is e = (ltb-false limit end is, refl)
bad_row end false (Some l) is e = cc

unread : (text : List ℕ) (o : Option LogLine) → line_of text ≡ o → ((l : LogLine) → ¬ (IsWritten l text)) → o ≡ None
unread text None is other = refl
unread text (Some l) is other = absurd (other l ((lines_are_written text l).0 is))

pub bad_rows_are_not_written : (end : ℕ) (text : List ℕ) → (judged end text ≡ Err BadRow) ↔ ((end ≤ limit) × ((l : LogLine) → ¬ (IsWritten l text)))
bad_rows_are_not_written end text = (
  λ e. let bad = bad_row end (nat_lt limit end) (line_of text) refl e in (bad.0, λ l is. let read : line_of text ≡ Some l = (lines_are_written text l).1 is in cc read),
  λ h. rw (le-ltb limit end h.0, unread text (line_of text) refl h.1) refl,
)

-- ## Logs

-- the text of a line ends where its LF stands
here : (l : LogLine) (rest : List ℕ) → log_line l ++ rest ≡ text_of l ++ 10 ∷ rest
here l rest = ap (λ (bs : List ℕ). bs ++ rest) (sym (ended (decimal l.device) (decimal l.slot) (signed_decimal l.value))) ∙ append_assoc (text_of l) (10 ∷ []) rest

judged_here : (l : LogLine) (end : ℕ) → IsLogLine l → end ≤ limit → judged end (text_of l) ≡ Ok l
judged_here l end is within = rw (le-ltb limit end within, is_read l is) refl

-- one more line is read
one_more : (l : LogLine) (done : List LogLine) (start : ℕ) (rest : List ℕ) → IsLogLine l → start + (length (text_of l) + 1) ≤ limit
    → log_behind done start (slice_split is_line_feed (log_line l ++ rest))
    ≡ log_behind (done ++ l ∷ []) (start + (length (text_of l) + 1)) (slice_split is_line_feed rest)
one_more l done start rest is within =
    let text = text_of l in
    let whole = text ++ 10 ∷ rest in
    let at = position_at is_line_feed text 10 rest (other_text l is) refl in
    let next = line_more done start (length text) whole text at (sym (take-append_seam text (10 ∷ rest))) refl l (log_behind done start (slice_split is_line_feed whole)) (judged_here l (start + (length text + 1)) is within) refl in
    let others = rest_whole (length text + 1) whole ∙ behind text 10 rest in
    ap (λ (bs : List ℕ). log_behind done start (slice_split is_line_feed bs)) (here l rest)
    ∙ sym next
    ∙ ap (λ (bs : List ℕ). log_behind (done ++ l ∷ []) (start + (length text + 1)) (slice_split is_line_feed bs)) others

-- how long a line is
length_line : (l : LogLine) → length (log_line l) ≡ length (text_of l) + 1
length_line l = ap length (sym (ended (decimal l.device) (decimal l.slot) (signed_decimal l.value))) ∙ length-append (text_of l) (10 ∷ [])

read_on : (log done : List LogLine) (start : ℕ) → All IsLogLine log → start + length (log_text log) ≤ limit
    → log_behind done start (slice_split is_line_feed (log_text log)) ≡ Ok (done ++ log)
read_on [] done start are within = all_read done start start [] refl (omega arith) tt (log_behind done start (slice_split is_line_feed [])) refl refl ∙ ap Ok (sym (append-nil done))
read_on (l ∷ log) done start are within =
    let long = length_line l in
    let sum = length-append (log_line l) (log_text log) in
    let is : IsLogLine l = are 0 l (omega arith) in
    let others : All IsLogLine log = All-tail IsLogLine l log are in
    one_more l done start (log_text log) is (omega (arith, long, sum, within))
    ∙ read_on log (done ++ l ∷ []) (start + (length (text_of l) + 1)) others (omega (arith, long, sum, within))
    ∙ ap Ok (append_assoc done (l ∷ []) log)

pub logs_are_read_back : (log : List LogLine) → All IsLogLine log → length (log_text log) ≤ limit → log_of (log_text log) ≡ Ok log
unfolding log_of
logs_are_read_back log are within = read_on log [] 0 are (omega (arith, within))

-- ## Bytes that are read

-- the lines behind those that were read, of which these texts are the text
record AreRead (done log : List LogLine) (start : ℕ) (texts : List (List ℕ)) : Type 0 where
  more : List LogLine
  whole : log ≡ done ++ more
  are : All IsLogLine more
  text : join_with_byte 10 texts ≡ log_text more
  within : start + length (log_text more) ≤ limit

no_end : (b : Bool) (n : ℕ) (done log : List LogLine) (X : Type 0)
    → (at_line n (if b then Err FileTooLong else Err BadRow) >>= (λ (_ : Unit {0}). Ok done)) ≡ Ok log → X
no_end true n done log X e = cc
no_end false n done log X e = cc

at_end : (text : List ℕ) (n end : ℕ) (done log : List LogLine) → (at_line n (unended end text) >>= (λ (_ : Unit {0}). Ok done)) ≡ Ok log
    → (text ≡ []) × (log ≡ done)
at_end [] n end done log e = (refl, cc)
at_end (b ∷ bytes) n end done log e = no_end (nat_lt limit end) n done log (((b ∷ bytes) ≡ []) × (log ≡ done)) e

taken : (r : Result LogLine Cause) (n : ℕ) (next : LogLine → Result (List LogLine) (LineFault Cause)) (log : List LogLine) → (at_line n r >>= next) ≡ Ok log
    → (l : LogLine) × (r ≡ Ok l) × (next l ≡ Ok log)
taken (Ok l) n next log e = (l, refl, e)
taken (Err cause) n next log e = cc

by_limit : (l : LogLine) (end : ℕ) (b : Bool) (o : Option LogLine) → nat_lt limit end ≡ b → (if b then Err FileTooLong else or_bad_row o) ≡ Ok l
    → (end ≤ limit) × (o ≡ Some l)
by_limit l end true o is e = cc
by_limit l end false None is e = cc
by_limit l end false (Some m) is e = (ltb-false limit end is, (let same : m ≡ l = cc in ap Some same))

next_read : (l : LogLine) (done log : List LogLine) (start : ℕ) (text next : List ℕ) (texts : List (List ℕ)) → judged (start + length text + 1) text ≡ Ok l
    → AreRead (done ++ l ∷ []) log (start + length text + 1) (next ∷ texts) → AreRead done log start (text ∷ next ∷ texts)
next_read l done log start text next texts is others =
    let read = by_limit l (start + length text + 1) (nat_lt limit (start + length text + 1)) (line_of text) refl is in
    let w = is_written l text read.1 in
    let sum = length-append (log_line l) (log_text others.more) in
    record {
      more = l ∷ others.more;
      whole = others.whole ∙ append_assoc done (l ∷ []) others.more;
      are = All-cons IsLogLine l others.more w.0 others.are;
      text = ap (λ (bs : List ℕ). text ++ 10 ∷ bs) others.text ∙ ap (λ (bs : List ℕ). bs ++ 10 ∷ log_text others.more) w.1 ∙ sym (here l (log_text others.more));
      within = omega (arith, sum, length_line l, ap length w.1, others.within);
    }

all_are_read : (texts : List (List ℕ)) (done log : List LogLine) (start : ℕ) → start ≤ limit → log_behind done start texts ≡ Ok log
    → AreRead done log start texts
unfolding log_behind
all_are_read [] done log start within e = record { more = []; whole = (let same : log ≡ done = cc in same ∙ sym (append-nil done)); are = All-nil IsLogLine; text = refl; within = omega (arith, within) }
all_are_read (text ∷ []) done log start within e =
    let last = at_end text (length done + 1) (start + length text) done log e in
    record { more = []; whole = last.1 ∙ sym (append-nil done); are = All-nil IsLogLine; text = last.0; within = omega (arith, within) }
all_are_read (text ∷ next ∷ texts) done log start within e =
    let t = taken (judged (start + length text + 1) text) (length done + 1) (λ (l : LogLine). log_behind (done ++ l ∷ []) (start + length text + 1) (next ∷ texts)) log e in
    let end = by_limit t.0 (start + length text + 1) (nat_lt limit (start + length text + 1)) (line_of text) refl t.1 in
    next_read t.0 done log start text next texts t.1 (all_are_read (next ∷ texts) (done ++ t.0 ∷ []) log (start + length text + 1) end.0 t.2)

pub only_logs_are_read : (bytes : List ℕ) (log : List LogLine) → log_of bytes ≡ Ok log → All IsLogLine log × (bytes ≡ log_text log) × (length bytes ≤ limit)
unfolding log_of
only_logs_are_read bytes log e =
    let r = all_are_read (slice_split is_line_feed bytes) [] log 0 (omega arith) e in
    let same : bytes ≡ log_text r.more = sym (join_with_byte-slice_split 10 bytes) ∙ r.text in
    rw r.whole (r.are, same, omega (arith, ap length same, r.within))
