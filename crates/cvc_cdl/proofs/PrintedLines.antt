-- Printed lines, one after another. Where they meet the limits, they have no lexical fault, and their logical lines are they.
use Rattle.std.proofs.Common.{◌≡◌, ℕ, ◌+◌, List, [], ◌∷◌, ◌++◌, length, map, Bool, true, false, cond, Option, Some, None, All, refl, sym, ap, subst, ◌∙◌, inl, inr}
use Rattle.std.specs.Prelude.{option_map, nat_lt}
use Rattle.std.specs.List.{list_any, flat_map}
use Rattle.std.proofs.lemmas.Bool.{or_parts, or_right}
use Rattle.std.proofs.lemmas.List.{append_assoc, append-nil}
use Rattle.std.proofs.lemmas.List.Elements.{All-head, All-tail}
use Rattle.cvc_base.specs.declared.cause.Cause.{Cause}
use Rattle.cvc_base.specs.declared.cause.Cause.TheVariants.{FileTooLong, LongLine, LongToken}
use Rattle.cvc_base.specs.declared.fault.Fault.{Fault}
use Rattle.cvc_base.specs.declared.fault.FileKind.TheVariants.{Netlist as NetlistFile}
use Rattle.cvc_base.specs.declared.line.Line.{Line}
use Rattle.cvc_lex.specs.Bytes.{is_line_feed, file_limit, line_limit}
use Rattle.cvc_lex.specs.Physical.{ended, open_rest, physical, Read, read, reads_from, is_long}
use Rattle.cvc_base.specs.Faults.{fault_on}
use Rattle.cvc_lex.specs.Lines.{is_start, Group, own, group, groups, line_of, logical, size_with, cause_at, fault_after, fault_with, or_else, opened, joined, first_fault, lexical, lines, closed_at_end}
use Rattle.cvc_cdl.specs.Alike.{IsLimit, MeetsLimits}
use Rattle.cvc_cdl.specs.Pieces.{PrintedLine, printed_text, whole_line, IsReadableLine, ReadsAsLine, ReadAsLines}
use Rattle.cvc_cdl.proofs.PrintedLinesTexts.{clean_line}
use Rattle.cvc_cdl.proofs.PrintedLinesRead.{no_feed, IsReadAs, read_printed}

-- ## The physical lines

ended_line : (q t : List ℕ) → list_any is_line_feed q ≡ false → ended (q ++ 10 ∷ t) ≡ (q ++ 10 ∷ []) ∷ ended t
unfolding ended
ended_line [] t h = refl
ended_line (x ∷ q) t h = let parts = or_parts (is_line_feed x) (list_any is_line_feed q) h in rw (parts.0, ended_line q t parts.1) refl

has_feed : (q t : List ℕ) → list_any is_line_feed (q ++ 10 ∷ t) ≡ true
has_feed [] t = refl
has_feed (x ∷ q) t = or_right (is_line_feed x) (list_any is_line_feed (q ++ 10 ∷ t)) (has_feed q t)

rest_line : (q t : List ℕ) → open_rest (q ++ 10 ∷ t) ≡ open_rest t
unfolding open_rest
rest_line [] t = refl
rest_line (x ∷ q) t = rw (has_feed (x ∷ q) t) (rest_line q t)

line_text : (l : PrintedLine) (t : List ℕ) → whole_line l ++ t ≡ printed_text l ++ 10 ∷ t
line_text l t = append_assoc (printed_text l) (10 ∷ []) t

ended_lines : (ls : List PrintedLine) → All IsReadableLine ls → ended (flat_map whole_line ls) ≡ map whole_line ls
unfolding ended
ended_lines [] h = refl
ended_lines (l ∷ ls) h =
    ap ended (line_text l (flat_map whole_line ls))
    ∙ ended_line (printed_text l) (flat_map whole_line ls) (no_feed (printed_text l) (clean_line l (All-head IsReadableLine l ls h)))
    ∙ ap (λ (ts : List (List ℕ)). whole_line l ∷ ts) (ended_lines ls (All-tail IsReadableLine l ls h))

rest_lines : (ls : List PrintedLine) → open_rest (flat_map whole_line ls) ≡ []
unfolding open_rest
rest_lines [] = refl
rest_lines (l ∷ ls) = ap open_rest (line_text l (flat_map whole_line ls)) ∙ rest_line (printed_text l) (flat_map whole_line ls) ∙ rest_lines ls

physical_lines : (ls : List PrintedLine) → All IsReadableLine ls → physical (flat_map whole_line ls) ≡ map whole_line ls
unfolding physical
physical_lines ls h = rw (ended_lines ls h, rest_lines ls) (append-nil (map whole_line ls))

-- ## Faults

limit_by : (long_file long_line long_token : Bool) (cause : Cause) → cond long_file (Some FileTooLong) (cond long_line (Some LongLine) (cond long_token (Some LongToken) None)) ≡ Some cause → IsLimit cause
limit_by true long_line long_token cause h = let e : cause ≡ FileTooLong = cc in inl e
limit_by false true long_token cause h = let e : cause ≡ LongLine = cc in inr (inl e)
limit_by false false true cause h = let e : cause ≡ LongToken = cc in inr (inr e)
limit_by false false false cause h = absurd cc

cause_is : (upto number : ℕ) (before : List (List ℕ)) (l : PrintedLine) (r : Read) → IsReadAs number l r
    → cause_at NetlistFile upto (opened NetlistFile before) r
    ≡ cond (nat_lt (file_limit NetlistFile) upto) (Some FileTooLong) (cond (nat_lt line_limit (size_with (opened NetlistFile before) r)) (Some LongLine) (cond (list_any is_long r.tokens) (Some LongToken) None))
cause_is upto number before l r h = rw (h.bad, h.other) refl

limit_at : (before : List (List ℕ)) (l : PrintedLine) (fault : Fault) → IsReadableLine l → fault_after NetlistFile before (whole_line l) ≡ Some fault → IsLimit fault.cause
unfolding fault_after fault_with
limit_at before l fault h is = go (cause_at NetlistFile upto (opened NetlistFile before) r) refl is
  where
    number : ℕ
    number = length before + 1

    r : Read
    r = read NetlistFile number (whole_line l)

    upto : ℕ
    upto = length (joined before) + length (whole_line l)

    go : (o : Option Cause) → cause_at NetlistFile upto (opened NetlistFile before) r ≡ o → option_map (fault_on NetlistFile number) o ≡ Some fault → IsLimit fault.cause
    go None e k = absurd cc
    go (Some cause) e k =
        let same : fault_on NetlistFile number cause ≡ fault = cc in
        let P : Fault → Type 0 = λ f. IsLimit f.cause in
        subst P same (limit_by (nat_lt (file_limit NetlistFile) upto) (nat_lt line_limit (size_with (opened NetlistFile before) r)) (list_any is_long r.tokens) cause (sym (cause_is upto number before l r (read_printed number l h)) ∙ e))

only_limits : (before : List (List ℕ)) (ls : List PrintedLine) (fault : Fault) → All IsReadableLine ls → first_fault NetlistFile before (map whole_line ls) ≡ Some fault → IsLimit fault.cause
unfolding first_fault
only_limits before [] fault h is = absurd cc
only_limits before (l ∷ ls) fault h is = go (fault_after NetlistFile before (whole_line l)) refl (only_limits (before ++ whole_line l ∷ []) ls fault (All-tail IsReadableLine l ls h))
  where
    later : Option Fault
    later = first_fault NetlistFile (before ++ whole_line l ∷ []) (map whole_line ls)

    go : (o : Option Fault) → fault_after NetlistFile before (whole_line l) ≡ o → (later ≡ Some fault → IsLimit fault.cause) → IsLimit fault.cause
    go None e rest = rest (ap (λ (p : Option Fault). or_else p later) (sym e) ∙ is)
    go (Some f) e rest = limit_at before l fault (All-head IsReadableLine l ls h) (e ∙ ap (λ (p : Option Fault). or_else p later) (sym e) ∙ is)

lexical_is : (ls : List PrintedLine) → All IsReadableLine ls → lexical NetlistFile (flat_map whole_line ls) ≡ first_fault NetlistFile [] (map whole_line ls)
unfolding lexical
lexical_is ls h = ap (first_fault NetlistFile []) (physical_lines ls h)

pub no_lexical_fault : (ls : List PrintedLine) → All IsReadableLine ls → MeetsLimits (flat_map whole_line ls) → lexical NetlistFile (flat_map whole_line ls) ≡ None
no_lexical_fault ls h meets = go (lexical NetlistFile (flat_map whole_line ls)) refl
  where
    go : (o : Option Fault) → lexical NetlistFile (flat_map whole_line ls) ≡ o → lexical NetlistFile (flat_map whole_line ls) ≡ None
    go None e = e
    go (Some fault) e = absurd (meets fault e (only_limits [] ls fault h (sym (lexical_is ls h) ∙ e)))

-- ## The logical lines

abbrev reads : ℕ → List PrintedLine → List Read
reads number ls = reads_from NetlistFile number (map whole_line ls)

-- no line continues another
none_own : (number : ℕ) (ls : List PrintedLine) → All IsReadableLine ls → own NetlistFile (reads number ls) ≡ []
none_own number [] h = refl
none_own number (l ∷ ls) h = rw (read_printed number l (All-head IsReadableLine l ls h)).start refl

line_is : (number : ℕ) (l : PrintedLine) (r : Read) (rs : List Read) → IsReadAs number l r → own NetlistFile rs ≡ [] → ReadsAsLine number l (line_of (group NetlistFile r rs))
line_is number l r rs h alone = record {
  first = h.number;
  directive = h.directive;
  tokens = rw (alone, append-nil r.tokens) h.tokens;
}

groups_start : (r : Read) (rs : List Read) → is_start r ≡ true → groups NetlistFile (r ∷ rs) ≡ group NetlistFile r rs ∷ groups NetlistFile rs
unfolding groups
groups_start r rs h = rw h refl

lines_from : (number : ℕ) (ls : List PrintedLine) → All IsReadableLine ls → ReadAsLines number ls (map line_of (groups NetlistFile (reads number ls)))
unfolding groups
lines_from number [] h = tt
lines_from number (l ∷ ls) h =
    let here = read_printed number l (All-head IsReadableLine l ls h) in
    let later = All-tail IsReadableLine l ls h in
    let r : Read = read NetlistFile number (whole_line l) in
    let P : List Group → Type 0 = λ gs. ReadAsLines number (l ∷ ls) (map line_of gs) in
    subst P (sym (groups_start r (reads (number + 1) ls) here.start)) (line_is number l r (reads (number + 1) ls) here (none_own (number + 1) ls later), lines_from (number + 1) ls later)

pub closed-is : (bytes : List ℕ) → lexical NetlistFile bytes ≡ None → closed_at_end NetlistFile bytes ≡ map line_of (groups NetlistFile (reads_from NetlistFile 1 (physical bytes)))
unfolding closed_at_end lines logical
closed-is bytes e = rw e refl

pub read_as_lines : (ls : List PrintedLine) → All IsReadableLine ls → lexical NetlistFile (flat_map whole_line ls) ≡ None → ReadAsLines 1 ls (closed_at_end NetlistFile (flat_map whole_line ls))
read_as_lines ls h e =
    let P : List Line → Type 0 = λ lines. ReadAsLines 1 ls lines in
    subst P (sym (closed-is (flat_map whole_line ls) e ∙ ap (λ (ps : List (List ℕ)). map line_of (groups NetlistFile (reads_from NetlistFile 1 ps))) (physical_lines ls h))) (lines_from 1 ls h)
