-- First faults and closed lines of a stream that goes on.
use Rattle.std.proofs.Common.{◌≡◌, ℕ, ◌+◌, ◌<◌, ◌≤◌, List, [], ◌∷◌, ◌++◌, length, map, Bool, true, false, cond, Option, Some, None, refl, sym, ap, subst, ◌∙◌, arith, inl, inr}
use Rattle.std.specs.Prelude.{is_some, option_map, option_to_list, nat_lt}
use Rattle.std.specs.List.{list_any}
use Rattle.std.proofs.lemmas.Bool.{cases_Bool, cases_lt, lt-ltb, le-ltb, ltb-true, ltb-false}
use Rattle.std.proofs.lemmas.List.{append_assoc, append-nil, length-append}
use Rattle.std.proofs.lemmas.List.Concat.{flat_map-append}
use Rattle.cvc_base.specs.declared.cause.Cause.TheVariants.{FileTooLong}
use Rattle.cvc_base.specs.declared.fault.Fault.{Fault}
use Rattle.cvc_base.specs.declared.fault.FileKind.{FileKind}
use Rattle.cvc_base.specs.declared.line.Line.{Line}
use Rattle.cvc_lex.specs.declared.scanner.Logical.{Logical}
use Rattle.cvc_lex.specs.Bytes.{is_line_feed, file_limit}
use Rattle.cvc_lex.specs.Physical.{read, ended, open_rest, physical, line_if_any}
use Rattle.cvc_base.specs.Faults.{fault_on}
use Rattle.cvc_lex.specs.Lines.{joined, opened, closed, logical, line_of, cause_of, cause_at, fault_with, fault_after, or_else, first_fault, faultless, lexical, lines, lines_unless, closed_at_end, sure_fault, closed_so_far}
use Rattle.cvc_lex.proofs.Streams.{NoFeed, ended-append, ended-none, ended-line, first_feed, rest_no_feed, no_feed-append, length_stream, physical_of, physical-append, rest-none, rest-line}
use Rattle.cvc_lex.proofs.Grouping.{closed_stay, all_lines}

-- ## At one line

fault_after-is : (kind : FileKind) (before : List (List ℕ)) (line : List ℕ) → fault_after kind before line
    ≡ option_map (fault_on kind (length before + 1)) (cause_at kind (length (joined before) + length line) (opened kind before) (read kind (length before + 1) line))
unfolding fault_after fault_with
fault_after-is kind before line = refl

pub too_long : (kind : FileKind) (before : List (List ℕ)) (line : List ℕ) → file_limit kind < length (joined before) + length line → fault_after kind before line ≡ Some (fault_on kind (length before + 1) FileTooLong)
too_long kind before line h = fault_after-is kind before line ∙ rw (lt-ltb (file_limit kind) (length (joined before) + length line) h) refl

pub within : (kind : FileKind) (before : List (List ℕ)) (line : List ℕ) → length (joined before) + length line ≤ file_limit kind
    → fault_after kind before line ≡ option_map (fault_on kind (length before + 1)) (cause_of kind (opened kind before) (read kind (length before + 1) line))
within kind before line h = fault_after-is kind before line ∙ rw (le-ltb (file_limit kind) (length (joined before) + length line) h) refl

none_within : (kind : FileKind) (before : List (List ℕ)) (line : List ℕ) → fault_after kind before line ≡ None → length (joined before) + length line ≤ file_limit kind
none_within kind before line e = elim (cases_lt (file_limit kind) (length (joined before) + length line)) [
  | inl h ↦ let none : Some (fault_on kind (length before + 1) FileTooLong) ≡ None = sym (too_long kind before line h) ∙ e in absurd cc
  | inr h ↦ h
]

-- ## Along the lines

pub first-nil : (kind : FileKind) (before : List (List ℕ)) → first_fault kind before [] ≡ None
unfolding first_fault
first-nil kind before = refl

pub first-cons : (kind : FileKind) (before : List (List ℕ)) (line : List ℕ) (lines : List (List ℕ)) → first_fault kind before (line ∷ lines) ≡ or_else (fault_after kind before line) (first_fault kind (before ++ line ∷ []) lines)
unfolding first_fault
first-cons kind before line lines = refl

or_else_assoc : {A : Type 0} (x y z : Option A) → or_else (or_else x y) z ≡ or_else x (or_else y z)
or_else_assoc None y z = refl
or_else_assoc (Some a) y z = refl

or_else-none : {A : Type 0} (x : Option A) → or_else x None ≡ x
or_else-none None = refl
or_else-none (Some a) = refl

pub first-append : (kind : FileKind) (before xs ys : List (List ℕ)) → first_fault kind before (xs ++ ys) ≡ or_else (first_fault kind before xs) (first_fault kind (before ++ xs) ys)
first-append kind before [] ys = rw (first-nil kind before, append-nil before) refl
first-append kind before (x ∷ xs) ys =
    rw (first-cons kind before x (xs ++ ys), first-cons kind before x xs, first-append kind (before ++ x ∷ []) xs ys, append_assoc before (x ∷ []) xs)
    (sym (or_else_assoc (fault_after kind before x) (first_fault kind (before ++ x ∷ []) xs) (first_fault kind (before ++ x ∷ xs) ys)))

pub first-one : (kind : FileKind) (before : List (List ℕ)) (line : List ℕ) → first_fault kind before (line ∷ []) ≡ fault_after kind before line
first-one kind before line = rw (first-cons kind before line [], first-nil kind (before ++ line ∷ [])) (or_else-none (fault_after kind before line))

faultless-nil : (kind : FileKind) (before : List (List ℕ)) → faultless kind before [] ≡ before
unfolding faultless
faultless-nil kind before = refl

faultless-cons : (kind : FileKind) (before : List (List ℕ)) (line : List ℕ) (lines : List (List ℕ)) → faultless kind before (line ∷ lines) ≡ cond (is_some (fault_after kind before line)) before (faultless kind (before ++ line ∷ []) lines)
unfolding faultless
faultless-cons kind before line lines = refl

pub faultless-fault : (kind : FileKind) (before : List (List ℕ)) (line : List ℕ) (lines : List (List ℕ)) (f : Fault) → fault_after kind before line ≡ Some f → faultless kind before (line ∷ lines) ≡ before
faultless-fault kind before line lines f e = faultless-cons kind before line lines ∙ rw e refl

-- where there is no fault, all lines are faultless, and further ones follow them
pub faultless-none : (kind : FileKind) (before xs ys : List (List ℕ)) → first_fault kind before xs ≡ None → faultless kind before (xs ++ ys) ≡ faultless kind (before ++ xs) ys
faultless-none kind before [] ys e = rw (append-nil before) refl
faultless-none kind before (x ∷ xs) ys e = go (fault_after kind before x) refl
    (λ rest. faultless-none kind (before ++ x ∷ []) xs ys rest)
  where
    go : (o : Option Fault) → fault_after kind before x ≡ o → (first_fault kind (before ++ x ∷ []) xs ≡ None → faultless kind (before ++ x ∷ []) (xs ++ ys) ≡ faultless kind ((before ++ x ∷ []) ++ xs) ys)
        → faultless kind before (x ∷ (xs ++ ys)) ≡ faultless kind (before ++ x ∷ xs) ys
    go None f ih =
        let rest : first_fault kind (before ++ x ∷ []) xs ≡ None = ap (λ (p : Option Fault). or_else p (first_fault kind (before ++ x ∷ []) xs)) (sym f) ∙ sym (first-cons kind before x xs) ∙ e in
        faultless-cons kind before x (xs ++ ys) ∙ rw f (ih rest ∙ ap (λ (zs : List (List ℕ)). faultless kind zs ys) (append_assoc before (x ∷ []) xs))
    go (Some a) f ih =
        let none : Some a ≡ None = ap (λ (p : Option Fault). or_else p (first_fault kind (before ++ x ∷ []) xs)) (sym f) ∙ sym (first-cons kind before x xs) ∙ e in
        absurd cc

-- where there is a fault, further lines change nothing
pub faultless-some : (kind : FileKind) (before xs ys : List (List ℕ)) (f : Fault) → first_fault kind before xs ≡ Some f → faultless kind before (xs ++ ys) ≡ faultless kind before xs
faultless-some kind before [] ys f e = let none : None ≡ Some f = sym (first-nil kind before) ∙ e in absurd cc
faultless-some kind before (x ∷ xs) ys f e = go (fault_after kind before x) refl
    (λ rest. faultless-some kind (before ++ x ∷ []) xs ys f rest)
  where
    go : (o : Option Fault) → fault_after kind before x ≡ o → (first_fault kind (before ++ x ∷ []) xs ≡ Some f → faultless kind (before ++ x ∷ []) (xs ++ ys) ≡ faultless kind (before ++ x ∷ []) xs)
        → faultless kind before (x ∷ (xs ++ ys)) ≡ faultless kind before (x ∷ xs)
    go None g ih =
        let rest : first_fault kind (before ++ x ∷ []) xs ≡ Some f = ap (λ (p : Option Fault). or_else p (first_fault kind (before ++ x ∷ []) xs)) (sym g) ∙ sym (first-cons kind before x xs) ∙ e in
        rw (faultless-cons kind before x (xs ++ ys), faultless-cons kind before x xs, g) (ih rest)
    go (Some a) g ih = faultless-fault kind before x (xs ++ ys) a g ∙ sym (faultless-fault kind before x xs a g)

pub faultless-all : (kind : FileKind) (xs : List (List ℕ)) → first_fault kind [] xs ≡ None → faultless kind [] xs ≡ xs
faultless-all kind xs e = ap (faultless kind []) (sym (append-nil xs)) ∙ faultless-none kind [] xs [] e ∙ faultless-nil kind xs

-- the faultless lines begin with those that came before
faultless_begins : (kind : FileKind) (before xs : List (List ℕ)) → (more : List (List ℕ)) × (faultless kind before xs ≡ before ++ more)
faultless_begins kind before [] = ([], faultless-nil kind before ∙ sym (append-nil before))
faultless_begins kind before (x ∷ xs) = go (fault_after kind before x) refl (faultless_begins kind (before ++ x ∷ []) xs)
  where
    go : (o : Option Fault) → fault_after kind before x ≡ o → ((more : List (List ℕ)) × (faultless kind (before ++ x ∷ []) xs ≡ (before ++ x ∷ []) ++ more)) → (more : List (List ℕ)) × (faultless kind before (x ∷ xs) ≡ before ++ more)
    go None e ih = (x ∷ ih.0, faultless-cons kind before x xs ∙ rw e (ih.1 ∙ append_assoc before (x ∷ []) ih.0))
    go (Some a) e ih = ([], faultless-fault kind before x xs a e ∙ sym (append-nil before))

-- lines without a fault are within the limit
first_within : (kind : FileKind) (before xs : List (List ℕ)) → length (joined before) ≤ file_limit kind → first_fault kind before xs ≡ None → length (joined (before ++ xs)) ≤ file_limit kind
first_within kind before [] h e = rw (append-nil before) h
first_within kind before (x ∷ xs) h e = go (fault_after kind before x) refl (λ long rest. first_within kind (before ++ x ∷ []) xs long rest)
  where
    go : (o : Option Fault) → fault_after kind before x ≡ o → (length (joined (before ++ x ∷ [])) ≤ file_limit kind → first_fault kind (before ++ x ∷ []) xs ≡ None → length (joined ((before ++ x ∷ []) ++ xs)) ≤ file_limit kind)
        → length (joined (before ++ x ∷ xs)) ≤ file_limit kind
    go None f ih =
        let rest : first_fault kind (before ++ x ∷ []) xs ≡ None = ap (λ (p : Option Fault). or_else p (first_fault kind (before ++ x ∷ []) xs)) (sym f) ∙ sym (first-cons kind before x xs) ∙ e in
        let size : length (joined (before ++ x ∷ [])) ≡ length (joined before) + length x = joined_push before x in
        let P : List (List ℕ) → Type 0 = λ zs. length (joined zs) ≤ file_limit kind in
        let long = none_within kind before x f in
        subst P (append_assoc before (x ∷ []) xs) (ih (omega arith) rest)
      where
        joined_push : (ls : List (List ℕ)) (l : List ℕ) → length (joined (ls ++ l ∷ [])) ≡ length (joined ls) + length l
        joined_push ls l = ap length (flat_map-append (λ (y : List ℕ). y) ls (l ∷ [])) ∙ length-append (joined ls) (l ++ []) ∙ ap (λ (ys : List ℕ). length (joined ls) + length ys) (append-nil l)
    go (Some a) f ih =
        let none : Some a ≡ None = ap (λ (p : Option Fault). or_else p (first_fault kind (before ++ x ∷ []) xs)) (sym f) ∙ sym (first-cons kind before x xs) ∙ e in
        absurd cc

pub faultless_within : (kind : FileKind) (xs : List (List ℕ)) → first_fault kind [] xs ≡ None → length (joined xs) ≤ file_limit kind
faultless_within kind xs e = first_within kind [] xs (omega arith) e

-- ## Streams

sure-is : (kind : FileKind) (s : List ℕ) → sure_fault kind s ≡ or_else (first_fault kind [] (ended s)) (cond (nat_lt (file_limit kind) (length s)) (Some (fault_on kind (length (ended s) + 1) FileTooLong)) None)
unfolding sure_fault
sure-is kind s = refl

pub lexical-is : (kind : FileKind) (s : List ℕ) → lexical kind s ≡ first_fault kind [] (physical s)
unfolding lexical
lexical-is kind s = refl

pub so_far-is : (kind : FileKind) (s : List ℕ) → closed_so_far kind s ≡ closed kind (faultless kind [] (ended s))
unfolding closed_so_far
so_far-is kind s = refl

at_end-is : (kind : FileKind) (s : List ℕ) → closed_at_end kind s ≡ lines_unless (lexical kind s) (lines kind s) (closed kind (faultless kind [] (physical s)))
unfolding closed_at_end
at_end-is kind s = refl

lines-is : (kind : FileKind) (s : List ℕ) → lines kind s ≡ map line_of (logical kind (physical s))
unfolding lines
lines-is kind s = refl

-- a sure fault stands at a line that has ended, or the open line passes the limit
data Sure (kind : FileKind) (s : List ℕ) (f : Fault) : Type 0 where
  At_ended : first_fault kind [] (ended s) ≡ Some f → Sure kind s f
  At_limit : first_fault kind [] (ended s) ≡ None → file_limit kind < length s → f ≡ fault_on kind (length (ended s) + 1) FileTooLong → Sure kind s f

sure_cases : (kind : FileKind) (s : List ℕ) (f : Fault) → sure_fault kind s ≡ Some f → Sure kind s f
sure_cases kind s f e = go (first_fault kind [] (ended s)) refl (nat_lt (file_limit kind) (length s)) refl
  where
    go : (o : Option Fault) → first_fault kind [] (ended s) ≡ o → (b : Bool) → nat_lt (file_limit kind) (length s) ≡ b → Sure kind s f
    go (Some a) g b h = At_ended (g ∙ (ap (λ (o : Option Fault). or_else o (cond (nat_lt (file_limit kind) (length s)) (Some (fault_on kind (length (ended s) + 1) FileTooLong)) None)) (sym g) ∙ sym (sure-is kind s) ∙ e))
    go None g true h =
        let at : Some (fault_on kind (length (ended s) + 1) FileTooLong) ≡ Some f = sym (sure-is kind s ∙ rw (g, h) refl) ∙ e in
        At_limit g (ltb-true (file_limit kind) (length s) h) cc
    go None g false h = let none : None ≡ Some f = sym (sure-is kind s ∙ rw (g, h) refl) ∙ e in absurd cc

pub sure_none : (kind : FileKind) (s : List ℕ) → sure_fault kind s ≡ None → (first_fault kind [] (ended s) ≡ None) × (length s ≤ file_limit kind)
sure_none kind s e = go (first_fault kind [] (ended s)) refl (nat_lt (file_limit kind) (length s)) refl
  where
    go : (o : Option Fault) → first_fault kind [] (ended s) ≡ o → (b : Bool) → nat_lt (file_limit kind) (length s) ≡ b → (first_fault kind [] (ended s) ≡ None) × (length s ≤ file_limit kind)
    go (Some a) g b h = let none : Some a ≡ None = ap (λ (o : Option Fault). or_else o (cond (nat_lt (file_limit kind) (length s)) (Some (fault_on kind (length (ended s) + 1) FileTooLong)) None)) (sym g) ∙ sym (sure-is kind s) ∙ e in absurd cc
    go None g true h = let none : Some (fault_on kind (length (ended s) + 1) FileTooLong) ≡ None = sym (sure-is kind s ∙ rw (g, h) refl) ∙ e in absurd cc
    go None g false h = (g, ltb-false (file_limit kind) (length s) h)

pub sure_from_none : (kind : FileKind) (s : List ℕ) → first_fault kind [] (ended s) ≡ None → length s ≤ file_limit kind → sure_fault kind s ≡ None
sure_from_none kind s e h = sure-is kind s ∙ rw (e, le-ltb (file_limit kind) (length s) h) refl

pub sure_from_ended : (kind : FileKind) (s : List ℕ) (f : Fault) → first_fault kind [] (ended s) ≡ Some f → sure_fault kind s ≡ Some f
sure_from_ended kind s f e = sure-is kind s ∙ rw e refl

pub sure_from_limit : (kind : FileKind) (s : List ℕ) → first_fault kind [] (ended s) ≡ None → file_limit kind < length s → sure_fault kind s ≡ Some (fault_on kind (length (ended s) + 1) FileTooLong)
sure_from_limit kind s e h = sure-is kind s ∙ rw (e, lt-ltb (file_limit kind) (length s) h) refl

-- what the lines after these bytes say, where the open line has passed the limit
past_line : (kind : FileKind) (es : List (List ℕ)) (line : List ℕ) (ls : List (List ℕ)) → file_limit kind < length (joined es) + length line
    → (first_fault kind es (line ∷ ls) ≡ Some (fault_on kind (length es + 1) FileTooLong)) × (faultless kind es (line ∷ ls) ≡ es)
past_line kind es line ls h =
    let at = too_long kind es line h in
    (first-cons kind es line ls ∙ rw at refl, faultless-fault kind es line ls (fault_on kind (length es + 1) FileTooLong) at)

record Fixed (kind : FileKind) (s t : List ℕ) (f : Fault) : Type 0 where
  sure : sure_fault kind (s ++ t) ≡ Some f
  whole : lexical kind (s ++ t) ≡ Some f
  closed_same : closed_so_far kind (s ++ t) ≡ closed_so_far kind s
  closed_end : closed_at_end kind (s ++ t) ≡ closed_so_far kind s

-- from facts on the lines that have ended and on the lines of the whole
fixed_by : (kind : FileKind) (s t : List ℕ) (f : Fault) → sure_fault kind (s ++ t) ≡ Some f → first_fault kind [] (physical (s ++ t)) ≡ Some f
    → faultless kind [] (ended (s ++ t)) ≡ faultless kind [] (ended s) → faultless kind [] (physical (s ++ t)) ≡ faultless kind [] (ended s) → Fixed kind s t f
fixed_by kind s t f a b c d =
    let whole : lexical kind (s ++ t) ≡ Some f = lexical-is kind (s ++ t) ∙ b in
    record {
      sure = a;
      whole = whole;
      closed_same = so_far-is kind (s ++ t) ∙ ap (closed kind) c ∙ sym (so_far-is kind s);
      closed_end = at_end-is kind (s ++ t) ∙ ap (λ (o : Option Fault). lines_unless o (lines kind (s ++ t)) (closed kind (faultless kind [] (physical (s ++ t))))) whole ∙ ap (closed kind) d ∙ sym (so_far-is kind s);
    }

fixed_ended : (kind : FileKind) (s t : List ℕ) (f : Fault) → first_fault kind [] (ended s) ≡ Some f → Fixed kind s t f
fixed_ended kind s t f e =
    let more : List (List ℕ) = ended (open_rest s ++ t) in
    let last : List (List ℕ) = physical (open_rest s ++ t) in
    let first : first_fault kind [] (ended (s ++ t)) ≡ Some f = rw (ended-append s t, first-append kind [] (ended s) more, e) refl in
    fixed_by kind s t f
    (sure_from_ended kind (s ++ t) f first)
    (rw (physical-append s t, first-append kind [] (ended s) last, e) refl)
    (rw (ended-append s t) (faultless-some kind [] (ended s) more f e))
    (rw (physical-append s t) (faultless-some kind [] (ended s) last f e))

-- some bytes without an LF are one physical line, and with one their first line ends there
record Begins (u : List ℕ) (rest : List ℕ) : Type 0 where
  line : List ℕ
  later : List (List ℕ)
  is : physical u ≡ line ∷ later
  long : length rest ≤ length line

line_if_some : (u : List ℕ) → 0 < length u → line_if_any u ≡ u ∷ []
line_if_some [] h = absurd (omega arith)
line_if_some (x ∷ xs) h = refl

fixed_none : (kind : FileKind) (s t : List ℕ) → first_fault kind [] (ended s) ≡ None → file_limit kind < length s → NoFeed t → Fixed kind s t (fault_on kind (length (ended s) + 1) FileTooLong)
fixed_none kind s t e h none =
    let u : List ℕ = open_rest s ++ t in
    let no_feed : NoFeed u = no_feed-append (open_rest s) t (rest_no_feed s) none in
    let same : ended (s ++ t) ≡ ended s = ended-append s t ∙ rw (ended-none u no_feed) (append-nil (ended s)) in
    let size = length_stream s in
    let fits = faultless_within kind (ended s) e in
    let long : length u ≡ length (open_rest s) + length t = length-append (open_rest s) t in
    let whole_long : length (s ++ t) ≡ length s + length t = length-append s t in
    let only : physical u ≡ u ∷ [] = physical_of u ∙ rw (ended-none u no_feed, rest-none u no_feed) (line_if_some u (omega arith)) in
    let past = past_line kind (ended s) u [] (omega arith) in
    let physical_is : physical (s ++ t) ≡ ended s ++ u ∷ [] = physical-append s t ∙ ap (λ (ls : List (List ℕ)). ended s ++ ls) only in
    let first : first_fault kind [] (ended (s ++ t)) ≡ None = ap (first_fault kind []) same ∙ e in
    fixed_by kind s t (fault_on kind (length (ended s) + 1) FileTooLong)
    (sure_from_limit kind (s ++ t) first (omega arith) ∙ ap (λ (ls : List (List ℕ)). Some (fault_on kind (length ls + 1) FileTooLong)) same)
    (rw (physical_is, first-append kind [] (ended s) (u ∷ []), e) past.0)
    (ap (faultless kind []) same)
    (rw physical_is (faultless-none kind [] (ended s) (u ∷ []) e ∙ past.1 ∙ sym (faultless-all kind (ended s) e)))

fixed_some : (kind : FileKind) (s q r : List ℕ) → first_fault kind [] (ended s) ≡ None → file_limit kind < length s → NoFeed q → Fixed kind s (q ++ 10 ∷ r) (fault_on kind (length (ended s) + 1) FileTooLong)
fixed_some kind s q r e h none =
    let t : List ℕ = q ++ 10 ∷ r in
    let line : List ℕ = (open_rest s ++ q) ++ 10 ∷ [] in
    let no_feed : NoFeed (open_rest s ++ q) = no_feed-append (open_rest s) q (rest_no_feed s) none in
    let cut : open_rest s ++ t ≡ (open_rest s ++ q) ++ 10 ∷ r = sym (append_assoc (open_rest s) q (10 ∷ r)) in
    let size = length_stream s in
    let long : length line ≡ length (open_rest s) + length q + 1 = length-append (open_rest s ++ q) (10 ∷ []) ∙ ap (λ (n : ℕ). n + 1) (length-append (open_rest s) q) in
    let ended_is : ended (s ++ t) ≡ ended s ++ line ∷ ended r = ended-append s t ∙ rw (cut, ended-line (open_rest s ++ q) r no_feed) refl in
    let physical_is : physical (s ++ t) ≡ ended s ++ line ∷ physical r = physical-append s t ∙ rw (cut, physical_of ((open_rest s ++ q) ++ 10 ∷ r), ended-line (open_rest s ++ q) r no_feed, rest-line (open_rest s ++ q) r, physical_of r) refl in
    let past = past_line kind (ended s) line (ended r) (omega arith) in
    let past_all = past_line kind (ended s) line (physical r) (omega arith) in
    let all = faultless-all kind (ended s) e in
    fixed_by kind s t (fault_on kind (length (ended s) + 1) FileTooLong)
    (sure_from_ended kind (s ++ t) (fault_on kind (length (ended s) + 1) FileTooLong) (rw (ended_is, first-append kind [] (ended s) (line ∷ ended r), e) past.0))
    (rw (physical_is, first-append kind [] (ended s) (line ∷ physical r), e) past_all.0)
    (rw ended_is (faultless-none kind [] (ended s) (line ∷ ended r) e ∙ past.1 ∙ sym all))
    (rw physical_is (faultless-none kind [] (ended s) (line ∷ physical r) e ∙ past_all.1 ∙ sym all))

fixed : (kind : FileKind) (s t : List ℕ) (f : Fault) → Sure kind s f → Fixed kind s t f
fixed kind s t f (At_ended e) = fixed_ended kind s t f e
fixed kind s t f (At_limit e h is) = elim (cases_Bool (list_any is_line_feed t)) [
  | inl some_feed ↦
      let c = first_feed t some_feed in
      let P : List ℕ → Type 0 = λ u. Fixed kind s u f in
      let Q : Fault → Type 0 = λ g. Fixed kind s (c.0 ++ 10 ∷ c.1) g in
      subst P (sym c.2) (subst Q (sym is) (fixed_some kind s c.0 c.1 e h c.3))
  | inr none ↦ let Q : Fault → Type 0 = λ g. Fixed kind s t g in subst Q (sym is) (fixed_none kind s t e h none)
]

pub sure-append : (kind : FileKind) (s t : List ℕ) (f : Fault) → sure_fault kind s ≡ Some f → sure_fault kind (s ++ t) ≡ Some f
sure-append kind s t f e = (fixed kind s t f (sure_cases kind s f e)).sure

-- a sure fault is the first fault of every file that begins so, and no line is closed after it
pub decided-append : (kind : FileKind) (s t : List ℕ) (f : Fault) → sure_fault kind s ≡ Some f → (lexical kind (s ++ t) ≡ Some f) × (closed_at_end kind (s ++ t) ≡ closed_so_far kind s)
decided-append kind s t f e = let x = fixed kind s t f (sure_cases kind s f e) in (x.whole, x.closed_end)

pub so_far-append : (kind : FileKind) (s t : List ℕ) (f : Fault) → sure_fault kind s ≡ Some f → closed_so_far kind (s ++ t) ≡ closed_so_far kind s
so_far-append kind s t f e = (fixed kind s t f (sure_cases kind s f e)).closed_same

pub at_end-sure : (kind : FileKind) (s : List ℕ) (f : Fault) → sure_fault kind s ≡ Some f → (lexical kind s ≡ Some f) × (closed_at_end kind s ≡ closed_so_far kind s)
at_end-sure kind s f e =
    let x = fixed kind s [] f (sure_cases kind s f e) in
    let P : List ℕ → Type 0 = λ u. (lexical kind u ≡ Some f) × (closed_at_end kind u ≡ closed_so_far kind s) in
    subst P (append-nil s) (x.whole, x.closed_end)

-- closed lines stay closed
pub so_far_stays : (kind : FileKind) (s t : List ℕ) → (more : List Line) × (closed_so_far kind (s ++ t) ≡ closed_so_far kind s ++ more)
so_far_stays kind s t = go (first_fault kind [] (ended s)) refl
  where
    go : (o : Option Fault) → first_fault kind [] (ended s) ≡ o → (more : List Line) × (closed_so_far kind (s ++ t) ≡ closed_so_far kind s ++ more)
    go None e =
        let more = faultless_begins kind (ended s) (ended (open_rest s ++ t)) in
        let stay = closed_stay kind (ended s) more.0 in
        let all : faultless kind [] (ended (s ++ t)) ≡ ended s ++ more.0 = rw (ended-append s t) (faultless-none kind [] (ended s) (ended (open_rest s ++ t)) e ∙ more.1) in
        (stay.0, so_far-is kind (s ++ t) ∙ ap (closed kind) all ∙ stay.1 ∙ ap (λ (ls : List (List ℕ)). closed kind ls ++ stay.0) (sym (faultless-all kind (ended s) e)) ∙ ap (λ (ls : List Line). ls ++ stay.0) (sym (so_far-is kind s)))
    go (Some f) e = ([], so_far-append kind s t f (sure_from_ended kind s f e) ∙ sym (append-nil (closed_so_far kind s)))

-- and at the end
pub at_end_stays : (kind : FileKind) (s : List ℕ) → (more : List Line) × (closed_at_end kind s ≡ closed_so_far kind s ++ more)
at_end_stays kind s = go (first_fault kind [] (ended s)) refl
  where
    begins : (o : Option Fault) → lexical kind s ≡ o → first_fault kind [] (ended s) ≡ None → (more : List Line) × (closed_at_end kind s ≡ closed kind (ended s) ++ more)
    begins None w e =
        let last : List (List ℕ) = line_if_any (open_rest s) in
        let stay = closed_stay kind (ended s) last in
        let final : List Line = option_to_list (option_map (λ (l : Logical). l.line) (opened kind (ended s ++ last))) in (
          stay.0 ++ final,
          at_end-is kind s ∙ ap (λ (o : Option Fault). lines_unless o (lines kind s) (closed kind (faultless kind [] (physical s)))) w
              ∙ lines-is kind s ∙ ap (λ (ls : List (List ℕ)). map line_of (logical kind ls)) (physical_of s) ∙ all_lines kind (ended s ++ last) ∙ ap (λ (ls : List Line). ls ++ final) stay.1 ∙ append_assoc (closed kind (ended s)) stay.0 final,
        )
    begins (Some f) w e =
        let last : List (List ℕ) = line_if_any (open_rest s) in
        let more = faultless_begins kind (ended s) last in
        let stay = closed_stay kind (ended s) more.0 in (
          stay.0,
          at_end-is kind s ∙ ap (λ (o : Option Fault). lines_unless o (lines kind s) (closed kind (faultless kind [] (physical s)))) w
              ∙ ap (λ (ls : List (List ℕ)). closed kind (faultless kind [] ls)) (physical_of s) ∙ ap (closed kind) (faultless-none kind [] (ended s) last e ∙ more.1) ∙ stay.1,
        )

    go : (o : Option Fault) → first_fault kind [] (ended s) ≡ o → (more : List Line) × (closed_at_end kind s ≡ closed_so_far kind s ++ more)
    go None e =
        let b = begins (lexical kind s) refl e in
        (b.0, b.1 ∙ ap (λ (ls : List (List ℕ)). closed kind ls ++ b.0) (sym (faultless-all kind (ended s) e)) ∙ ap (λ (ls : List Line). ls ++ b.0) (sym (so_far-is kind s)))
    go (Some f) e = ([], (at_end-sure kind s f (sure_from_ended kind s f e)).1 ∙ sym (append-nil (closed_so_far kind s)))

-- what is closed where there is no sure fault
pub so_far-none : (kind : FileKind) (s : List ℕ) → first_fault kind [] (ended s) ≡ None → closed_so_far kind s ≡ closed kind (ended s)
so_far-none kind s e = so_far-is kind s ∙ ap (closed kind) (faultless-all kind (ended s) e)

-- what is closed at the end of a file without a fault, and of one with a fault
pub at_end-none : (kind : FileKind) (s : List ℕ) → lexical kind s ≡ None → closed_at_end kind s ≡ map line_of (logical kind (physical s))
at_end-none kind s e = at_end-is kind s ∙ ap (λ (o : Option Fault). lines_unless o (lines kind s) (closed kind (faultless kind [] (physical s)))) e ∙ lines-is kind s

pub at_end-fault : (kind : FileKind) (s : List ℕ) (f : Fault) → lexical kind s ≡ Some f → closed_at_end kind s ≡ closed kind (faultless kind [] (physical s))
at_end-fault kind s f e = at_end-is kind s ∙ ap (λ (o : Option Fault). lines_unless o (lines kind s) (closed kind (faultless kind [] (physical s)))) e
