-- Texts that are put one behind another, and what the sink has of them.
use Rattle.std.proofs.Common.{◌≡◌, ℕ, ◌+◌, ◌-◌, ◌≤◌, List, [], ◌∷◌, ◌++◌, ◌<◌, length, take, drop, get_or, Option, Some, None, refl, sym, ap, subst, ◌∙◌, append_assoc, length-drop, arith}
use Rattle.std.specs.Prelude.{Result, Ok, Err}
use Rattle.std.specs.Io.KnownBytes.{append_known}
use Rattle.std.proofs.lemmas.List.{append-nil, take_all, take-append-drop, take_more}
use Rattle.std.specs.List.{flat_map}
use Rattle.std.proofs.lemmas.List.Concat.{flat_map-append}
use Rattle.std.proofs.Math.Seq.{take-add}
use Rattle.cvc_io.specs.Causes.{Rose, HasCause}
use Rattle.cvc_io.specs.Bytes.{WritesPart, WritesText}
use Rattle.cvc_io.specs.declared.error.WriteFailed.{WriteFailed}
use Rattle.cvc_text.specs.Lines.{line_end, line}
use Rattle.cvc_text.specs.Putting.{Stand, stand, Puts, HasPut}

twice_known : (before : Option (List ℕ)) (x y : List ℕ) → append_known (append_known before x) y ≡ append_known before (x ++ y)
twice_known None x y = refl
twice_known (Some l) x y = ap Some (append_assoc l x y)

no_more : (before : Option (List ℕ)) → before ≡ append_known before []
no_more None = refl
no_more (Some l) = ap Some (sym (append-nil l))

both_written : (a b c : Option (List ℕ)) (t u : List ℕ) → b ≡ append_known a t → c ≡ append_known b u → c ≡ append_known a (t ++ u)
both_written a b c t u first second = second ∙ ap (λ (o : Option (List ℕ)). append_known o u) first ∙ twice_known a t u

both_whole : (w x y t v u l : List ℕ) → w ++ x ≡ t ++ v → v ++ y ≡ u ++ l → w ++ (x ++ y) ≡ (t ++ u) ++ l
both_whole w x y t v u l first second = sym (append_assoc w x y) ∙ ap (λ (z : List ℕ). z ++ y) first ∙ append_assoc t v y ∙ ap (λ (z : List ℕ). t ++ z) second ∙ sym (append_assoc t u l)

later_cause : {T E : Type 0} (r : Result T E) (a b c : ℕ) → a ≤ b → HasCause b c r → HasCause a c r
later_cause (Ok v) a b c later cause = record { later = omega (arith, later, cause.later); failed = tt }
later_cause (Err e) a b c later cause = record { later = omega (arith, later, cause.later); failed = let rose : Rose b c = cause.failed in omega (arith, later, rose) }

-- ## One text behind another

pub puts_then : {T E U F : Type 0} (v : T) (r : Result U F) (a b c : Stand) (x y : List ℕ) → Puts {T = T} {E = E} (Ok v) a b x → Puts r b c y → Puts r a c (x ++ y)
puts_then v r a b c x y first second = record {
  taken = first.taken ++ second.taken;
  rest = second.rest;
  whole = both_whole a.waiting x y first.taken b.waiting second.taken second.rest (first.whole ∙ ap (λ (l : List ℕ). first.taken ++ l) (sym first.waiting)) second.whole;
  written = both_written a.written b.written c.written first.taken second.taken first.written second.written;
  waiting = second.waiting;
  cause = later_cause r a.faults b.faults c.faults first.cause.later second.cause;
}

pub puts_stopped : {T E U F : Type 0} (e : E) (f : F) (a b : Stand) (x y : List ℕ) → Puts {T = T} {E = E} (Err e) a b x → Puts {T = U} {E = F} (Err f) a b (x ++ y)
puts_stopped e f a b x y first = record {
  taken = first.taken;
  rest = first.rest ++ y;
  whole = sym (append_assoc a.waiting x y) ∙ ap (λ (z : List ℕ). z ++ y) first.whole ∙ append_assoc first.taken first.rest y;
  written = first.written;
  waiting = first.waiting;
  cause = record { later = first.cause.later; failed = first.cause.failed };
}

-- one more piece was taken
pub written_more : (text : List ℕ) (done count : ℕ) (before so_far after : Option (List ℕ)) → so_far ≡ append_known before (take done text) → after ≡ append_known so_far (take count (take (length text - done) (drop done text))) → after ≡ append_known before (take (done + count) text)
written_more text done count before so_far after e new =
    let whole : take (length text - done) (drop done text) ≡ drop done text = take_all (length text - done) (drop done text) (omega (arith, length-drop done text)) in
    new ∙ ap (λ (l : List ℕ). append_known so_far (take count l)) whole ∙ ap (λ (o : Option (List ℕ)). append_known o (take count (drop done text))) e ∙ twice_known before (take done text) (take count (drop done text)) ∙ ap (append_known before) (sym (take-add done count text))

-- a part is written where what is taken is the front of the text
pub part_front : (text : List ℕ) (done : ℕ) (before after : Option (List ℕ)) → after ≡ append_known before (take done text) → WritesPart before after text
part_front text done before after e = record { part = take done text; rest = drop done text; whole = sym (take-append-drop done text); written = e }

-- whatever the answer was
pub as_put : (v : Unit {0}) (a b : Stand) (x : List ℕ) → Puts {E = WriteFailed} (Ok v) a b x → HasPut a b x
as_put v a b x put = record { taken = put.taken; rest = put.rest; whole = put.whole; written = put.written; waiting = put.waiting; cause = record { later = put.cause.later; failed = tt } }

pub as_stopped : (e f : WriteFailed) (a b : Stand) (x : List ℕ) → Puts {T = Unit {0}} (Err e) a b x → Puts {T = Unit {0}} (Err f) a b x
as_stopped e f a b x put = record { taken = put.taken; rest = put.rest; whole = put.whole; written = put.written; waiting = put.waiting; cause = record { later = put.cause.later; failed = put.cause.failed } }

-- nothing is put
pub nothing_put : (a : Stand) → HasPut a a []
nothing_put a = record { taken = []; rest = a.waiting; whole = append-nil a.waiting; written = no_more a.written; waiting = refl; cause = record { later = omega arith; failed = tt } }

-- ## What the sink has

-- what is written with all that waits before it was put, and nothing waits
pub written_put : {E : Type 0} (r : Result (Unit {0}) E) (before after : Option (List ℕ)) (early late : ℕ) (waiting text all : List ℕ) → waiting ++ text ≡ all → WritesText before after r all → HasCause early late r → Puts r (stand before waiting early) (stand after [] late) text
written_put (Ok v) before after early late waiting text all whole written cause = record {
  taken = all;
  rest = [];
  whole = whole ∙ sym (append-nil all);
  written = written;
  waiting = refl;
  cause = cause;
}
written_put (Err e) before after early late waiting text all whole written cause = record {
  taken = written.part;
  rest = written.rest;
  whole = whole ∙ written.whole;
  written = written.written;
  waiting = refl;
  cause = cause;
}

-- a front of what was put where a write failed
pub put_failed : {T E : Type 0} (e : E) (a b : Stand) (text : List ℕ) → a.waiting ≡ [] → Puts {T = T} {E = E} (Err e) a b text → WritesPart a.written b.written text
put_failed e a b text empty put = record {
  part = put.taken;
  rest = put.rest;
  whole = ap (λ (l : List ℕ). l ++ text) (sym empty) ∙ put.whole;
  written = put.written;
}

-- a text that is put and flushed is written
flushed_by : {E : Type 0} (r : Result (Unit {0}) E) (a b after : Option (List ℕ)) (taken waiting text : List ℕ) → text ≡ taken ++ waiting → b ≡ append_known a taken → WritesText b after r waiting → WritesText a after r text
flushed_by (Ok v) a b after taken waiting text whole before written = both_written a b after taken waiting before written ∙ ap (append_known a) (sym whole)
flushed_by (Err e) a b after taken waiting text whole before written = record {
  part = taken ++ written.part;
  rest = written.rest;
  whole = whole ∙ ap (λ (l : List ℕ). taken ++ l) written.whole ∙ sym (append_assoc taken written.part written.rest);
  written = both_written a b after taken written.part before written.written;
}

pub put_flushed : {T E F : Type 0} (v : T) (r : Result (Unit {0}) F) (a b : Stand) (after : Option (List ℕ)) (text : List ℕ) → a.waiting ≡ [] → Puts {T = T} {E = E} (Ok v) a b text → WritesText b.written after r b.waiting → WritesText a.written after r text
put_flushed v r a b after text empty put flushed =
    flushed_by r a.written b.written after put.taken b.waiting text (ap (λ (l : List ℕ). l ++ text) (sym empty) ∙ put.whole ∙ ap (λ (l : List ℕ). put.taken ++ l) (sym put.waiting)) put.written flushed

-- ## Filling

rest_whole : (done : ℕ) (text : List ℕ) → take (length text - done) (drop done text) ≡ drop done text
rest_whole done text = take_all (length text - done) (drop done text) (omega (arith, length-drop done text))

pub put_inside : (text : List ℕ) (done count : ℕ) → done ≤ length text → count ≤ length (take (length text - done) (drop done text)) → done + count ≤ length text
put_inside text done count inside bound = omega (arith, inside, bound, ap length (rest_whole done text), length-drop done text)

-- a text that only waits
put_waiting : (written : Option (List ℕ)) (waiting text : List ℕ) (faults : ℕ) → HasPut (stand written waiting faults) (stand written (waiting ++ text) faults) text
put_waiting written waiting text faults = record { taken = []; rest = waiting ++ text; whole = refl; written = no_more written; waiting = refl; cause = record { later = omega arith; failed = tt } }

-- behind the room that was made one more piece of a text waits
pub put_piece : (v : Unit {0}) (a b : Stand) (written : Option (List ℕ)) (waiting filled : List ℕ) (faults : ℕ) (text : List ℕ) (done count : ℕ) → HasPut a b (take done text) → Puts {E = WriteFailed} (Ok v) b (stand written waiting faults) [] → filled ≡ waiting ++ take count (take (length text - done) (drop done text)) → HasPut a (stand written filled faults) (take (done + count) text)
put_piece v a b written waiting filled faults text done count before room more =
    let piece = take count (drop done text) in
    let on = puts_then {E = WriteFailed} tt (Ok v) a b (stand written waiting faults) (take done text) [] before room in
    let both = puts_then {E = WriteFailed} v (Ok tt) a (stand written waiting faults) (stand written (waiting ++ piece) faults) (take done text ++ []) piece on (put_waiting written waiting piece faults) in
    let texts : (take done text ++ []) ++ piece ≡ take (done + count) text = ap (λ (l : List ℕ). l ++ piece) (append-nil (take done text)) ∙ sym (take-add done count text) in
    let filled_is : waiting ++ piece ≡ filled = sym (more ∙ ap (λ (l : List ℕ). waiting ++ take count l) (rest_whole done text)) in
    let Q : List ℕ → Type 0 = λ w. HasPut a (stand written w faults) (take (done + count) text) in
    let R : List ℕ → Type 0 = λ l. HasPut a (stand written (waiting ++ piece) faults) l in
    subst Q filled_is (subst R texts both)

-- a text stopped between two pieces
pub put_stopped : (e f : WriteFailed) (a b c : Stand) (text : List ℕ) (done : ℕ) → HasPut a b (take done text) → Puts {T = Unit {0}} (Err e) b c [] → Puts {T = Unit {0}} (Err f) a c text
put_stopped e f a b c text done before stops =
    let P : List ℕ → Type 0 = λ l. Puts {T = Unit {0}} (Err f) a c l in
    let whole : (take done text ++ []) ++ drop done text ≡ text = ap (λ (l : List ℕ). l ++ drop done text) (append-nil (take done text)) ∙ take-append-drop done text in
    subst P whole (puts_stopped {T = Unit {0}} e f a c (take done text ++ []) (drop done text) (puts_then tt (Err e) a b c (take done text) [] before stops))

-- ## The texts of a list

one_more : {X : Type 0} (f : X → List ℕ) (xs : List X) (i : ℕ) (d : X) → i < length xs → flat_map f (take (i + 1) xs) ≡ flat_map f (take i xs) ++ f (get_or xs i d)
one_more f xs i d lt =
    let x = get_or xs i d in
    ap (flat_map f) (take_more xs i d lt) ∙ flat_map-append f (take i xs) (x ∷ []) ∙ ap (λ (l : List ℕ). flat_map f (take i xs) ++ l) (append-nil (f x))

-- one more item of a list was put
pub item_put : {X : Type 0} (f : X → List ℕ) (xs : List X) (i : ℕ) (x d : X) (v : Unit {0}) (a b c : Stand) → x ≡ get_or xs i d → i < length xs → HasPut a b (flat_map f (take i xs)) → Puts {E = WriteFailed} (Ok v) b c (f x) → HasPut a c (flat_map f (take (i + 1) xs))
item_put f xs i x d v a b c is lt before more =
    let P : List ℕ → Type 0 = λ l. HasPut a c l in
    let front = flat_map f (take i xs) in
    let both = puts_then {E = WriteFailed} tt (Ok v) a b c front (f x) before more in
    subst P (ap (λ y. front ++ f y) is ∙ sym (one_more f xs i d lt)) (as_put v a c (front ++ f x) both)

-- an item stopped the list
pub item_stopped : {X : Type 0} (f : X → List ℕ) (xs : List X) (i : ℕ) (x d : X) (e g : WriteFailed) (a b c : Stand) → x ≡ get_or xs i d → i < length xs → HasPut a b (flat_map f (take i xs)) → Puts {T = Unit {0}} (Err e) b c (f x) → Puts {T = Unit {0}} (Err g) a c (flat_map f xs)
item_stopped f xs i x d e g a b c is lt before stops =
    let P : List ℕ → Type 0 = λ l. Puts {T = Unit {0}} (Err g) a c l in
    let front = flat_map f (take i xs) in
    let rest = flat_map f (drop (i + 1) xs) in
    let whole : (front ++ f x) ++ rest ≡ flat_map f xs =
    ap (λ (l : List ℕ). l ++ rest) (ap (λ y. front ++ f y) is ∙ sym (one_more f xs i d lt)) ∙ sym (flat_map-append f (take (i + 1) xs) (drop (i + 1) xs)) ∙ ap (flat_map f) (take-append-drop (i + 1) xs) in
    subst P whole (puts_stopped {T = Unit {0}} e g a c (front ++ f x) rest (puts_then tt (Err e) a b c front (f x) before stops))

-- a line of a first word and others
pub line_put : {T E U F : Type 0} (v : T) (r : Result U F) (a b c : Stand) (words others : List (List ℕ)) (first : List ℕ) → words ≡ first ∷ others → Puts {T = T} {E = E} (Ok v) a b first → Puts r b c (line_end others) → Puts r a c (line words)
line_put {F = F} v r a b c words others first is before ending =
    let P : List (List ℕ) → Type 0 = λ l. Puts r a c (line l) in
    subst P (sym is) (puts_then v r a b c first (line_end others) before ending)

pub line_stopped : {T E U F : Type 0} (e : E) (f : F) (a b : Stand) (words others : List (List ℕ)) (first : List ℕ) → words ≡ first ∷ others → Puts {T = T} {E = E} (Err e) a b first → Puts {T = U} {E = F} (Err f) a b (line words)
line_stopped {U = U} e f a b words others first is stops =
    let P : List (List ℕ) → Type 0 = λ l. Puts {T = U} (Err f) a b (line l) in
    subst P (sym is) (puts_stopped e f a b first (line_end others) stops)
