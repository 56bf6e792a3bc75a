-- What a lexer stands for after each of its steps.
use Rattle.std.proofs.Common.{◌≡◌, ℕ, ◌+◌, ◌<◌, ◌≤◌, List, [], ◌∷◌, ◌++◌, length, map, drop, Bool, true, false, Option, Some, None, Result, Ok, Err, refl, sym, ap, subst, ◌∙◌, arith, inl, inr, ◌⊎◌, add-zero}
use Rattle.std.specs.Prelude.{option_map, option_to_list}
use Rattle.std.proofs.lemmas.List.{append_assoc, append-nil, length-append, drop-append-le}
use Rattle.cvc_base.specs.declared.cause.Cause.{Cause}
use Rattle.cvc_base.specs.declared.cause.Cause.TheVariants.{FileTooLong}
use Rattle.cvc_base.specs.declared.fault.Fault.{Fault}
use Rattle.cvc_base.specs.declared.fault.FileKind.{FileKind}
use Rattle.cvc_base.specs.declared.fault.Refusal.{Refusal}
use Rattle.cvc_base.specs.declared.fault.Refusal.TheVariants.{At as AtFault, NoMemory as NoMemoryThere}
use Rattle.cvc_base.specs.declared.line.Line.{Line}
use Rattle.cvc_lex.specs.declared.scanner.Logical.{Logical}
use Rattle.cvc_lex.specs.declared.shape.Shape.{Shape}
use Rattle.cvc_lex.specs.declared.shape.Shape.TheVariants.{Skipped, Directive, Card, Continuation}
use Rattle.cvc_base.specs.declared.stop.Stop.{Stop}
use Rattle.cvc_base.specs.declared.stop.Stop.TheVariants.{At, NoMemory}
use Rattle.cvc_lex.specs.Bytes.{file_limit}
use Rattle.cvc_lex.specs.Physical.{Read, read, ended, open_rest, physical, line_if_any}
use Rattle.cvc_base.specs.Faults.{fault_on}
use Rattle.cvc_lex.specs.Lines.{opened, closed, logical, line_of, or_else, cause_of, fault_after, first_fault, faultless, lexical, closed_at_end, sure_fault, closed_so_far}
use Rattle.cvc_lex.specs.Lexing.{Lexing, ReadsAs, IsReading, closed_in, fault_in, HasRead, StandsFor}
use Rattle.cvc_lex.specs.Scanning.{with_shape, Stays, Ends, counted, refusal_of, outcome, IsGoing, Closes, at_end, closed_by_start}
use Rattle.cvc_lex.specs.Lined.{IsLineEnd, HasNoEnd}
use Rattle.cvc_lex.proofs.Streams.{ended-more, rest-more, ended-end, rest-end, length_stream, physical_of}
use Rattle.cvc_lex.proofs.Grouping.{Sorted, add_by, closed-more, opened-more, all_lines}
use Rattle.cvc_lex.proofs.Faults.{within, too_long, first-append, first-one, faultless-none, faultless-fault, sure_none, sure_from_none, sure_from_ended, sure_from_limit, sure-append, so_far-append, at_end-sure, so_far-is, so_far_stays, lexical-is, at_end-none, at_end-fault, at_end_stays, so_far-none}

-- ## The relation, by its cases

module _ (y : Lexing) (t : List ℕ) (n : ℕ) (b : Bool) (e : y.finished ≡ b) where
  abbrev Inside : Bool → Type 0
  Inside f = n ≤ length (closed_in y.file f t)

  abbrev Has : Option Refusal → Type 0
  Has o = HasRead y t n o

  abbrev Waits : Bool → Type 0
  Waits f = y.waiting ≡ drop n (closed_in y.file f t)

  abbrev Knows : Option Fault → Bool → Type 0
  Knows o f = fault_in y.file f t ≡ o

  abbrev Partly : Bool → Type 0
  Partly f = (lost : List Line) × (y.waiting ++ lost ≡ drop n (closed_in y.file f t))

  pub stands_none : y.refused ≡ None → Inside b → Knows None b → Waits b → (y.finished ≡ false → IsReading y t) → StandsFor y t n
  stands_none r w k l reading = record { within = subst Inside (sym e) w; state = subst Has (sym r) (subst (Knows None) (sym e) k, subst Waits (sym e) l, reading) }

  pub stands_at : (f : Fault) → y.refused ≡ Some (AtFault f) → Inside b → Knows (Some f) b → Waits b → StandsFor y t n
  stands_at f r w k l = record { within = subst Inside (sym e) w; state = subst Has (sym r) (subst (Knows (Some f)) (sym e) k, subst Waits (sym e) l) }

  pub stands_part : y.refused ≡ Some NoMemoryThere → Inside b → Partly b → StandsFor y t n
  stands_part r w p = record { within = subst Inside (sym e) w; state = subst Has (sym r) (subst Partly (sym e) p) }

  pub inside : StandsFor y t n → Inside b
  inside s = subst Inside e s.within

  pub none_facts : y.refused ≡ None → StandsFor y t n → Knows None b × Waits b × (y.finished ≡ false → IsReading y t)
  none_facts r s = let h = subst Has r s.state in (subst (Knows None) e h.0, subst Waits e h.1, h.2)

  pub at_facts : (f : Fault) → y.refused ≡ Some (AtFault f) → StandsFor y t n → Knows (Some f) b × Waits b
  at_facts f r s = let h = subst Has r s.state in (subst (Knows (Some f)) e h.0, subst Waits e h.1)

  pub part_facts : y.refused ≡ Some NoMemoryThere → StandsFor y t n → Partly b
  part_facts r s = subst Partly e (subst Has r s.state)

-- closed lines that grow
longer : (n : ℕ) (xs more ys : List Line) → n ≤ length xs → ys ≡ xs ++ more → n ≤ length ys
longer n xs more ys le e = let P : List Line → Type 0 = λ zs. n ≤ length zs in subst P (sym e) (omega (arith, length-append xs more))

dropped : (n : ℕ) (xs more ys : List Line) → n ≤ length xs → ys ≡ xs ++ more → drop n ys ≡ drop n xs ++ more
dropped n xs more ys le e = ap (drop n) e ∙ drop-append-le n xs more le

-- ## A refusal is kept

-- some of the lines that are closed now are some of those that are closed later
part_later : (n : ℕ) (waiting xs ys : List Line) → n ≤ length xs → ((lost : List Line) × (waiting ++ lost ≡ drop n xs)) → ((more : List Line) × (ys ≡ xs ++ more)) → (lost : List Line) × (waiting ++ lost ≡ drop n ys)
part_later n waiting xs ys le p m = (p.0 ++ m.0, sym (append_assoc waiting p.0 m.0) ∙ ap (λ (zs : List Line). zs ++ m.0) p.1 ∙ sym (dropped n xs m.0 ys le m.1))

pub kept_feed : (x : Lexing) (s t : List ℕ) (n : ℕ) (r : Refusal) → x.finished ≡ false → x.refused ≡ Some r → StandsFor x s n → StandsFor x (s ++ t) n
kept_feed x s t n (AtFault f) e h st =
    let facts = at_facts x s n false e f h st in
    let same = so_far-append x.file s t f facts.0 in
    let le = inside x s n false e st in
    let P : List Line → Type 0 = λ ls. n ≤ length ls in
    stands_at x (s ++ t) n false e f h (subst P (sym same) le) (sure-append x.file s t f facts.0) (facts.1 ∙ ap (drop n) (sym same))
kept_feed x s t n NoMemoryThere e h st =
    let le = inside x s n false e st in
    let more = so_far_stays x.file s t in
    stands_part x (s ++ t) n false e h (longer n (closed_so_far x.file s) more.0 (closed_so_far x.file (s ++ t)) le more.1)
    (part_later n x.waiting (closed_so_far x.file s) (closed_so_far x.file (s ++ t)) le (part_facts x s n false e h st) more)

pub kept_finish : (x : Lexing) (s : List ℕ) (n : ℕ) (r : Refusal) → x.finished ≡ false → x.refused ≡ Some r → StandsFor x s n → StandsFor (at_end x) s n
kept_finish x s n (AtFault f) e h st =
    let facts = at_facts x s n false e f h st in
    let same = at_end-sure x.file s f facts.0 in
    let le = inside x s n false e st in
    let P : List Line → Type 0 = λ ls. n ≤ length ls in
    stands_at (at_end x) s n true refl f h (subst P (sym same.1) le) same.0 (facts.1 ∙ ap (drop n) (sym same.1))
kept_finish x s n NoMemoryThere e h st =
    let le = inside x s n false e st in
    let more = at_end_stays x.file s in
    stands_part (at_end x) s n true refl h (longer n (closed_so_far x.file s) more.0 (closed_at_end x.file s) le more.1)
    (part_later n x.waiting (closed_so_far x.file s) (closed_at_end x.file s) le (part_facts x s n false e h st) more)

-- ## A lexer that reads

module _ (x : Lexing) (s : List ℕ) (n : ℕ) (going : IsGoing x) (st : StandsFor x s n) where
  abbrev kind : FileKind
  kind = x.file

  known : (sure_fault x.file s ≡ None) × (x.waiting ≡ drop n (closed_so_far x.file s)) × (x.finished ≡ false → IsReading x s)
  known = none_facts x s n false going.finished going.refused st

  reading : IsReading x s
  reading = known.2 going.finished

  no_fault : (first_fault x.file [] (ended s) ≡ None) × (length s ≤ file_limit x.file)
  no_fault = sure_none x.file s known.0

  so_far : closed_so_far x.file s ≡ closed x.file (ended s)
  so_far = so_far-none x.file s no_fault.0

  le : n ≤ length (closed x.file (ended s))
  le = let P : List Line → Type 0 = λ ls. n ≤ length ls in subst P so_far (inside x s n false going.finished st)

  waits : x.waiting ≡ drop n (closed x.file (ended s))
  waits = known.1 ∙ ap (drop n) so_far

  -- memory was wanted
  pub wanting : (y : Lexing) (t : List ℕ) → Stays x y → StandsFor (record y { refused = Some NoMemoryThere }) (s ++ t) n
  wanting y t stays =
      let z : Lexing = record x { refused = Some NoMemoryThere } in
      let more = so_far_stays x.file s t in
      let far : n ≤ length (closed_so_far x.file s) = inside x s n false going.finished st in
      let P : FileKind → Type 0 = λ k. n ≤ length (closed_so_far k (s ++ t)) in
      let Q : FileKind → Type 0 = λ k. (lost : List Line) × (x.waiting ++ lost ≡ drop n (closed_so_far k (s ++ t))) in
      let R : List Line → Type 0 = λ ls. (lost : List Line) × (ls ++ lost ≡ drop n (closed_so_far y.file (s ++ t))) in
      stands_part (record y { refused = Some NoMemoryThere }) (s ++ t) n false (stays.finished ∙ going.finished) refl
      (subst P (sym stays.file) (longer n (closed_so_far x.file s) more.0 (closed_so_far x.file (s ++ t)) far more.1))
      (subst R (sym stays.waiting) (subst Q (sym stays.file) (more.0, ap (λ (ls : List Line). ls ++ more.0) known.1 ∙ sym (dropped n (closed_so_far x.file s) more.0 (closed_so_far x.file (s ++ t)) far more.1))))

  -- a fault is sure after these bytes, and the closed lines are as before
  pub refusing : (y : Lexing) (t : List ℕ) (cause : Cause) → Stays x y → sure_fault x.file (s ++ t) ≡ Some (fault_on x.file (x.count + 1) cause)
      → closed_so_far x.file (s ++ t) ≡ closed_so_far x.file s → StandsFor (record y { refused = Some (refusal_of y (At cause)) }) (s ++ t) n
  refusing y t cause stays sure same =
      let far : n ≤ length (closed_so_far x.file s) = inside x s n false going.finished st in
      let P : FileKind → Type 0 = λ k. n ≤ length (closed_so_far k (s ++ t)) in
      let Q : List Line → Type 0 = λ ls. n ≤ length ls in
      stands_at (record y { refused = Some (refusal_of y (At cause)) }) (s ++ t) n false (stays.finished ∙ going.finished) (fault_on y.file (y.count + 1) cause) refl
      (subst P (sym stays.file) (subst Q (sym same) far))
      (ap (λ (k : FileKind). sure_fault k (s ++ t)) stays.file ∙ sure ∙ ap (λ (k : FileKind). Some (fault_on k (x.count + 1) cause)) (sym stays.file) ∙ ap (λ (m : ℕ). Some (fault_on y.file (m + 1) cause)) (sym stays.count))
      (stays.waiting ∙ known.1 ∙ ap (drop n) (sym same) ∙ ap (λ (k : FileKind). drop n (closed_so_far k (s ++ t))) (sym stays.file))

  -- bytes that don't end the line
  pub keeping : (q : List ℕ) → HasNoEnd q → x.size + length q ≤ file_limit x.file → StandsFor (record x { size = x.size + length q; rest = x.rest ++ q }) (s ++ q) n
  keeping q none fits =
      let y : Lexing = record x { size = x.size + length q; rest = x.rest ++ q } in
      let same : ended (s ++ q) ≡ ended s = ended-more s q none in
      let long : length (s ++ q) ≡ length s + length q = length-append s q in
      let size = reading.size in
      let first : first_fault x.file [] (ended (s ++ q)) ≡ None = ap (first_fault x.file []) same ∙ no_fault.0 in
      let now : closed_so_far x.file (s ++ q) ≡ closed x.file (ended s) = so_far-none x.file (s ++ q) first ∙ ap (closed x.file) same in
      let P : List Line → Type 0 = λ ls. n ≤ length ls in
      stands_none y (s ++ q) n false going.finished going.refused (subst P (sym now) le) (sure_from_none x.file (s ++ q) first (omega arith)) (waits ∙ ap (drop n) (sym now)) (λ _. record {
        count = reading.count ∙ ap length (sym same);
        size = ap (λ (m : ℕ). m + length q) reading.size ∙ sym long;
        started = reading.started ∙ ap (opened x.file) (sym same);
        rest = λ more number. ap (read x.file number) (append_assoc x.rest q more) ∙ reading.rest (q ++ more) number ∙ ap (read x.file number) (sym (append_assoc (open_rest s) q more)) ∙ ap (λ (r : List ℕ). read x.file number (r ++ more)) (sym (rest-more s q none));
        none = λ h. let both = nil_parts x.rest q h in rest-more s q none ∙ rw (reading.none both.0, both.1) refl;
        begun = λ h. let both = nil_parts (open_rest s) q (sym (rest-more s q none) ∙ h) in rw (reading.begun both.0, both.1) refl;
      })
    where
      nil_parts : (xs ys : List ℕ) → xs ++ ys ≡ [] → (xs ≡ []) × (ys ≡ [])
      nil_parts [] ys h = (refl, h)
      nil_parts (z ∷ xs) ys h = absurd cc

  -- other bytes are kept of the open line, which read the same
  pub shortened : (r : List ℕ) → ReadsAs x.file r x.rest → (r ≡ [] → x.rest ≡ []) → (x.rest ≡ [] → r ≡ []) → StandsFor (record x { rest = r }) s n
  shortened r same none some = stands_none (record x { rest = r }) s n false going.finished going.refused (inside x s n false going.finished st) known.0 known.1 (λ _. record {
    count = reading.count;
    size = reading.size;
    started = reading.started;
    rest = λ more number. same more number ∙ reading.rest more number;
    none = λ e. reading.none (none e);
    begun = λ e. some (reading.begun e);
  })

  -- bytes that end the line
  line_ended : (bytes : List ℕ) → IsLineEnd bytes → ended (s ++ bytes) ≡ ended s ++ (open_rest s ++ bytes) ∷ []
  line_ended bytes end =
      let P : List ℕ → Type 0 = λ u. ended (s ++ u) ≡ ended s ++ (open_rest s ++ u) ∷ [] in
      subst P (sym end.1) (ended-end s end.0 end.2)

  first_is : (bytes : List ℕ) → IsLineEnd bytes → first_fault x.file [] (ended (s ++ bytes)) ≡ fault_after x.file (ended s) (open_rest s ++ bytes)
  first_is bytes end = rw (line_ended bytes end, first-append x.file [] (ended s) ((open_rest s ++ bytes) ∷ []), no_fault.0) (first-one x.file (ended s) (open_rest s ++ bytes))

  closed_stays : (bytes : List ℕ) → IsLineEnd bytes → (f : Fault) → fault_after x.file (ended s) (open_rest s ++ bytes) ≡ Some f → closed_so_far x.file (s ++ bytes) ≡ closed_so_far x.file s
  closed_stays bytes end f at =
      so_far_is (s ++ bytes) ∙ ap (λ (ls : List (List ℕ)). closed x.file (faultless x.file [] ls)) (line_ended bytes end)
      ∙ ap (closed x.file) (faultless-none x.file [] (ended s) ((open_rest s ++ bytes) ∷ []) no_fault.0 ∙ faultless-fault x.file (ended s) (open_rest s ++ bytes) [] f at) ∙ sym so_far
    where
      so_far_is : (u : List ℕ) → closed_so_far x.file u ≡ closed x.file (faultless x.file [] (ended u))
      so_far_is u = so_far-is x.file u

  -- the file's limit is passed
  pub passing : (y : Lexing) (bytes : List ℕ) → (HasNoEnd bytes ⊎ IsLineEnd bytes) → file_limit x.file < x.size + length bytes → Stays x y → StandsFor (record y { refused = Some (refusal_of y (At FileTooLong)) }) (s ++ bytes) n
  passing y bytes (inl none) past stays =
      let same : ended (s ++ bytes) ≡ ended s = ended-more s bytes none in
      let long : length (s ++ bytes) ≡ length s + length bytes = length-append s bytes in
      let size = reading.size in
      let first : first_fault x.file [] (ended (s ++ bytes)) ≡ None = ap (first_fault x.file []) same ∙ no_fault.0 in
      refusing y bytes FileTooLong stays
      (sure_from_limit x.file (s ++ bytes) first (omega arith) ∙ ap (λ (ls : List (List ℕ)). Some (fault_on x.file (length ls + 1) FileTooLong)) same ∙ ap (λ (m : ℕ). Some (fault_on x.file (m + 1) FileTooLong)) (sym reading.count))
      (so_far-none x.file (s ++ bytes) first ∙ ap (closed x.file) same ∙ sym so_far)
  passing y bytes (inr end) past stays =
      let line : List ℕ = open_rest s ++ bytes in
      let lines_are : ended (s ++ bytes) ≡ ended s ++ line ∷ [] = line_ended bytes end in
      let long : length line ≡ length (open_rest s) + length bytes = length-append (open_rest s) bytes in
      let stream = length_stream s in
      let size = reading.size in
      let at = too_long x.file (ended s) line (omega arith) in
      refusing y bytes FileTooLong stays
      (sure_from_ended x.file (s ++ bytes) (fault_on x.file (x.count + 1) FileTooLong) (first_is bytes end ∙ at ∙ ap (λ (m : ℕ). Some (fault_on x.file (m + 1) FileTooLong)) (sym reading.count)))
      (closed_stays bytes end (fault_on x.file (length (ended s) + 1) FileTooLong) at)

-- ## The end of a physical line

abbrev with_closed : List Line → Option Logical → Sorted
with_closed ls o = record { lines = ls; last = o }

-- what a line adds to the closed lines and the open one is what it adds to the lines that wait
record SameAdd (x : Lexing) (r : Read) (shape : Shape) (n : ℕ) (ls : List Line) : Type 0 where
  waits : (with_shape x r shape).waiting ≡ drop n (add_by x.file (with_closed ls x.started) r shape).lines
  opens : (with_shape x r shape).started ≡ (add_by x.file (with_closed ls x.started) r shape).last
  inside : n ≤ length (add_by x.file (with_closed ls x.started) r shape).lines

same_add : (x : Lexing) (r : Read) (shape : Shape) (n : ℕ) (ls : List Line) → n ≤ length ls → x.waiting ≡ drop n ls → SameAdd x r shape n ls
same_add x r Skipped n ls le e = record { waits = e; opens = refl; inside = le }
same_add x r Directive n ls le e = record {
  waits = ap (λ (ws : List Line). ws ++ closed_by_start x.file x.started r) e ∙ sym (drop-append-le n ls (closed_by_start x.file x.started r) le);
  opens = refl;
  inside = omega (arith, length-append ls (closed_by_start x.file x.started r));
}
same_add x r Card n ls le e = record {
  waits = ap (λ (ws : List Line). ws ++ closed_by_start x.file x.started r) e ∙ sym (drop-append-le n ls (closed_by_start x.file x.started r) le);
  opens = refl;
  inside = omega (arith, length-append ls (closed_by_start x.file x.started r));
}
same_add x r Continuation n ls le e = record { waits = e; opens = refl; inside = le }

-- a line leaves the rest of the state
record Leaves (old new : Lexing) : Type 0 where
  file : new.file ≡ old.file
  finished : new.finished ≡ old.finished
  refused : new.refused ≡ old.refused
  count : new.count ≡ old.count
  size : new.size ≡ old.size
  rest : new.rest ≡ old.rest

leaves : (x : Lexing) (r : Read) (shape : Shape) → Leaves x (with_shape x r shape)
leaves x r Skipped = record { file = refl; finished = refl; refused = refl; count = refl; size = refl; rest = refl }
leaves x r Directive = record { file = refl; finished = refl; refused = refl; count = refl; size = refl; rest = refl }
leaves x r Card = record { file = refl; finished = refl; refused = refl; count = refl; size = refl; rest = refl }
leaves x r Continuation = record { file = refl; finished = refl; refused = refl; count = refl; size = refl; rest = refl }

module _ (x : Lexing) (s : List ℕ) (n : ℕ) (going : IsGoing x) (st : StandsFor x s n) where
  -- the line as it is read, with what is kept of its beginning
  abbrev line_read : List ℕ → Read
  line_read bytes = read x.file (x.count + 1) (x.rest ++ bytes)

  abbrev kept_line : List ℕ → Lexing
  kept_line bytes = record x { size = x.size + length bytes; rest = [] }

  -- the fault at a line that these bytes end
  fault_there : (bytes : List ℕ) → x.size + length bytes ≤ file_limit x.file
      → fault_after x.file (ended s) (open_rest s ++ bytes) ≡ option_map (fault_on x.file (x.count + 1)) (cause_of x.file x.started (line_read bytes))
  fault_there bytes fits =
      let h = reading x s n going st in
      let size = h.size in
      let stream = length_stream s in
      let long : length (open_rest s ++ bytes) ≡ length (open_rest s) + length bytes = length-append (open_rest s) bytes in
      within x.file (ended s) (open_rest s ++ bytes) (omega arith)
      ∙ ap (λ (m : ℕ). option_map (fault_on x.file (m + 1)) (cause_of x.file (opened x.file (ended s)) (read x.file (m + 1) (open_rest s ++ bytes)))) (sym h.count)
      ∙ ap (λ (o : Option Logical). option_map (fault_on x.file (x.count + 1)) (cause_of x.file o (read x.file (x.count + 1) (open_rest s ++ bytes)))) (sym h.started)
      ∙ ap (λ (r : Read). option_map (fault_on x.file (x.count + 1)) (cause_of x.file x.started r)) (sym (h.rest bytes (x.count + 1)))

  -- the closed lines and the open one after a line without a fault
  abbrev after_line : List ℕ → Lexing
  after_line bytes = with_shape (kept_line bytes) (line_read bytes) (line_read bytes).shape

  module _ (bytes : List ℕ) (lines : List (List ℕ)) (lines_are : lines ≡ ended s ++ (open_rest s ++ bytes) ∷ []) where
    abbrev add_is : Sorted
    add_is = add_by x.file (with_closed (closed x.file (ended s)) x.started) (line_read bytes) (line_read bytes).shape

    read_is : read x.file (length (ended s) + 1) (open_rest s ++ bytes) ≡ line_read bytes
    read_is = let h = reading x s n going st in ap (λ (m : ℕ). read x.file (m + 1) (open_rest s ++ bytes)) (sym h.count) ∙ sym (h.rest bytes (x.count + 1))

    closed_are : closed x.file lines ≡ add_is.lines
    closed_are =
        let h = reading x s n going st in
        ap (closed x.file) lines_are ∙ closed-more x.file (ended s) (open_rest s ++ bytes)
        ∙ ap (λ (r : Read). (add_by x.file (with_closed (closed x.file (ended s)) (opened x.file (ended s))) r r.shape).lines) read_is
        ∙ ap (λ (o : Option Logical). (add_by x.file (with_closed (closed x.file (ended s)) o) (line_read bytes) (line_read bytes).shape).lines) (sym h.started)

    opened_is : opened x.file lines ≡ add_is.last
    opened_is =
        let h = reading x s n going st in
        ap (opened x.file) lines_are ∙ opened-more x.file (ended s) (open_rest s ++ bytes)
        ∙ ap (λ (r : Read). (add_by x.file (with_closed (closed x.file (ended s)) (opened x.file (ended s))) r r.shape).last) read_is
        ∙ ap (λ (o : Option Logical). (add_by x.file (with_closed (closed x.file (ended s)) o) (line_read bytes) (line_read bytes).shape).last) (sym h.started)

    adds : SameAdd (kept_line bytes) (line_read bytes) (line_read bytes).shape n (closed x.file (ended s))
    adds = same_add (kept_line bytes) (line_read bytes) (line_read bytes).shape n (closed x.file (ended s)) (le x s n going st) (waits x s n going st)

  -- the line ends without a fault
  ended_well : (bytes : List ℕ) → IsLineEnd bytes → x.size + length bytes ≤ file_limit x.file → cause_of x.file x.started (line_read bytes) ≡ None → StandsFor (counted (after_line bytes)) (s ++ bytes) n
  ended_well bytes end fits well =
      let h = reading x s n going st in
      let y : Lexing = counted (after_line bytes) in
      let stays = leaves (kept_line bytes) (line_read bytes) (line_read bytes).shape in
      let lines_are = line_ended x s n going st bytes end in
      let a = adds bytes (ended (s ++ bytes)) lines_are in
      let first : first_fault x.file [] (ended (s ++ bytes)) ≡ None = first_is x s n going st bytes end ∙ fault_there bytes fits ∙ ap (option_map (fault_on x.file (x.count + 1))) well in
      let now : closed_so_far x.file (s ++ bytes) ≡ (add_is bytes (ended (s ++ bytes)) lines_are).lines = so_far-none x.file (s ++ bytes) first ∙ closed_are bytes (ended (s ++ bytes)) lines_are in
      let size = h.size in
      let long : length (s ++ bytes) ≡ length s + length bytes = length-append s bytes in
      let more : length (ended (s ++ bytes)) ≡ length (ended s) + 1 = ap length lines_are ∙ length-append (ended s) ((open_rest s ++ bytes) ∷ []) in
      let nothing : open_rest (s ++ bytes) ≡ [] = let P : List ℕ → Type 0 = λ u. open_rest (s ++ u) ≡ [] in subst P (sym end.1) (rest-end s end.0) in
      let P : FileKind → Type 0 = λ k. n ≤ length (closed_so_far k (s ++ bytes)) in
      let Q : List Line → Type 0 = λ ls. n ≤ length ls in
      let R : FileKind → Type 0 = λ k. ReadsAs k y.rest (open_rest (s ++ bytes)) in
      stands_none y (s ++ bytes) n false (stays.finished ∙ going.finished) (stays.refused ∙ going.refused)
      (subst P (sym stays.file) (subst Q (sym now) a.inside))
      (ap (λ (k : FileKind). sure_fault k (s ++ bytes)) stays.file ∙ sure_from_none x.file (s ++ bytes) first (omega arith))
      (a.waits ∙ ap (drop n) (sym now) ∙ ap (λ (k : FileKind). drop n (closed_so_far k (s ++ bytes))) (sym stays.file))
      (λ _. record {
        count = ap (λ (m : ℕ). m + 1) (stays.count ∙ h.count) ∙ sym more;
        size = stays.size ∙ ap (λ (m : ℕ). m + length bytes) h.size ∙ sym long;
        started = a.opens ∙ sym (opened_is bytes (ended (s ++ bytes)) lines_are) ∙ ap (λ (k : FileKind). opened k (ended (s ++ bytes))) (sym stays.file);
        rest = λ later number. ap (λ (u : List ℕ). read y.file number (u ++ later)) (stays.rest ∙ sym nothing);
        none = λ _. nothing;
        begun = λ _. stays.rest;
      })

  -- the line ends, or reading stops in it
  pub ending : (bytes : List ℕ) → IsLineEnd bytes → x.size + length bytes ≤ file_limit x.file → (new : Lexing) (result : Result (Unit {0}) Stop) → Ends (kept_line bytes) new (line_read bytes) result → StandsFor (outcome new result) (s ++ bytes) n
  ending bytes end fits new (Ok done) h = let P : Lexing → Type 0 = λ y. StandsFor y (s ++ bytes) n in subst P (sym h.1) (ended_well bytes end fits h.0)
  ending bytes end fits new (Err (At cause)) h =
      let at : fault_after x.file (ended s) (open_rest s ++ bytes) ≡ Some (fault_on x.file (x.count + 1) cause) = fault_there bytes fits ∙ ap (option_map (fault_on x.file (x.count + 1))) h.0 in
      let stays : Stays x new = record { file = h.1.file; finished = h.1.finished; refused = h.1.refused; waiting = h.1.waiting; count = h.1.count } in
      refusing x s n going st new bytes cause stays
      (sure_from_ended x.file (s ++ bytes) (fault_on x.file (x.count + 1) cause) (first_is x s n going st bytes end ∙ at))
      (closed_stays x s n going st bytes end (fault_on x.file (x.count + 1) cause) at)
  ending bytes end fits new (Err NoMemory) h = wanting x s n going st new bytes (record { file = h.file; finished = h.finished; refused = h.refused; waiting = h.waiting; count = h.count })

-- ## The end of the stream

module _ (x : Lexing) (s : List ℕ) (n : ℕ) (all : List (List ℕ)) (all_are : physical s ≡ all) (clean : first_fault x.file [] all ≡ None) where
  lexical_none : lexical x.file s ≡ None
  lexical_none = lexical-is x.file s ∙ ap (first_fault x.file []) all_are ∙ clean

  at_end_is : closed_at_end x.file s ≡ closed x.file all ++ option_to_list (option_map (λ (l : Logical). l.line) (opened x.file all))
  at_end_is = at_end-none x.file s lexical_none ∙ ap (λ (ls : List (List ℕ)). map line_of (logical x.file ls)) all_are ∙ all_lines x.file all

  -- the open line closes, or memory is wanted for it
  closing_all : (y : Lexing) → y.file ≡ x.file → y.refused ≡ None → y.waiting ≡ drop n (closed x.file all) → y.started ≡ opened x.file all → n ≤ length (closed x.file all)
      → (new : Lexing) (result : Result (Unit {0}) Stop) → Closes y new result → StandsFor (at_end (outcome new result)) s n
  closing_all y f r w o far new (Ok done) h =
      let opt : List Line = option_to_list (option_map (λ (l : Logical). l.line) (opened x.file all)) in
      let z : Lexing = at_end (record y { waiting = y.waiting ++ option_to_list (option_map (λ (l : Logical). l.line) y.started); started = None }) in
      let P : Lexing → Type 0 = λ v. StandsFor (at_end v) s n in
      let Q : FileKind → Type 0 = λ k. n ≤ length (closed_at_end k s) in
      subst P (sym h) (stands_none z s n true refl r
      (subst Q (sym f) (longer n (closed x.file all) opt (closed_at_end x.file s) far at_end_is))
      (ap (λ (k : FileKind). lexical k s) f ∙ lexical_none)
      (ap (λ (v : Option Logical). y.waiting ++ option_to_list (option_map (λ (l : Logical). l.line) v)) o ∙ ap (λ (ls : List Line). ls ++ opt) w
      ∙ sym (dropped n (closed x.file all) opt (closed_at_end x.file s) far at_end_is) ∙ ap (λ (k : FileKind). drop n (closed_at_end k s)) (sym f))
      (λ e. absurd cc))
  closing_all y f r w o far new (Err (At cause)) h = absurd h
  closing_all y f r w o far new (Err NoMemory) h =
      let opt : List Line = option_to_list (option_map (λ (l : Logical). l.line) (opened x.file all)) in
      let z : Lexing = at_end (record new { refused = Some NoMemoryThere }) in
      let Q : FileKind → Type 0 = λ k. n ≤ length (closed_at_end k s) in
      let R : FileKind → Type 0 = λ k. (lost : List Line) × (new.waiting ++ lost ≡ drop n (closed_at_end k s)) in
      stands_part z s n true refl refl
      (subst Q (sym (h.file ∙ f)) (longer n (closed x.file all) opt (closed_at_end x.file s) far at_end_is))
      (subst R (sym (h.file ∙ f)) (opt, ap (λ (ls : List Line). ls ++ opt) (h.waiting ∙ w) ∙ sym (dropped n (closed x.file all) opt (closed_at_end x.file s) far at_end_is)))

module _ (x : Lexing) (s : List ℕ) (n : ℕ) (going : IsGoing x) (st : StandsFor x s n) where
  abbrev rest_read : Read
  rest_read = read x.file (x.count + 1) x.rest

  abbrev bare : Lexing
  bare = record x { rest = [] }

  pub finish_empty : x.rest ≡ [] → (new : Lexing) (result : Result (Unit {0}) Stop) → Closes x new result → StandsFor (at_end (outcome new result)) s n
  finish_empty none new result h =
      let r = reading x s n going st in
      let are : physical s ≡ ended s = physical_of s ∙ ap (λ (u : List ℕ). ended s ++ line_if_any u) (r.none none) ∙ append-nil (ended s) in
      closing_all x s n (ended s) are (no_fault x s n going st).0 x refl going.refused (waits x s n going st) r.started (le x s n going st) new result h

  lines_are : (x.rest ≡ [] → ⊥) → physical s ≡ ended s ++ (open_rest s ++ []) ∷ []
  lines_are some_rest = physical_of s ∙ ap (λ (ls : List (List ℕ)). ended s ++ ls) (go (open_rest s) (λ h. some_rest ((reading x s n going st).begun h)))
    where
      go : (u : List ℕ) → (u ≡ [] → ⊥) → line_if_any u ≡ (u ++ []) ∷ []
      go [] h = absurd (h refl)
      go (z ∷ u) h = ap (λ (v : List ℕ). (z ∷ v) ∷ []) (sym (append-nil u))

  read_same : line_read x s n going st [] ≡ rest_read
  read_same = ap (read x.file (x.count + 1)) (append-nil x.rest)

  bare_is : kept_line x s n going st [] ≡ bare
  bare_is = ap (λ (m : ℕ). record x { size = m; rest = [] }) (add-zero x.size)

  fits : x.size + length {A = ℕ} [] ≤ file_limit x.file
  fits = let h = reading x s n going st in let size = h.size in let short = (no_fault x s n going st).1 in omega arith

  first_there : (some_rest : x.rest ≡ [] → ⊥) → first_fault x.file [] (physical s) ≡ option_map (fault_on x.file (x.count + 1)) (cause_of x.file x.started rest_read)
  first_there some_rest =
      ap (first_fault x.file []) (lines_are some_rest) ∙ first-append x.file [] (ended s) ((open_rest s ++ []) ∷ [])
      ∙ ap (λ (o : Option Fault). or_else o (first_fault x.file (ended s) ((open_rest s ++ []) ∷ []))) (no_fault x s n going st).0
      ∙ first-one x.file (ended s) (open_rest s ++ []) ∙ fault_there x s n going st [] fits ∙ ap (λ (r : Read). option_map (fault_on x.file (x.count + 1)) (cause_of x.file x.started r)) read_same

  pub finish_stop : (x.rest ≡ [] → ⊥) → (new : Lexing) (stop : Stop) → Ends bare new rest_read (Err stop) → StandsFor (at_end (outcome new (Err stop))) s n
  finish_stop some_rest new (At cause) h =
      let at : fault_after x.file (ended s) (open_rest s ++ []) ≡ Some (fault_on x.file (x.count + 1) cause) =
      fault_there x s n going st [] fits ∙ ap (λ (r : Read). option_map (fault_on x.file (x.count + 1)) (cause_of x.file x.started r)) read_same ∙ ap (option_map (fault_on x.file (x.count + 1))) h.0 in
      let whole : lexical x.file s ≡ Some (fault_on x.file (x.count + 1) cause) = lexical-is x.file s ∙ first_there some_rest ∙ ap (option_map (fault_on x.file (x.count + 1))) h.0 in
      let same : closed_at_end x.file s ≡ closed x.file (ended s) =
      at_end-fault x.file s (fault_on x.file (x.count + 1) cause) whole ∙ ap (λ (ls : List (List ℕ)). closed x.file (faultless x.file [] ls)) (lines_are some_rest)
      ∙ ap (closed x.file) (faultless-none x.file [] (ended s) ((open_rest s ++ []) ∷ []) (no_fault x s n going st).0 ∙ faultless-fault x.file (ended s) (open_rest s ++ []) [] (fault_on x.file (x.count + 1) cause) at) in
      let P : FileKind → Type 0 = λ k. n ≤ length (closed_at_end k s) in
      let Q : List Line → Type 0 = λ ls. n ≤ length ls in
      stands_at (at_end (outcome new (Err (At cause)))) s n true refl (fault_on new.file (new.count + 1) cause) refl
      (subst P (sym h.1.file) (subst Q (sym same) (le x s n going st)))
      (ap (λ (k : FileKind). lexical k s) h.1.file ∙ whole ∙ ap (λ (k : FileKind). Some (fault_on k (x.count + 1) cause)) (sym h.1.file) ∙ ap (λ (m : ℕ). Some (fault_on new.file (m + 1) cause)) (sym h.1.count))
      (h.1.waiting ∙ waits x s n going st ∙ ap (drop n) (sym same) ∙ ap (λ (k : FileKind). drop n (closed_at_end k s)) (sym h.1.file))
  finish_stop some_rest new NoMemory h =
      let z : Lexing = record new { refused = Some NoMemoryThere } in
      let stays : Stays x new = record { file = h.file; finished = h.finished; refused = h.refused; waiting = h.waiting; count = h.count } in
      let P : List ℕ → Type 0 = λ u. StandsFor z u n in
      kept_finish z s n NoMemoryThere (h.finished ∙ going.finished) refl (subst P (append-nil s) (wanting x s n going st new [] stays))

  pub finish_close : (x.rest ≡ [] → ⊥) → (mid : Lexing) → (done : Unit {0}) → Ends bare mid rest_read (Ok done) → (new : Lexing) (result : Result (Unit {0}) Stop) → Closes mid new result → StandsFor (at_end (outcome new result)) s n
  finish_close some_rest mid done h new result closes =
      let all : List (List ℕ) = physical s in
      let are = lines_are some_rest in
      let a = adds x s n going st [] all are in
      let stays = leaves (kept_line x s n going st []) (line_read x s n going st []) (line_read x s n going st []).shape in
      let y : Lexing = counted (after_line x s n going st []) in
      let same : mid ≡ y = h.1 ∙ ap (λ (r : Read). counted (with_shape bare r r.shape)) (sym read_same) ∙ ap (λ (v : Lexing). counted (with_shape v (line_read x s n going st []) (line_read x s n going st []).shape)) (sym bare_is) in
      let clean : first_fault x.file [] all ≡ None = first_there some_rest ∙ ap (option_map (fault_on x.file (x.count + 1))) h.0 in
      let P : Lexing → Type 0 = λ v. Closes v new result in
      let Q : List Line → Type 0 = λ ls. n ≤ length ls in
      closing_all x s n all refl clean y stays.file (stays.refused ∙ going.refused)
      (a.waits ∙ ap (drop n) (sym (closed_are x s n going st [] all are)))
      (a.opens ∙ sym (opened_is x s n going st [] all are))
      (subst Q (sym (closed_are x s n going st [] all are)) a.inside)
      new result (subst P same closes)
