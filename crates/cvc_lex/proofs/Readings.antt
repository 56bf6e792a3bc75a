-- What the parts of a lexer say of the bytes that they read.
use Rattle.std.proofs.Common.{◌≡◌, ℕ, ◌+◌, ◌-◌, ◌≤◌, List, [], ◌++◌, length, take, drop, Some, Result, Ok, Err, refl, sym, ap, subst, ◌∙◌, arith, ◌⊎◌}
use Rattle.std.proofs.lemmas.List.{append_assoc, append-nil, take_rest, take-append-drop, length-drop}
use Rattle.std.proofs.Math.Seq.{take-add}
use Rattle.cvc_base.specs.declared.cause.Cause.{Cause}
use Rattle.cvc_base.specs.declared.fault.Refusal.{Refusal}
use Rattle.cvc_lex.specs.declared.shape.Shape.{Shape}
use Rattle.cvc_lex.specs.declared.shape.Shape.TheVariants.{Skipped, Directive, Card, Continuation}
use Rattle.cvc_base.specs.declared.stop.Stop.{Stop}
use Rattle.cvc_base.specs.declared.stop.Stop.TheVariants.{At, NoMemory}
use Rattle.cvc_lex.specs.Bytes.{file_limit}
use Rattle.cvc_lex.specs.Physical.{Read, read}
use Rattle.cvc_lex.specs.Lexing.{Lexing, StandsFor}
use Rattle.cvc_lex.specs.Comments.{Shortens}
use Rattle.cvc_lex.specs.Lined.{IsLineEnd, HasNoEnd}
use Rattle.cvc_lex.specs.Scanning.{with_shape, Stays, Ends, counted, refusal_of, outcome, Reads, IsGoing, Closes, at_end, EndsStream, CountsBytes}
use Rattle.cvc_lex.proofs.Standing.{keeping, shortened, passing, wanting, ending, kept_feed, finish_empty, finish_stop, finish_close}

-- what the end of a line leaves
record Keeps (old new : Lexing) : Type 0 where
  file : new.file ≡ old.file
  finished : new.finished ≡ old.finished
  refused : new.refused ≡ old.refused

shape_keeps : (x : Lexing) (r : Read) (shape : Shape) → Keeps x (counted (with_shape x r shape))
shape_keeps x r Skipped = record { file = refl; finished = refl; refused = refl }
shape_keeps x r Directive = record { file = refl; finished = refl; refused = refl }
shape_keeps x r Card = record { file = refl; finished = refl; refused = refl }
shape_keeps x r Continuation = record { file = refl; finished = refl; refused = refl }

ends_keeps : (x new : Lexing) (r : Read) (result : Result (Unit {0}) Stop) → Ends x new r result → Keeps x new
ends_keeps x new r (Ok done) h = let P : Lexing → Type 0 = λ y. Keeps x y in subst P (sym h.1) (shape_keeps x r r.shape)
ends_keeps x new r (Err (At cause)) h = record { file = h.1.file; finished = h.1.finished; refused = h.1.refused }
ends_keeps x new r (Err NoMemory) h = record { file = h.file; finished = h.finished; refused = h.refused }

stays_same : (x : Lexing) → Stays x x
stays_same x = record { file = refl; finished = refl; refused = refl; waiting = refl; count = refl }

module _ (x : Lexing) (going : IsGoing x) (bytes : List ℕ) where
  -- memory was wanted
  pub want : (y : Lexing) → Stays x y → Reads x y bytes (Err NoMemory)
  want y h = record { file = h.file; finished = h.finished ∙ going.finished; refused = h.refused ∙ going.refused; stands = λ s n st. wanting x s n going st y bytes h }

  -- the bytes pass the file's limit
  pub count_stop : (HasNoEnd bytes ⊎ IsLineEnd bytes) → (y : Lexing) (stop : Stop) → CountsBytes x y (length bytes) (Err stop) → Reads x y bytes (Err stop)
  count_stop end y NoMemory h = absurd h
  count_stop end y (At cause) h =
      let same : x ≡ y = sym h.2 in
      let P : Cause → Type 0 = λ c. Reads x x bytes (Err (At c)) in
      let Q : Lexing → Type 0 = λ z. Reads x z bytes (Err (At cause)) in
      subst Q same (subst P (sym h.1) (record { file = refl; finished = going.finished; refused = going.refused; stands = λ s n st. passing x s n going st x bytes end h.0 (stays_same x) }))

  abbrev counted_bytes : Lexing
  counted_bytes = record x { size = x.size + length bytes }

  pub keep_ok : (m : Lexing) (r : List ℕ) (done : Unit {0}) → HasNoEnd bytes → (x.size + length bytes ≤ file_limit x.file) × (m ≡ counted_bytes) → r ≡ m.rest ++ bytes → Reads x (record m { rest = r }) bytes (Ok done)
  keep_ok m r done none h e =
      let same : record x { size = x.size + length bytes; rest = x.rest ++ bytes } ≡ record m { rest = r } =
      ap (λ (y : Lexing). record y { rest = y.rest ++ bytes }) (sym h.1) ∙ ap (λ (u : List ℕ). record m { rest = u }) (sym e) in
      let P : Lexing → Type 0 = λ y. Reads x y bytes (Ok done) in
      subst P same (record { file = refl; finished = going.finished; refused = going.refused; stands = λ s n st. keeping x s n going st bytes none h.0 })

  pub keep_want : (m : Lexing) (r : List ℕ) → m ≡ counted_bytes → Reads x (record m { rest = r }) bytes (Err NoMemory)
  keep_want m r h =
      let P : Lexing → Type 0 = λ y. Stays x (record y { rest = r }) in
      want (record m { rest = r }) (subst P (sym h) (record { file = refl; finished = refl; refused = refl; waiting = refl; count = refl }))

  -- what is kept is shortened
  pub keep_short : (y z : Lexing) (done : Unit {0}) (result : Result (Unit {0}) Stop) → Reads x y bytes (Ok done) → Reads x y bytes (Err NoMemory) → Shortens y z result → Reads x z bytes result
  keep_short y z done (Ok u) a w h =
      let P : Lexing → Type 0 = λ v. Reads x v bytes (Ok u) in
      subst P (sym h.0) (record { file = a.file; finished = a.finished; refused = a.refused; stands = λ s n st. shortened y (s ++ bytes) n (record { finished = a.finished; refused = a.refused }) (a.stands s n st) z.rest h.1 h.2 h.3 })
  keep_short y z done (Err (At cause)) a w h = absurd h
  keep_short y z done (Err NoMemory) a w h = let P : Lexing → Type 0 = λ v. Reads x v bytes (Err NoMemory) in subst P (sym h) w

  -- the line ends in a state whose rest was taken out
  ends_line : IsLineEnd bytes → x.size + length bytes ≤ file_limit x.file → (new : Lexing) (result : Result (Unit {0}) Stop)
      → Ends (record x { size = x.size + length bytes; rest = [] }) new (read x.file (x.count + 1) (x.rest ++ bytes)) result → Reads x new bytes result
  ends_line end fits new result h =
      let keeps = ends_keeps (record x { size = x.size + length bytes; rest = [] }) new (read x.file (x.count + 1) (x.rest ++ bytes)) result h in
      record { file = keeps.file; finished = keeps.finished ∙ going.finished; refused = keeps.refused ∙ going.refused; stands = λ s n st. ending x s n going st bytes end fits new result h }

  pub end_empty : IsLineEnd bytes → (m : Lexing) → (x.size + length bytes ≤ file_limit x.file) × (m ≡ counted_bytes) → m.rest ≡ [] → (new : Lexing) (result : Result (Unit {0}) Stop)
      → Ends m new (read m.file (m.count + 1) bytes) result → Reads x new bytes result
  end_empty end m h none new result ends =
      let P : Lexing → Type 0 = λ y. Ends y new (read y.file (y.count + 1) bytes) result in
      let empty : x.rest ≡ [] = ap (λ (y : Lexing). y.rest) (sym h.1) ∙ none in
      let Q : List ℕ → Type 0 = λ u. Ends (record x { size = x.size + length bytes; rest = u }) new (read x.file (x.count + 1) bytes) result in
      let R : List ℕ → Type 0 = λ u. Ends (record x { size = x.size + length bytes; rest = [] }) new (read x.file (x.count + 1) (u ++ bytes)) result in
      ends_line end h.0 new result (subst R (sym empty) (subst Q empty (subst P h.1 ends)))

  pub end_kept : IsLineEnd bytes → (m : Lexing) → (x.size + length bytes ≤ file_limit x.file) × (m ≡ counted_bytes) → (r : List ℕ) → r ≡ m.rest ++ bytes → (new : Lexing) (result : Result (Unit {0}) Stop)
      → Ends (record m { rest = [] }) new (read m.file (m.count + 1) r) result → Reads x new bytes result
  end_kept end m h r e new result ends =
      let P : List ℕ → Type 0 = λ u. Ends (record m { rest = [] }) new (read m.file (m.count + 1) u) result in
      let Q : Lexing → Type 0 = λ y. Ends (record y { rest = [] }) new (read y.file (y.count + 1) (y.rest ++ bytes)) result in
      ends_line end h.0 new result (subst Q h.1 (subst P e ends))

-- ## Piece by piece

pub reads_begin : (x : Lexing) (done : Unit {0}) → IsGoing x → Reads x x [] (Ok done)
reads_begin x done going = record { file = refl; finished = going.finished; refused = going.refused; stands = λ s n st. let P : List ℕ → Type 0 = λ u. StandsFor x u n in subst P (sym (append-nil s)) st }

pub reads_going : (x y : Lexing) (bytes : List ℕ) (result : Result (Unit {0}) Stop) → Reads x y bytes result → IsGoing y
reads_going x y bytes result r = record { finished = r.finished; refused = r.refused }

pub reads_more : (x y z : Lexing) (xs ys : List ℕ) (done : Unit {0}) (result : Result (Unit {0}) Stop) → Reads x y xs (Ok done) → Reads y z ys result → Reads x z (xs ++ ys) result
reads_more x y z xs ys done result a b = record {
  file = b.file ∙ a.file;
  finished = b.finished;
  refused = b.refused;
  stands = λ s n st. let P : List ℕ → Type 0 = λ u. StandsFor (outcome z result) u n in subst P (append_assoc s xs ys) (b.stands (s ++ xs) n (a.stands s n st));
}

-- after a stop the bytes that follow change nothing
pub reads_stop : (x z : Lexing) (xs ys : List ℕ) (stop : Stop) → Reads x z xs (Err stop) → Reads x z (xs ++ ys) (Err stop)
reads_stop x z xs ys stop a = record {
  file = a.file;
  finished = a.finished;
  refused = a.refused;
  stands = λ s n st. let P : List ℕ → Type 0 = λ u. StandsFor (outcome z (Err stop)) u n in subst P (append_assoc s xs ys) (kept_feed (outcome z (Err stop)) (s ++ xs) ys n (refusal_of z stop) a.finished refl (a.stands s n st));
}

-- the next line of a piece from `start` on, and what follows it
pub next_part : (start len : ℕ) (piece : List ℕ) → len ≤ length (take (length piece - start) (drop start piece)) → take len (take (length piece - start) (drop start piece)) ≡ take (start + len - start) (drop start piece)
next_part start len piece h = let e : start + len - start ≡ len = omega arith in ap (take len) (take_rest piece start) ∙ ap (λ (n : ℕ). take n (drop start piece)) (sym e)

pub part_end : (start len : ℕ) (piece : List ℕ) → start ≤ length piece → len ≤ length (take (length piece - start) (drop start piece)) → start + len ≤ length piece
part_end start len piece le h = let e = ap length (take_rest piece start) ∙ length-drop start piece in omega arith

pub parts_join : (start len : ℕ) (piece : List ℕ) → take start piece ++ take (start + len - start) (drop start piece) ≡ take (start + len) piece
parts_join start len piece = let e : start + len - start ≡ len = omega arith in rw e (sym (take-add start len piece))

pub parts_whole : (start : ℕ) (piece : List ℕ) → take start piece ++ take (length piece - start) (drop start piece) ≡ piece
parts_whole start piece = ap (λ (u : List ℕ). take start piece ++ u) (take_rest piece start) ∙ take-append-drop start piece

-- the parts so far, and the next one
pub piece_more : (x y z : Lexing) (start len : ℕ) (piece : List ℕ) (done : Unit {0}) (result : Result (Unit {0}) Stop) → Reads x y (take start piece) (Ok done) → Reads y z (take (start + len - start) (drop start piece)) result → Reads x z (take (start + len) piece) result
piece_more x y z start len piece done result a b = let P : List ℕ → Type 0 = λ u. Reads x z u result in subst P (parts_join start len piece) (reads_more x y z (take start piece) (take (start + len - start) (drop start piece)) done result a b)

pub piece_stop : (x y z : Lexing) (start len : ℕ) (piece : List ℕ) (done : Unit {0}) (stop : Stop) → Reads x y (take start piece) (Ok done) → Reads y z (take (start + len - start) (drop start piece)) (Err stop) → Reads x z piece (Err stop)
piece_stop x y z start len piece done stop a b = let P : List ℕ → Type 0 = λ u. Reads x z u (Err stop) in subst P (take-append-drop (start + len) piece) (reads_stop x z (take (start + len) piece) (drop (start + len) piece) stop (piece_more x y z start len piece done (Err stop) a b))

pub piece_last : (x y z : Lexing) (start : ℕ) (piece : List ℕ) (done : Unit {0}) (result : Result (Unit {0}) Stop) → Reads x y (take start piece) (Ok done) → Reads y z (take (length piece - start) (drop start piece)) result → Reads x z piece result
piece_last x y z start piece done result a b = let P : List ℕ → Type 0 = λ u. Reads x z u result in subst P (parts_whole start piece) (reads_more x y z (take start piece) (take (length piece - start) (drop start piece)) done result a b)

-- a stop that is kept as a refusal
pub refused_as : (y z : Lexing) (stop : Stop) (r : Refusal) → r ≡ refusal_of y stop → z ≡ record y { refused = Some r } → outcome y (Err stop) ≡ z
refused_as y z stop r e h = ap (λ (q : Refusal). record y { refused = Some q }) (sym e) ∙ sym h

pub feed_refused : (x y z : Lexing) (bytes : List ℕ) (stop : Stop) (r : Refusal) → Reads x y bytes (Err stop) → r ≡ refusal_of y stop → z ≡ record y { refused = Some r } → (s : List ℕ) (n : ℕ) → StandsFor x s n → StandsFor z (s ++ bytes) n
feed_refused x y z bytes stop r a e h s n st = let P : Lexing → Type 0 = λ v. StandsFor v (s ++ bytes) n in subst P (refused_as y z stop r e h) (a.stands s n st)

-- ## The end of the stream

closes_keeps : (x new : Lexing) (result : Result (Unit {0}) Stop) → Closes x new result → Keeps x new
closes_keeps x new (Ok done) h = let P : Lexing → Type 0 = λ y. Keeps x y in subst P (sym h) (record { file = refl; finished = refl; refused = refl })
closes_keeps x new (Err (At cause)) h = absurd h
closes_keeps x new (Err NoMemory) h = record { file = h.file; finished = h.finished; refused = h.refused }

module _ (x : Lexing) (going : IsGoing x) where
  pub lines_empty : x.rest ≡ [] → (new : Lexing) (result : Result (Unit {0}) Stop) → Closes x new result → EndsStream x new result
  lines_empty none new result h =
      let keeps = closes_keeps x new result h in
      record { file = keeps.file; refused = keeps.refused ∙ going.refused; stands = λ s n st. finish_empty x s n going st none new result h }

  pub lines_stop : (x.rest ≡ [] → ⊥) → (new : Lexing) (stop : Stop) → Ends (record x { rest = [] }) new (read x.file (x.count + 1) x.rest) (Err stop) → EndsStream x new (Err stop)
  lines_stop some_rest new stop h =
      let keeps = ends_keeps (record x { rest = [] }) new (read x.file (x.count + 1) x.rest) (Err stop) h in
      record { file = keeps.file; refused = keeps.refused ∙ going.refused; stands = λ s n st. finish_stop x s n going st some_rest new stop h }

  pub lines_close : (x.rest ≡ [] → ⊥) → (mid : Lexing) (done : Unit {0}) → Ends (record x { rest = [] }) mid (read x.file (x.count + 1) x.rest) (Ok done) → (new : Lexing) (result : Result (Unit {0}) Stop) → Closes mid new result → EndsStream x new result
  lines_close some_rest mid done ends new result h =
      let first = ends_keeps (record x { rest = [] }) mid (read x.file (x.count + 1) x.rest) (Ok done) ends in
      let keeps = closes_keeps mid new result h in
      record { file = keeps.file ∙ first.file; refused = keeps.refused ∙ first.refused ∙ going.refused; stands = λ s n st. finish_close x s n going st some_rest mid done ends new result h }

pub finish_refused : (x y z : Lexing) (stop : Stop) (r : Refusal) → EndsStream x y (Err stop) → r ≡ refusal_of y stop → z ≡ record y { refused = Some r } → (s : List ℕ) (n : ℕ) → StandsFor x s n → StandsFor (at_end z) s n
finish_refused x y z stop r a e h s n st = let P : Lexing → Type 0 = λ v. StandsFor (at_end v) s n in subst P (refused_as y z stop r e h) (a.stands s n st)
