-- What the public calls answer.
use Rattle.std.proofs.Common.{◌≡◌, ℕ, zero, suc, ◌+◌, ◌-◌, ◌≤◌, List, [], ◌∷◌, ◌++◌, length, drop, Bool, true, false, Option, Some, None, Result, Ok, Err, refl, sym, ap, subst, ◌∙◌, arith, inl, inr, ◌⊎◌}
use Rattle.std.specs.Prelude.{option_to_list, slice_get}
use Rattle.std.proofs.lemmas.List.{length-drop}
use Rattle.cvc_base.specs.declared.fault.FileKind.{FileKind}
use Rattle.cvc_base.specs.declared.fault.Refusal.{Refusal}
use Rattle.cvc_base.specs.declared.fault.Refusal.TheVariants.{At, NoMemory}
use Rattle.cvc_base.specs.declared.line.Line.{Line}
use Rattle.cvc_lex.specs.Physical.{read, ended, open_rest}
use Rattle.cvc_lex.specs.Lines.{sure_fault, lexical, closed, opened, first_fault, closed_so_far}
use Rattle.cvc_base.specs.Answers.{IfAt, Refuses, refusal_in}
use Rattle.cvc_lex.specs.Lexing.{Lexing, StandsFor, closed_in, fault_in, IsFirstFaultOf, TakesFirst, Hands}
use Rattle.cvc_base.specs.declared.stop.Stop.{Stop}
use Rattle.cvc_lex.specs.Scanning.{Reads, EndsStream, outcome, at_end}
use Rattle.cvc_lex.proofs.Standing.{stands_none, stands_at, stands_part, none_facts, at_facts, part_facts, kept_feed, kept_finish}
use Rattle.cvc_lex.proofs.Faults.{decided-append, first-nil, so_far-none, sure_from_none}
use Rattle.cvc_lex.proofs.Streams.{ended-none, rest-nil}
use Rattle.cvc_lex.proofs.Grouping.{closed-nil, opened-nil}

-- ## Refusals

pub refuses : (y : Lexing) (s : List ℕ) (n : ℕ) (b : Bool) (result : Result (Unit {0}) Refusal) → y.finished ≡ b → y.refused ≡ refusal_in result → StandsFor y s n → Refuses (fault_in y.file b s) result
refuses y s n b (Ok done) e r st = (none_facts y s n b e r st).0
refuses y s n b (Err (At fault)) e r st = (at_facts y s n b e fault r st).0
refuses y s n b (Err NoMemory) e r st = tt

pub sure_at : (y : Lexing) (s : List ℕ) (n : ℕ) (result : Result (Unit {0}) Refusal) → y.finished ≡ false → y.refused ≡ refusal_in result → StandsFor y s n → IfAt result (IsFirstFaultOf y.file s)
sure_at y s n (Ok done) e r st = tt
sure_at y s n (Err (At fault)) e r st = λ more. decided-append y.file s more fault (at_facts y s n false e fault r st).0
sure_at y s n (Err NoMemory) e r st = tt

-- ## Lines

front : (xs ys : List Line) (x : Line) (n : ℕ) → x ∷ ys ≡ drop n xs → (slice_get xs n ≡ Some x) × (ys ≡ drop (n + 1) xs) × (n + 1 ≤ length xs)
front [] ys x zero h = absurd cc
front [] ys x (suc n) h = absurd cc
front (z ∷ xs) ys x zero h = let first : x ≡ z = cc in let rest : ys ≡ xs = cc in (ap (λ (w : Line). Some w) (sym first), rest, omega arith)
front (z ∷ xs) ys x (suc n) h = let f = front xs ys x n h in let e : suc n + 1 ≡ suc (n + 1) = omega arith in (f.0, rw e f.1, let le = f.2 in omega arith)

all_handed : (xs : List Line) (n : ℕ) → n ≤ length xs → [] ≡ drop n xs → n ≡ length xs
all_handed xs n le h = let e : 0 ≡ length xs - n = ap length h ∙ length-drop n xs in omega arith

module _ (x : Lexing) (s : List ℕ) (n : ℕ) (st : StandsFor x s n) where
  abbrev all : List Line
  all = closed_in x.file x.finished s

  -- a line is handed out
  abbrev less : List Line → Lexing
  less ys = record x { waiting = ys }

  handed_some : (line : Line) (ys : List Line) → x.waiting ≡ line ∷ ys → (o : Option Refusal) → x.refused ≡ o → Hands x (less ys) s n (Some line)
  handed_some line ys w None r =
      let h = none_facts x s n x.finished refl r st in
      let f = front all ys line n (sym w ∙ h.1) in
      (stands_none (less ys) s (n + 1) x.finished refl r f.2 h.0 f.1 (λ e. let g = h.2 e in record { count = g.count; size = g.size; started = g.started; rest = g.rest; none = g.none; begun = g.begun }), f.0)
  handed_some line ys w (Some (At fault)) r =
      let h = at_facts x s n x.finished refl fault r st in
      let f = front all ys line n (sym w ∙ h.1) in
      (stands_at (less ys) s (n + 1) x.finished refl fault r f.2 h.0 f.1, f.0)
  handed_some line ys w (Some NoMemory) r =
      let h = part_facts x s n x.finished refl r st in
      let f = front all (ys ++ h.0) line n (ap (λ (ws : List Line). ws ++ h.0) (sym w) ∙ h.1) in
      (stands_part (less ys) s (n + 1) x.finished refl r f.2 (h.0, f.1), f.0)

  handed_none : (ys : List Line) → x.waiting ≡ ys → (o : Option Refusal) → x.refused ≡ o → ys ≡ [] → (n ≡ length all) ⊎ (x.refused ≡ Some NoMemory)
  handed_none ys w None r e = inl (all_handed all n st.within (sym e ∙ sym w ∙ (none_facts x s n x.finished refl r st).1))
  handed_none ys w (Some (At fault)) r e = inl (all_handed all n st.within (sym e ∙ sym w ∙ (at_facts x s n x.finished refl fault r st).1))
  handed_none ys w (Some NoMemory) r e = inr r

pub hands : (x new : Lexing) (result : Option Line) (ys : List Line) → TakesFirst x.waiting ys result → new ≡ record x { waiting = ys } → (s : List ℕ) (n : ℕ) → StandsFor x s n → Hands x new s n result
hands x new (Some line) ys w e s n st = let P : Lexing → Type 0 = λ y. Hands x y s n (Some line) in subst P (sym e) (handed_some x s n st line ys w x.refused refl)
hands x new None ys w e s n st =
    let P : Lexing → Type 0 = λ y. StandsFor y s n in
    let same : record x { waiting = ys } ≡ x = ap (λ (ls : List Line). record x { waiting = ls }) (w.1 ∙ sym w.0) in
    (subst P (sym (e ∙ same)) st, handed_none x s n st [] w.0 x.refused refl refl)

-- ## A lexer that has read nothing

pub fresh : (kind : FileKind) → StandsFor (record { file = kind; finished = false; refused = None; waiting = []; started = None; count = 0; size = 0; rest = [] }) [] 0
fresh kind =
    let x : Lexing = record { file = kind; finished = false; refused = None; waiting = []; started = None; count = 0; size = 0; rest = [] } in
    let nothing : ended [] ≡ [] = ended-none [] refl in
    let first : first_fault kind [] (ended []) ≡ None = ap (first_fault kind []) nothing ∙ first-nil kind [] in
    let rest : open_rest [] ≡ [] = rest-nil in
    let none : closed_so_far kind [] ≡ [] = so_far-none kind [] first ∙ ap (closed kind) nothing ∙ closed-nil kind in
    stands_none x [] 0 false refl refl (omega arith) (sure_from_none kind [] first (omega arith)) (sym none) (λ _. record {
      count = ap length (sym nothing);
      size = refl;
      started = sym (ap (opened kind) nothing ∙ opened-nil kind);
      rest = λ more number. ap (λ (u : List ℕ). read kind number (u ++ more)) (sym rest);
      none = λ _. rest;
      begun = λ _. refl;
    })

-- ## A step whose refusal is kept

pub outcome_keeps : (x : Lexing) (done : Result (Unit {0}) Stop) → ((outcome x done).file ≡ x.file) × ((outcome x done).finished ≡ x.finished)
outcome_keeps x (Ok u) = (refl, refl)
outcome_keeps x (Err stop) = (refl, refl)

pub fed : (x mid y : Lexing) (piece : List ℕ) (done : Result (Unit {0}) Stop) → Reads x mid piece done → y ≡ outcome mid done → (s : List ℕ) (n : ℕ) → StandsFor x s n → StandsFor y (s ++ piece) n
fed x mid y piece done r e s n st = let P : Lexing → Type 0 = λ z. StandsFor z (s ++ piece) n in subst P (sym e) (r.stands s n st)

pub fed_same : (x mid y : Lexing) (piece : List ℕ) (done : Result (Unit {0}) Stop) → Reads x mid piece done → y ≡ outcome mid done → (y.file ≡ x.file) × (y.finished ≡ false)
fed_same x mid y piece done r e =
    let keeps = outcome_keeps mid done in
    (ap (λ (z : Lexing). z.file) e ∙ keeps.0 ∙ r.file, ap (λ (z : Lexing). z.finished) e ∙ keeps.1 ∙ r.finished)

pub finished : (x mid y : Lexing) (done : Result (Unit {0}) Stop) → EndsStream x mid done → y ≡ outcome mid done → (s : List ℕ) (n : ℕ) → StandsFor x s n → StandsFor (at_end y) s n
finished x mid y done r e s n st = let P : Lexing → Type 0 = λ z. StandsFor (at_end z) s n in subst P (sym e) (r.stands s n st)

pub finished_file : (x mid y : Lexing) (done : Result (Unit {0}) Stop) → EndsStream x mid done → y ≡ outcome mid done → y.file ≡ x.file
finished_file x mid y done r e = ap (λ (z : Lexing). z.file) e ∙ (outcome_keeps mid done).0 ∙ r.file

-- the front of a list is taken, if it has one
pub takes_front : (old new : List Line) (front : Option Line) → old ≡ option_to_list front ++ new → new ≡ drop 1 old → TakesFirst old new front
takes_front old new (Some line) e d = e
takes_front [] new None e d = (refl, sym e)
takes_front (line ∷ old) new None e d = let long = ap length e in let short = ap length d in absurd (omega arith)

-- ## A refusal that was kept

pub kept_refuses : (x : Lexing) (piece : List ℕ) (r : Refusal) → x.finished ≡ false → x.refused ≡ Some r → (s : List ℕ) (n : ℕ) → StandsFor x s n → Refuses {A = Unit {0}} (sure_fault x.file (s ++ piece)) (Err r)
kept_refuses x piece r e h s n st = refuses x (s ++ piece) n false (Err r) e h (kept_feed x s piece n r e h st)

pub kept_sure : (x : Lexing) (piece : List ℕ) (r : Refusal) → x.finished ≡ false → x.refused ≡ Some r → (s : List ℕ) (n : ℕ) → StandsFor x s n → IfAt {A = Unit {0}} (Err r) (IsFirstFaultOf x.file (s ++ piece))
kept_sure x piece r e h s n st = sure_at x (s ++ piece) n (Err r) e h (kept_feed x s piece n r e h st)

pub kept_lexical : (x : Lexing) (r : Refusal) → x.finished ≡ false → x.refused ≡ Some r → (s : List ℕ) (n : ℕ) → StandsFor x s n → Refuses {A = Unit {0}} (lexical x.file s) (Err r)
kept_lexical x r e h s n st = refuses (at_end x) s n true (Err r) refl h (kept_finish x s n r e h st)
