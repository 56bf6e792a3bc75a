-- A netlist that is read in pieces: what a piece, and the end, decide of it.
use Rattle.std.proofs.Common.{◌≡◌, ℕ, All, true, false, List, [], ◌++◌, length, take, drop, Option, Some, None, Result, Ok, Err, refl, sym, ap, subst, ◌∙◌, append-nil, append_assoc}
use Rattle.std.specs.Prelude.{IfOk, OnOk}
use Rattle.std.proofs.lemmas.List.{take-append-drop}
use Rattle.cvc_base.specs.Answers.{Gives, IfAt, Refuses, refusal_in}
use Rattle.cvc_base.specs.declared.fault.Fault.{Fault}
use Rattle.cvc_base.specs.declared.fault.FileKind.{FileKind}
use Rattle.cvc_base.specs.declared.fault.FileKind.TheVariants.{Netlist as NetlistFile}
use Rattle.cvc_base.specs.declared.fault.Refusal.{Refusal}
use Rattle.cvc_base.specs.declared.fault.Refusal.TheVariants.{At, NoMemory}
use Rattle.cvc_base.specs.declared.line.Line.{Line}
use Rattle.cvc_lex.specs.Laws.{HasToken}
use Rattle.cvc_lex.specs.Lexing.{Lexing, StandsFor, HasRead as LexerHasRead, HasLines, IsFirstFaultOf, closed_in}
use Rattle.cvc_lex.specs.Lines.{closed_at_end, closed_so_far, faultless, groups, lexical, logical}
use Rattle.cvc_lex.specs.Physical.{ended as ended_lines}
use Rattle.cvc_lex.proofs.Faults.{at_end_stays, so_far_stays}
use Rattle.cvc_lex.proofs.Tokened.{at_end_tokens, so_far_tokens}
use Rattle.cvc_cdl.specs.declared.netlist.Netlist.{Netlist}
use Rattle.cvc_cdl.specs.Builder.{Building, HasBuilt, StandsFor as BuilderStandsFor}
use Rattle.cvc_cdl.specs.Building.{or_else}
use Rattle.cvc_cdl.specs.Ending.{ending_fault, reading_of, unless_fault}
use Rattle.cvc_cdl.specs.File.{ended, entries_from, entries_of, file_of, then_lexical}
use Rattle.cvc_cdl.specs.Levels.{Entry}
use Rattle.cvc_cdl.specs.Netlist.{netlist_of}
use Rattle.cvc_run.specs.Reader.{Builds, HasCards, HasRead, IsDecided, Passes, StopsAt}
use Rattle.cvc_run.specs.declared.netlist.NetlistReader.{NetlistReader}
use Rattle.cvc_run.proofs.Passing.{entries_from-fault}
use Rattle.cvc_run.proofs.Waiting.{passed, stands_handed, stopped, tokens}
use Rattle.cvc_base.specs.Order.{◌>>=◌}

entries_by : (bytes : List ℕ) (r : Result (List Entry) Fault) → entries_from [] (closed_at_end NetlistFile bytes) ≡ r → entries_of bytes ≡ ◌>>=◌ r (then_lexical (lexical NetlistFile bytes))
unfolding entries_of
entries_by bytes r e = ap (λ x. ◌>>=◌ x (then_lexical (lexical NetlistFile bytes))) e

file_by : (bytes : List ℕ) (top : Option (List ℕ)) (r : Result (List Entry) Fault) → entries_of bytes ≡ r → file_of bytes top ≡ ◌>>=◌ r (ended top)
unfolding file_of
file_by bytes top r e = ap (λ x. ◌>>=◌ x (ended top)) e

-- a fault of the lines of the whole file
file_fault : (bytes : List ℕ) (top : Option (List ℕ)) (fault : Fault) → entries_from [] (closed_at_end NetlistFile bytes) ≡ Err fault → file_of bytes top ≡ Err fault
file_fault bytes top fault e = file_by bytes top (Err fault) (entries_by bytes (Err fault) e)

file_lexical : (bytes : List ℕ) (top : Option (List ℕ)) (es : List Entry) (fault : Fault) → entries_from [] (closed_at_end NetlistFile bytes) ≡ Ok es → lexical NetlistFile bytes ≡ Some fault → file_of bytes top ≡ Err fault
file_lexical bytes top es fault e lex = file_by bytes top (Err fault) (entries_by bytes (Ok es) e ∙ ap (λ o. then_lexical o es) lex)

file_ended : (bytes : List ℕ) (top : Option (List ℕ)) (es : List Entry) → entries_from [] (closed_at_end NetlistFile bytes) ≡ Ok es → lexical NetlistFile bytes ≡ None → file_of bytes top ≡ ended top es
file_ended bytes top es e lex = file_by bytes top (Ok es) (entries_by bytes (Ok es) e ∙ ap (λ o. then_lexical o es) lex)

-- the lines that are closed so far stand in front of those of the whole file
front_of_whole : (stream more : List ℕ) → (later : List Line) × (closed_at_end NetlistFile (stream ++ more) ≡ closed_so_far NetlistFile stream ++ later)
front_of_whole stream more =
    let x = so_far_stays NetlistFile stream more in
    let y = at_end_stays NetlistFile (stream ++ more) in
    (x.0 ++ y.0, y.1 ∙ ap (λ ls. ls ++ y.0) x.1 ∙ append_assoc (closed_so_far NetlistFile stream) x.0 y.0)

decided_by_lines : (stream : List ℕ) (fault : Fault) → entries_from [] (closed_so_far NetlistFile stream) ≡ Err fault → IsDecided stream fault
decided_by_lines stream fault e more top =
    let front = front_of_whole stream more in
    file_fault (stream ++ more) top fault (ap (entries_from []) front.1 ∙ entries_from-fault [] (closed_so_far NetlistFile stream) front.0 fault e)

-- ## A piece

module _ (r : NetlistReader) (stream piece : List ℕ) (h : HasRead r stream)
    (fed : Lexing) (stands : (s : List ℕ) (n : ℕ) → StandsFor r.lexer s n → StandsFor fed (s ++ piece) n) (same : (fed.file ≡ r.lexer.file) × (fed.finished ≡ false)) where
  kind : fed.file ≡ NetlistFile
  kind = same.0 ∙ h.file

  later : (more : List Line) × (closed_so_far NetlistFile (stream ++ piece) ≡ closed_so_far NetlistFile stream ++ more)
  later = so_far_stays NetlistFile stream piece

  stands_now : StandsFor fed (stream ++ piece) (length (closed_so_far NetlistFile stream))
  stands_now = stands stream (length (closed_so_far NetlistFile stream)) h.lines

  closed_now : closed_in fed.file fed.finished (stream ++ piece) ≡ closed_so_far NetlistFile (stream ++ piece)
  closed_now = λ i. closed_in (kind i) (same.1 i) (stream ++ piece)

  pub fed_tokens : All HasToken fed.waiting
  fed_tokens = tokens fed (stream ++ piece) (closed_so_far NetlistFile stream) (closed_so_far NetlistFile (stream ++ piece)) later.0 stands_now closed_now later.1 (so_far_tokens NetlistFile (stream ++ piece))

  pub fed_stops : (fault : Fault) → StopsAt r.builder fed.waiting fault → IsDecided (stream ++ piece) fault
  fed_stops fault stops =
      decided_by_lines (stream ++ piece) fault
      (stopped fed (stream ++ piece) (closed_so_far NetlistFile stream) (closed_so_far NetlistFile (stream ++ piece)) later.0 stands_now closed_now later.1 r.builder h.cards.0 h.cards.1 h.cards.2 fault stops)

  fed_cards : (o : Option Refusal) → fed.refused ≡ o → (LexerHasRead fed (stream ++ piece) (length (closed_so_far NetlistFile stream)) o → HasLines fed (stream ++ piece) (length (closed_so_far NetlistFile stream)))
      → (new : Building) → Passes r.builder fed.waiting new → HasCards new (stream ++ piece)
  fed_cards o is lines new passes =
      passed fed (stream ++ piece) (closed_so_far NetlistFile stream) (closed_so_far NetlistFile (stream ++ piece)) later.0 stands_now closed_now later.1 r.builder h.cards.0 h.cards.1 h.cards.2 new
      (lines (subst (LexerHasRead fed (stream ++ piece) (length (closed_so_far NetlistFile stream))) is stands_now.state)) passes

  -- all lines are passed on, and no fault is sure
  pub fed_reads : (new : NetlistReader) → new.lexer ≡ record fed { waiting = [] } → Passes r.builder fed.waiting new.builder → fed.refused ≡ None → HasRead new (stream ++ piece)
  fed_reads new handed passes none = record {
    file = ap (λ (x : Lexing). x.file) handed ∙ kind;
    going = ap (λ (x : Lexing). x.finished) handed ∙ same.1;
    refused = ap (λ (x : Lexing). x.refused) handed ∙ none;
    lines = subst (λ (x : Lexing). StandsFor x (stream ++ piece) (length (closed_so_far NetlistFile (stream ++ piece)))) (sym handed)
        (subst (λ (ls : List Line). StandsFor (record fed { waiting = [] }) (stream ++ piece) (length ls)) closed_now (stands_handed fed (stream ++ piece) (length (closed_so_far NetlistFile stream)) stands_now none));
    cards = fed_cards None none (λ s. s.1) new.builder passes;
  }

  -- all lines are passed on, and the lexer's fault is sure
  pub fed_refused : (new : Building) → Passes r.builder fed.waiting new → (x : Refusal) → fed.refused ≡ Some x
      → IfAt {A = Unit {0}} (Err x) (IsFirstFaultOf r.lexer.file (stream ++ piece)) → IfAt {A = Unit {0}} (Err x) (IsDecided (stream ++ piece))
  fed_refused new passes (At fault) is sure = λ more top.
      let first = subst (λ (k : FileKind). IsFirstFaultOf k (stream ++ piece) fault) h.file sure in
      let cards = fed_cards (Some (At fault)) is (λ s. s.1) new passes in
      file_lexical ((stream ++ piece) ++ more) top cards.0 fault (ap (entries_from []) (first more).1 ∙ cards.1) (first more).0
  fed_refused new passes NoMemory is sure = tt

  -- a line is refused
  pub feed_stopped : (x : Refusal) → IfAt {A = Unit {0}} (Err x) (StopsAt r.builder fed.waiting) → IfAt {A = Unit {0}} (Err x) (IsDecided (stream ++ piece))
  feed_stopped (At fault) stops = fed_stops fault stops
  feed_stopped NoMemory stops = tt

  -- the answer of the lexer, once all lines are passed on
  pub feed_answers : (new : NetlistReader) → new.lexer ≡ record fed { waiting = [] } → Passes r.builder fed.waiting new.builder → (result : Result (Unit {0}) Refusal) → fed.refused ≡ refusal_in result
      → IfAt result (IsFirstFaultOf r.lexer.file (stream ++ piece)) → OnOk result (HasRead new (stream ++ piece)) × IfAt result (IsDecided (stream ++ piece))
  feed_answers new handed passes (Ok done) is sure = (fed_reads new handed passes is, tt)
  feed_answers new handed passes (Err (At fault)) is sure = (tt, fed_refused new.builder passes (At fault) is sure)
  feed_answers new handed passes (Err NoMemory) is sure = (tt, tt)

-- ## The end

read_as_ended : (b : Building) (entries : List Entry) (top : Option (List ℕ)) → Builds b entries → reading_of entries top ≡ ended top entries
unfolding reading_of
read_as_ended b entries top builds = ap (λ o. unless_fault (or_else o (ending_fault entries top)) (netlist_of entries top)) (subst (HasBuilt b.draft entries) builds.0 builds.1).faultless

module _ (r : NetlistReader) (stream : List ℕ) (h : HasRead r stream)
    (end : Lexing) (stands : (s : List ℕ) (n : ℕ) → StandsFor r.lexer s n → StandsFor end s n) (same : (end.file ≡ r.lexer.file) × (end.finished ≡ true)) where
  end_kind : end.file ≡ NetlistFile
  end_kind = same.0 ∙ h.file

  end_later : (more : List Line) × (closed_at_end NetlistFile stream ≡ closed_so_far NetlistFile stream ++ more)
  end_later = at_end_stays NetlistFile stream

  stands_end : StandsFor end stream (length (closed_so_far NetlistFile stream))
  stands_end = stands stream (length (closed_so_far NetlistFile stream)) h.lines

  closed_end : closed_in end.file end.finished stream ≡ closed_at_end NetlistFile stream
  closed_end = λ i. closed_in (end_kind i) (same.1 i) stream

  pub end_tokens : All HasToken end.waiting
  end_tokens = tokens end stream (closed_so_far NetlistFile stream) (closed_at_end NetlistFile stream) end_later.0 stands_end closed_end end_later.1 (at_end_tokens NetlistFile stream)

  module _ (top : Option (List ℕ)) where
    pub end_stops : (fault : Fault) → StopsAt r.builder end.waiting fault → file_of stream top ≡ Err fault
    end_stops fault stops =
        file_fault stream top fault
        (stopped end stream (closed_so_far NetlistFile stream) (closed_at_end NetlistFile stream) end_later.0 stands_end closed_end end_later.1 r.builder h.cards.0 h.cards.1 h.cards.2 fault stops)

    pub end_stopped : (x : Refusal) → IfAt {A = Unit {0}} (Err x) (StopsAt r.builder end.waiting) → Gives {A = Netlist} (λ n. n) (Err x) (file_of stream top)
    end_stopped (At fault) stops = end_stops fault stops
    end_stopped NoMemory stops = tt

    module _ (new : Building) (passes : Passes r.builder end.waiting new) where
      end_cards : (o : Option Refusal) → end.refused ≡ o → (LexerHasRead end stream (length (closed_so_far NetlistFile stream)) o → HasLines end stream (length (closed_so_far NetlistFile stream)))
          → (entries : List Entry) × (entries_from [] (closed_at_end NetlistFile stream) ≡ Ok entries) × Builds new entries
      end_cards o is lines =
          passed end stream (closed_so_far NetlistFile stream) (closed_at_end NetlistFile stream) end_later.0 stands_end closed_end end_later.1 r.builder h.cards.0 h.cards.1 h.cards.2 new
          (lines (subst (LexerHasRead end stream (length (closed_so_far NetlistFile stream))) is stands_end.state)) passes

      -- the lexer has a fault
      pub end_refused : (x : Refusal) → end.refused ≡ Some x → Refuses {A = Unit {0}} (lexical r.lexer.file stream) (Err x) → Gives {A = Netlist} (λ n. n) (Err x) (file_of stream top)
      end_refused (At fault) is refuses =
          let cards = end_cards (Some (At fault)) is (λ s. s.1) in
          file_lexical stream top cards.0 fault cards.1 (ap (λ k. lexical k stream) (sym h.file) ∙ refuses)
      end_refused NoMemory is refuses = tt

      -- the lexer has none
      module _ (none : end.refused ≡ None) (lex : lexical r.lexer.file stream ≡ None) where
        pub end_built : (entries : List Entry) × Builds new entries × (file_of stream top ≡ reading_of entries top)
        end_built =
            let cards = end_cards None none (λ s. s.1) in
            (cards.0, cards.2, file_ended stream top cards.0 cards.1 (ap (λ k. lexical k stream) (sym h.file) ∙ lex) ∙ sym (read_as_ended new cards.0 top cards.2))

-- the answer of the builder
pub gives_by : (w : Result Netlist Fault) (r : Result Netlist Refusal) → IfOk r (λ n. w ≡ Ok n) → IfAt r (λ fault. w ≡ Err fault) → Gives (λ n. n) r w
gives_by w (Ok n) ok at = ok
gives_by w (Err (At fault)) ok at = at
gives_by w (Err NoMemory) ok at = tt

-- ## The beginning

pub reads_nothing : (r : NetlistReader) → StandsFor r.lexer [] 0 → (r.lexer.file ≡ NetlistFile) × (r.lexer.finished ≡ false) × (r.lexer.refused ≡ None) → BuilderStandsFor r.builder [] → r.builder.refused ≡ None → HasRead r []
unfolding closed_so_far faultless ended_lines logical groups entries_from
reads_nothing r stands fresh built none = record {
  file = fresh.0;
  going = fresh.1;
  refused = fresh.2;
  lines = stands;
  cards = ([], refl, (none, built));
}

-- what is decided stays so, whatever follows
pub decided_longer : (stream later : List ℕ) (x : Refusal) → IfAt {A = Unit {0}} (Err x) (IsDecided stream) → IfAt {A = Unit {0}} (Err x) (IsDecided (stream ++ later))
decided_longer stream later (At fault) h = λ more top. ap (λ b. file_of b top) (append_assoc stream later more) ∙ h (later ++ more) top
decided_longer stream later NoMemory h = tt

-- the next piece goes behind what was read
pub piece_behind : (text fed rest piece later : List ℕ) (n : ℕ) → text ≡ fed ++ rest → piece ≡ take n rest → later ≡ drop n rest → text ≡ (fed ++ piece) ++ later
piece_behind text fed rest piece later n split front back =
    split ∙ ap (λ r. fed ++ r) (sym (take-append-drop n rest) ∙ ap (λ p. p ++ drop n rest) (sym front) ∙ ap (λ l. piece ++ l) (sym back))
    ∙ sym (append_assoc fed piece later)

-- a fault that is decided by a front of a text is decided by the text
pub decided_by_front : (text front later : List ℕ) (x : Refusal) → text ≡ front ++ later → IfAt {A = Unit {0}} (Err x) (IsDecided front) → IfAt {A = Unit {0}} (Err x) (IsDecided text)
decided_by_front text front later x split h = subst (λ t. IfAt {A = Unit {0}} (Err x) (IsDecided t)) (sym split) (decided_longer front later x h)

-- a text is decided by itself
pub text_stopped : (bytes : List ℕ) (top : Option (List ℕ)) (x : Refusal) → IfAt {A = Unit {0}} (Err x) (IsDecided bytes) → Gives {A = Netlist} (λ n. n) (Err x) (file_of bytes top)
text_stopped bytes top (At fault) h = ap (λ b. file_of b top) (sym (append-nil bytes)) ∙ h [] top
text_stopped bytes top NoMemory h = tt
