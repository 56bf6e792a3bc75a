-- Lines whose cards go to a builder one by one: what they say behind the cards before them.
use Rattle.std.proofs.Common.{◌≡◌, List, [], ◌∷◌, ◌++◌, Option, Some, None, Result, Ok, Err, refl, sym, ap, subst, ◌∙◌, append-nil, append_assoc}
use Rattle.std.specs.Prelude.{OnOk}
use Rattle.cvc_base.specs.Answers.{IfAt, Refuses, refusal_in}
use Rattle.cvc_base.specs.declared.cause.Cause.{Cause}
use Rattle.cvc_base.specs.declared.fault.Fault.{Fault}
use Rattle.cvc_base.specs.declared.fault.Place.{Place}
use Rattle.cvc_base.specs.declared.fault.Refusal.{Refusal}
use Rattle.cvc_base.specs.declared.fault.Refusal.TheVariants.{At, NoMemory}
use Rattle.cvc_base.specs.declared.line.Line.{Line}
use Rattle.cvc_card.specs.declared.card.Card.{Card}
use Rattle.cvc_card.specs.Card.{card_of}
use Rattle.cvc_card.specs.Refused.{IsRefused}
use Rattle.cvc_cdl.specs.Builder.{Building, HasBuilt, StandsFor, entry_of}
use Rattle.cvc_cdl.specs.Building.{building_fault, fault_of, or_else}
use Rattle.cvc_cdl.specs.Ending.{unless_fault}
use Rattle.cvc_cdl.specs.File.{entries_from, entry_at, entry_with}
use Rattle.cvc_cdl.specs.Levels.{Entry}
use Rattle.cvc_cdl.proofs.Placing.{first_fault-push}
use Rattle.cvc_run.specs.Reader.{Builds, Passes, StopsAt}
use Rattle.cvc_base.specs.Order.{◌>>=◌}

pub entries_from-nil : (earlier : List Entry) → entries_from earlier [] ≡ Ok earlier
unfolding entries_from
entries_from-nil earlier = refl

entries_from-cons : (earlier : List Entry) (line : Line) (lines : List Line) → entries_from earlier (line ∷ lines) ≡ ◌>>=◌ (entry_at earlier line) (λ e. entries_from (earlier ++ e ∷ []) lines)
unfolding entries_from
entries_from-cons earlier line lines = refl

then_assoc : {A B C : Type 0} (r : Result A Fault) (f : A → Result B Fault) (g : B → Result C Fault) → ◌>>=◌ r (λ x. ◌>>=◌ (f x) g) ≡ ◌>>=◌ (◌>>=◌ r f) g
then_assoc (Ok x) f g = refl
then_assoc (Err fault) f g = refl

pub entries_from-append : (earlier : List Entry) (xs ys : List Line) → entries_from earlier (xs ++ ys) ≡ ◌>>=◌ (entries_from earlier xs) (λ es. entries_from es ys)
entries_from-append earlier [] ys = ap (λ r. ◌>>=◌ r (λ es. entries_from es ys)) (sym (entries_from-nil earlier))
entries_from-append earlier (x ∷ xs) ys =
    entries_from-cons earlier x (xs ++ ys)
    ∙ by (entry_at earlier x) (λ e. entries_from-append (earlier ++ e ∷ []) xs ys)
    ∙ ap (λ r. ◌>>=◌ r (λ es. entries_from es ys)) (sym (entries_from-cons earlier x xs))
  where
    by : (r : Result Entry Fault) → ((e : Entry) → entries_from (earlier ++ e ∷ []) (xs ++ ys) ≡ ◌>>=◌ (entries_from (earlier ++ e ∷ []) xs) (λ es. entries_from es ys)) → ◌>>=◌ r (λ e. entries_from (earlier ++ e ∷ []) (xs ++ ys)) ≡ ◌>>=◌ (◌>>=◌ r (λ e. entries_from (earlier ++ e ∷ []) xs)) (λ es. entries_from es ys)
    by (Ok e) ih = ih e
    by (Err fault) ih = refl

-- a fault in front decides the whole
pub entries_from-fault : (earlier : List Entry) (xs ys : List Line) (fault : Fault) → entries_from earlier xs ≡ Err fault → entries_from earlier (xs ++ ys) ≡ Err fault
entries_from-fault earlier xs ys fault e = entries_from-append earlier xs ys ∙ ap (λ r. ◌>>=◌ r (λ es. entries_from es ys)) e

pub entries_from-ok : (earlier : List Entry) (xs ys : List Line) (es : List Entry) → entries_from earlier xs ≡ Ok es → entries_from earlier (xs ++ ys) ≡ entries_from es ys
entries_from-ok earlier xs ys es e = entries_from-append earlier xs ys ∙ ap (λ r. ◌>>=◌ r (λ es. entries_from es ys)) e

-- ## One line

abbrev fault_in : Place → Cause → Fault
fault_in place cause = record { place = place; cause = cause }

module _ (old : Building) (earlier : List Entry) (builds : Builds old earlier) where
  faultless : building_fault earlier ≡ None
  faultless = (subst (HasBuilt old.draft earlier) builds.0 builds.1).faultless

  next_fault : (e : Entry) → building_fault (earlier ++ e ∷ []) ≡ fault_of earlier e
  next_fault e = first_fault-push [] earlier e ∙ ap (λ o. or_else o (fault_of earlier e)) faultless

  module _ (line : Line) where
    one_line : (r : Result Entry Fault) → entry_at earlier line ≡ r → entries_from earlier (line ∷ []) ≡ ◌>>=◌ r (λ e. entries_from (earlier ++ e ∷ []) [])
    one_line r h = entries_from-cons earlier line [] ∙ ap (λ x. ◌>>=◌ x (λ e. entries_from (earlier ++ e ∷ []) [])) h

    one_fault : (fault : Fault) → entry_at earlier line ≡ Err fault → entries_from earlier (line ∷ []) ≡ Err fault
    one_fault fault h = one_line (Err fault) h

    one_entry : (e : Entry) → entry_at earlier line ≡ Ok e → entries_from earlier (line ∷ []) ≡ Ok (earlier ++ e ∷ [])
    one_entry e h = one_line (Ok e) h ∙ entries_from-nil (earlier ++ e ∷ [])

    module _ (card : Card) (read : card_of line ≡ Ok card) where
      entry_by : (o : Option Fault) → building_fault (earlier ++ entry_of card line.first ∷ []) ≡ o → entry_at earlier line ≡ unless_fault o (entry_of card line.first)
      entry_by o h = ap (entry_with earlier line.first) read ∙ ap (λ x. unless_fault x (entry_of card line.first)) (sym (next_fault (entry_of card line.first)) ∙ h)

-- the card of a line was added
pub passes_card : (old new : Building) (line : Line) (card : Card) → card_of line ≡ Ok card
    → ((entries : List Entry) → StandsFor old entries → StandsFor new (entries ++ entry_of card line.first ∷ []))
    → ((entries : List Entry) → StandsFor old entries → building_fault (entries ++ entry_of card line.first ∷ []) ≡ None)
    → new.refused ≡ None → Passes old (line ∷ []) new
passes_card old new line card read stands none refused earlier builds = (
  earlier ++ entry_of card line.first ∷ [],
  one_entry old earlier builds line (entry_of card line.first) (entry_by old earlier builds line card read None (none earlier builds.1)),
  (refused, stands earlier builds.1),
)

-- the builder refused the card of a line
pub stops_at_card : (old : Building) (line : Line) (card : Card) → card_of line ≡ Ok card → (fault : Fault)
    → ((entries : List Entry) → StandsFor old entries → building_fault (entries ++ entry_of card line.first ∷ []) ≡ Some fault) → StopsAt old (line ∷ []) fault
stops_at_card old line card read fault some earlier builds =
    one_fault old earlier builds line fault (entry_by old earlier builds line card read (Some fault) (some earlier builds.1))

-- a line has no card
pub stops_at_line : (old : Building) (line : Line) (r : Refusal) → IsRefused line r → IfAt {A = Unit {0}} (Err r) (StopsAt old (line ∷ []))
stops_at_line old line (At fault) h = λ earlier builds.
    one_fault old earlier builds line fault (ap (entry_with earlier line.first) h.0 ∙ ap (λ p. Err (fault_in p fault.cause)) (sym h.1))
stops_at_line old line NoMemory h = tt

-- the answer of the builder
pub passes_by : (old new : Building) (line : Line) (card : Card) → card_of line ≡ Ok card → (r : Result (Unit {0}) Refusal)
    → ((entries : List Entry) → StandsFor old entries → StandsFor new (entries ++ entry_of card line.first ∷ []))
    → ((entries : List Entry) → StandsFor old entries → Refuses (building_fault (entries ++ entry_of card line.first ∷ [])) r)
    → new.refused ≡ refusal_in r → (OnOk r (Passes old (line ∷ []) new)) × IfAt r (StopsAt old (line ∷ []))
passes_by old new line card read (Ok done) stands refuses refused = (passes_card old new line card read stands refuses refused, tt)
passes_by old new line card read (Err (At fault)) stands refuses refused = (tt, stops_at_card old line card read fault refuses)
passes_by old new line card read (Err NoMemory) stands refuses refused = (tt, tt)

-- ## Several lines

pub passes_none : (b : Building) → Passes b [] b
passes_none b earlier builds = (earlier, entries_from-nil earlier, builds)

pub passes_more : (a b c : Building) (xs ys : List Line) → Passes a xs b → Passes b ys c → Passes a (xs ++ ys) c
passes_more a b c xs ys first second earlier builds =
    let one = first earlier builds in
    let two = second one.0 one.2 in
    (two.0, entries_from-ok earlier xs ys one.0 one.1 ∙ two.1, two.2)

pub stops_later : (a b : Building) (xs ys : List Line) (fault : Fault) → Passes a xs b → StopsAt b ys fault → StopsAt a (xs ++ ys) fault
stops_later a b xs ys fault first second earlier builds =
    let one = first earlier builds in
    entries_from-ok earlier xs ys one.0 one.1 ∙ second one.0 one.2

pub stops_in_front : (a : Building) (xs ys : List Line) (fault : Fault) → StopsAt a xs fault → StopsAt a (xs ++ ys) fault
stops_in_front a xs ys fault h earlier builds = entries_from-fault earlier xs ys fault (h earlier builds)

-- ## A walk through the lines that wait

module _ (first now : Building) (all lines waiting : List Line) (rest : all ≡ lines ++ waiting) (passed : Passes first lines now) where
  pub all_passed : waiting ≡ [] → Passes first all now
  all_passed e = subst (λ ls. Passes first ls now) (sym (rest ∙ ap (λ ls. lines ++ ls) e ∙ append-nil lines)) passed

  module _ (line : Line) (later : List Line) (taken : waiting ≡ line ∷ later) where
    pub rest_next : all ≡ (lines ++ line ∷ []) ++ later
    rest_next = rest ∙ ap (λ ls. lines ++ ls) taken ∙ sym (append_assoc lines (line ∷ []) later)

    pub stops_next : (x : Refusal) → IfAt {A = Unit {0}} (Err x) (StopsAt now (line ∷ [])) → IfAt {A = Unit {0}} (Err x) (StopsAt first all)
    stops_next (At fault) stops = subst (λ ls. StopsAt first ls fault) (sym rest_next) (stops_in_front first (lines ++ line ∷ []) later fault (stops_later first now lines (line ∷ []) fault passed stops))
    stops_next NoMemory stops = tt
