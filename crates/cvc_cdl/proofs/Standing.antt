-- What a builder stands for, and what its calls answer.
use Rattle.std.proofs.Common.{◌≡◌, ℕ, List, [], ◌∷◌, ◌++◌, Option, Some, None, Result, Ok, Err, refl, sym, ap, subst, ◌∙◌}
use Rattle.std.specs.Option.{option_map}
use Rattle.std.proofs.lemmas.List.Elements.{All-nil, All-push}
use Rattle.cvc_base.specs.declared.fault.Refusal.{Refusal}
use Rattle.cvc_base.specs.declared.fault.Refusal.TheVariants.{At, NoMemory}
use Rattle.cvc_card.specs.declared.card.Card.{Card}
use Rattle.cvc_card.specs.Formed.{IsFormed}
use Rattle.cvc_base.specs.declared.stop.Stop.{Stop}
use Rattle.cvc_base.specs.declared.stop.Stop.TheVariants as stops
use Rattle.cvc_cdl.specs.Levels.{Entry, cell_cards, items_at, level_behind, pairs_at, placed}
use Rattle.cvc_cdl.specs.Netlist.{cells_of, each_once, mentions}
use Rattle.cvc_cdl.specs.Building.{building_fault, cause_of, fault_at, fault_of, first_fault, or_else}
use Rattle.cvc_base.specs.Answers.{Refuses, refusal_in}
use Rattle.cvc_cdl.specs.Builder.{Building, Draft, HasBuilt, IsBuilding, IsFormedEntry, StandsFor, entry_of, places_behind}
use Rattle.cvc_cdl.specs.Drafting.{Becomes, cause_in, refusal_of, refused_by, with_card}
use Rattle.cvc_cdl.proofs.Placing.{first_fault-push}
use Rattle.cvc_cdl.proofs.Kept.{kept}
use Rattle.cvc_cdl.proofs.Drafted.{causes}
use Rattle.cvc_cdl.proofs.Stepped.{step}

-- no cards
pub stands_new : HasBuilt (record { level = None; globals = []; global_names = []; params = []; cells = []; cell_names = []; items = []; names = []; inner_names = []; places = [] }) [] None
unfolding first_fault level_behind placed items_at pairs_at cell_cards mentions each_once cells_of places_behind
stands_new = record { formed = All-nil IsFormedEntry; faultless = refl; drafted = refl }

-- one card more
module _ (draft next : Draft) (card : Card) (line : ℕ) (formed : IsFormed line card) where
  abbrev entry : Entry
  entry = entry_of card line

  stands_behind : (es : List Entry) (r : Result (Unit {0}) Stop) → Becomes (cause_in draft card) (with_card draft line card) next r → IsBuilding draft es → HasBuilt next (es ++ entry ∷ []) (refused_by line r)
  stands_behind es (Ok done) h b =
      let none : cause_of es card ≡ None = sym (ap (λ d. cause_in d card) b.drafted ∙ causes es card) ∙ h.0 in
      record {
        formed = All-push IsFormedEntry es entry b.formed formed;
        faultless = first_fault-push [] es entry ∙ (λ i. or_else (b.faultless i) (option_map (fault_at line) (none i)));
        drafted = h.1 ∙ ap (λ d. with_card d line card) b.drafted ∙ step es line (kept es b.faultless) card none;
      }
  stands_behind es (Err (stops.At cause)) h b =
      let some : cause_of es card ≡ Some cause = sym (ap (λ d. cause_in d card) b.drafted ∙ causes es card) ∙ h in
      first_fault-push [] es entry ∙ (λ i. or_else (b.faultless i) (option_map (fault_at line) (some i)))
  stands_behind es (Err stops.NoMemory) h b = tt

  pub stands_added : (r : Result (Unit {0}) Stop) → Becomes (cause_in draft card) (with_card draft line card) next r → (refused : Option Refusal) → refused ≡ None → (es : List Entry) → HasBuilt draft es refused
      → HasBuilt next (es ++ entry ∷ []) (refused_by line r)
  stands_added r h refused is es b = stands_behind es r h (subst (HasBuilt draft es) is b)

-- a refusal is kept
pub stands_refused : (draft : Draft) (refusal : Refusal) (entry : Entry) (refused : Option Refusal) → refused ≡ Some refusal → (es : List Entry) → HasBuilt draft es refused → HasBuilt draft (es ++ entry ∷ []) refused
stands_refused draft refusal entry refused is es b =
    subst (HasBuilt draft (es ++ entry ∷ [])) (sym is) (by refusal (subst (HasBuilt draft es) is b))
  where
    by : (r : Refusal) → HasBuilt draft es (Some r) → HasBuilt draft (es ++ entry ∷ []) (Some r)
    by (At fault) h = first_fault-push [] es entry ∙ ap (λ o. or_else o (fault_of es entry)) h
    by NoMemory h = tt

pub refuses : (draft : Draft) (es : List Entry) (result : Result (Unit {0}) Refusal) (refused : Option Refusal) → refused ≡ refusal_in result → HasBuilt draft es refused → Refuses (building_fault es) result
refuses draft es result refused is b = by result (subst (HasBuilt draft es) is b)
  where
    by : (r : Result (Unit {0}) Refusal) → HasBuilt draft es (refusal_in r) → Refuses (building_fault es) r
    by (Ok done) h = h.faultless
    by (Err (At fault)) h = h
    by (Err NoMemory) h = tt

-- the refusal that a stop makes is kept
pub stands_stopped : (next : Draft) (new : Building) (line : ℕ) (stop : Stop) (refusal : Refusal) → refusal ≡ refusal_of line stop → new ≡ record { refused = Some refusal; draft = next } → (es : List Entry)
    → HasBuilt next es (Some (refusal_of line stop)) → StandsFor new es
stands_stopped next new line stop refusal is kept es b =
    let P : Building → Type 0 = λ x. StandsFor x es in
    subst P (sym (kept ∙ ap (λ (r : Refusal). record { refused = Some r; draft = next }) is)) b
