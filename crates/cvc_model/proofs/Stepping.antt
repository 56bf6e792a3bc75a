-- One test more, and one item more, of those that are left.
use Rattle.std.proofs.Common.{◌≡◌, ℕ, suc, ◌+◌, ◌<◌, ◌≤◌, List, [], ◌∷◌, map, length, get_or, drop, Result, Ok, Err, refl, sym, ap, subst, ◌∙◌, add-one, drop-cons, drop_of_length-le}
use Rattle.cvc_base.specs.declared.cause.Cause.{Cause}
use Rattle.cvc_base.specs.declared.device.Kind.{Kind}
use Rattle.cvc_base.specs.declared.line.Token.{Token}
use Rattle.cvc_base.specs.declared.param.Param.{Param}
use Rattle.cvc_model.specs.declared.choosing.Outcome.{Outcome}
use Rattle.cvc_model.specs.declared.choosing.Outcome.TheVariants.{Holds}
use Rattle.cvc_model.specs.declared.draft.Draft.{Draft}
use Rattle.cvc_model.specs.declared.row.Test.{Test}
use Rattle.cvc_base.specs.declared.stop.Stop.{Stop}
use Rattle.cvc_base.specs.declared.stop.Stop.TheVariants.{At, NoMemory}
use Rattle.cvc_base.specs.Answers.{GivesOrStops}
use Rattle.cvc_model.specs.declared.row.ModelRow.{ModelRow}
use Rattle.cvc_model.specs.Chosen.{outcome_of, outcome_of_test, while_holds}
use Rattle.cvc_model.specs.Rows.{Content, with_text, with_texts}
use Rattle.cvc_rows.specs.Tokens.{text_of}
use Rattle.cvc_model.specs.Drafting.{IsDraft, KeepsDraft}
use Rattle.cvc_base.specs.Order.{◌>>=◌}

drop_read : {A : Type 0} (xs : List A) (i : ℕ) (x : A) → i < length xs → x ≡ get_or xs i x → drop i xs ≡ x ∷ drop (i + 1) xs
drop_read xs i x within at = drop-cons xs i x within ∙ ap (λ y. y ∷ drop (suc i) xs) (sym at) ∙ ap (λ n. x ∷ drop n xs) (sym (add-one i))

module _ (tests items : List Test) (same : items ≡ tests) (params : List Param) (i : ℕ) (so_far : outcome_of tests params ≡ outcome_of (drop i tests) params) where
  pub one_test : (test : Test) → i < length items → test ≡ get_or items i test → (o : Outcome) → o ≡ outcome_of_test test params
      → outcome_of tests params ≡ while_holds o (outcome_of (drop (i + 1) tests) params)
  unfolding outcome_of
  one_test test within at o e =
      so_far ∙ ap (λ ts. outcome_of ts params) (subst (λ (ts : List Test). drop i ts ≡ test ∷ drop (i + 1) ts) same (drop_read items i test within at))
      ∙ ap (λ r. while_holds r (outcome_of (drop (i + 1) tests) params)) (sym e)

  pub no_test : length items ≤ i → Holds ≡ outcome_of tests params
  unfolding outcome_of
  no_test past = sym (so_far ∙ ap (λ ts. outcome_of ts params) (subst (λ (ts : List Test). drop i ts ≡ []) same (drop_of_length-le _ past)))

-- a stop of an answer is one of another that has its causes
pub stop_kept : (stop : Stop) (a b : Result Content Cause) → ((cause : Cause) → a ≡ Err cause → b ≡ Err cause) → KeepsDraft (Err stop) a → KeepsDraft (Err stop) b
stop_kept (At cause) a b f h = f cause h
stop_kept NoMemory a b f h = tt

pub stop_given : (stop : Stop) (a : Result Content Cause) (b : Result ModelRow Cause) → ((cause : Cause) → a ≡ Err cause → b ≡ Err cause) → KeepsDraft (Err stop) a
    → GivesOrStops {A = ModelRow} (λ (row : ModelRow). row) (Err stop) b
stop_given (At cause) a b f h = f cause h
stop_given NoMemory a b f h = tt

-- the draft of an answer, which stands for its content
pub of_draft : (draft : Draft) (answer : Result Content Cause) → KeepsDraft (Ok draft) answer → (content : Content) × ((answer ≡ Ok content) × IsDraft draft content)
of_draft draft (Ok content) h = (content, (refl, h))
of_draft draft (Err cause) h = absurd h

module _ (kind : Kind) (items : List Token) (answer : Result Content Cause) (content : Content) (i : ℕ) (so_far : answer ≡ with_texts kind content (map text_of (drop i items))) where
  pub one_item : (item : Token) → i < length items → item ≡ get_or items i item → (text : List ℕ) → text ≡ item.text → (r : Result Content Cause) → with_text kind content text ≡ r
      → answer ≡ ◌>>=◌ r (λ next. with_texts kind next (map text_of (drop (i + 1) items)))
  unfolding with_texts
  one_item item within at text same r e =
      so_far ∙ ap (λ ts. with_texts kind content (map text_of ts)) (drop_read items i item within at)
      ∙ ap (λ t. ◌>>=◌ (with_text kind content t) (λ next. with_texts kind next (map text_of (drop (i + 1) items)))) (sym same)
      ∙ ap (λ s. ◌>>=◌ s (λ next. with_texts kind next (map text_of (drop (i + 1) items)))) e

  pub no_item : length items ≤ i → answer ≡ Ok content
  unfolding with_texts
  no_item past = so_far ∙ ap (λ ts. with_texts kind content (map text_of ts)) (drop_of_length-le _ past)
