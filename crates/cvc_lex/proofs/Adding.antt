-- The loop that adds tokens.
use Rattle.std.proofs.Common.{◌≡◌, ℕ, ◌+◌, ◌≤◌, List, [], ◌++◌, ◌∷◌, length, drop, true, false, refl, sym, ap, ◌∙◌}
use Rattle.std.specs.List.{list_any}
use Rattle.std.proofs.lemmas.List.{append-nil, append_assoc}
use Rattle.cvc_base.specs.declared.fault.FileKind.{FileKind}
use Rattle.cvc_base.specs.declared.line.Token.{Token}
use Rattle.cvc_lex.specs.Physical.{tokens_from, is_long}

abbrev pub rest_tokens : FileKind → ℕ → List ℕ → ℕ → List Token
rest_tokens kind number text i = tokens_from kind number false (i + 1) (drop i text)

-- the tokens of the text up to i stand behind the old ones, and none of them is too long
pub record IsAdding (kind : FileKind) (number : ℕ) (text : List ℕ) (from i : ℕ) (old now : List Token) : Type 0 where
  pub within : i ≤ length text
  pub tokens : now ++ rest_tokens kind number text i ≡ old ++ rest_tokens kind number text from
  pub long : list_any is_long (rest_tokens kind number text i) ≡ list_any is_long (rest_tokens kind number text from)

module _ (kind : FileKind) (number : ℕ) (text : List ℕ) (from : ℕ) (old : List Token) where
  pub adding_begins : from ≤ length text → IsAdding kind number text from from old old
  adding_begins le = record { within = le; tokens = refl; long = refl }

  pub adding_more : (i end : ℕ) (now after : List Token) (t : Token) → IsAdding kind number text from i old now → rest_tokens kind number text i ≡ t ∷ rest_tokens kind number text end
      → end ≤ length text → is_long t ≡ false → after ≡ now ++ t ∷ [] → IsAdding kind number text from end old after
  adding_more i end now after t a e le short is = record {
    within = le;
    tokens = rw (is, append_assoc now (t ∷ []) (rest_tokens kind number text end), ← e) a.tokens;
    long = let cut : list_any is_long (rest_tokens kind number text i) ≡ list_any is_long (rest_tokens kind number text end) = rw (e, short) refl in sym cut ∙ a.long;
  }

  pub adding_ends : (i : ℕ) (now : List Token) → IsAdding kind number text from i old now → rest_tokens kind number text i ≡ [] → (now ≡ old ++ rest_tokens kind number text from) × (list_any is_long (rest_tokens kind number text from) ≡ false)
  adding_ends i now a e = (sym (append-nil now) ∙ ap (λ (ts : List Token). now ++ ts) (sym e) ∙ a.tokens, sym a.long ∙ ap (list_any is_long) e)

  pub adding_stops : (i end : ℕ) (now : List Token) (t : Token) → IsAdding kind number text from i old now → rest_tokens kind number text i ≡ t ∷ rest_tokens kind number text end → is_long t ≡ true
      → list_any is_long (rest_tokens kind number text from) ≡ true
  adding_stops i end now t a e long = sym a.long ∙ rw (e, long) refl
