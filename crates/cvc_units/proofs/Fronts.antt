-- The front of a text and what follows it.
use Rattle.std.proofs.Common.{◌≡◌, ℕ, Bool, true, false, cond, eqb, IsTrue, List, [], ◌∷◌, ◌++◌, length, drop, refl, sym, ap, ◌∙◌, subst, inl, inr, ◌⊎◌, ◌||◌}
use Rattle.std.specs.Char.{is_ascii_digit}
use Rattle.std.proofs.lemmas.List.{drop_at}
use Rattle.std.proofs.lemmas.List.Sums.{take_while-cons}
use Rattle.std.proofs.lemmas.Bool.{false≢true, and_parts}
use Rattle.cvc_units.specs.Split.{are_digits, byte_at, digits_at, after}

-- whether the first byte passes a test
abbrev pub begins : (ℕ → Bool) → List ℕ → Bool
begins test [] = false
begins test (c ∷ _) = test c

abbrev pub is_sign : ℕ → Bool
is_sign c = eqb c 43 || eqb c 45

abbrev pub is_point : ℕ → Bool
is_point c = eqb c 46

abbrev pub is_mark : ℕ → Bool
is_mark c = eqb c 101 || eqb c 69

pub no_byte : (test : ℕ → Bool) (text : List ℕ) → begins test text ≡ false → byte_at test text ≡ []
no_byte test [] e = refl
no_byte test (c ∷ cs) e = rw e refl

pub a_byte : (test : ℕ → Bool) (c : ℕ) (rest : List ℕ) → test c ≡ true → byte_at test (c ∷ rest) ≡ c ∷ []
a_byte test c rest e = rw e refl

no_digits_by : (b : Bool) (c : ℕ) (ds : List ℕ) → b ≡ false → cond b (c ∷ ds) [] ≡ []
no_digits_by true c ds e = absurd (false≢true (sym e))
no_digits_by false c ds e = refl

pub no_digits : (text : List ℕ) → begins is_ascii_digit text ≡ false → digits_at text ≡ []
no_digits [] e = refl
no_digits (c ∷ cs) e = take_while-cons is_ascii_digit c cs ∙ no_digits_by (is_ascii_digit c) c (digits_at cs) e

pub all_digits_at : (ds rest : List ℕ) → IsTrue (are_digits ds) → begins is_ascii_digit rest ≡ false → digits_at (ds ++ rest) ≡ ds
all_digits_at [] rest h e = no_digits rest e
all_digits_at (c ∷ cs) rest h e =
    let both = and_parts (is_ascii_digit c) (are_digits cs) h in
    take_while-cons is_ascii_digit c (cs ++ rest) ∙ ap (λ b. cond b (c ∷ digits_at (cs ++ rest)) []) both.0 ∙ ap (λ ds. c ∷ ds) (all_digits_at cs rest both.1 e)

pub after_front : (front rest : List ℕ) → after front (front ++ rest) ≡ rest
after_front front rest = drop_at front rest (length front) refl

-- ---- a front and what follows it are the text

pub byte_and_after : (test : ℕ → Bool) (text : List ℕ) → byte_at test text ++ after (byte_at test text) text ≡ text
byte_and_after test [] = refl
byte_and_after test (c ∷ cs) = by_test (test c) c cs
  where
    by_test : (b : Bool) (c : ℕ) (cs : List ℕ) → cond b (c ∷ []) [] ++ drop (length (cond b (c ∷ []) [])) (c ∷ cs) ≡ c ∷ cs
    by_test true c cs = refl
    by_test false c cs = refl

pub digits_and_after : (text : List ℕ) → digits_at text ++ after (digits_at text) text ≡ text
digits_and_after [] = refl
digits_and_after (c ∷ cs) = subst (λ ds. ds ++ after ds (c ∷ cs) ≡ c ∷ cs) (sym (take_while-cons is_ascii_digit c cs)) (with_first (is_ascii_digit c) c (digits_at cs) cs (digits_and_after cs))
  where
    with_first : (b : Bool) (c : ℕ) (ds cs : List ℕ) → ds ++ after ds cs ≡ cs → cond b (c ∷ ds) [] ++ after (cond b (c ∷ ds) []) (c ∷ cs) ≡ c ∷ cs
    with_first true c ds cs e = ap (λ xs. c ∷ xs) e
    with_first false c ds cs e = refl

-- no digit follows the digits at the front
pub digits_end : (text : List ℕ) → begins is_ascii_digit (after (digits_at text) text) ≡ false
digits_end [] = refl
digits_end (c ∷ cs) = subst (λ ds. begins is_ascii_digit (after ds (c ∷ cs)) ≡ false) (sym (take_while-cons is_ascii_digit c cs)) (with_first (is_ascii_digit c) c (digits_at cs) cs refl (digits_end cs))
  where
    with_first : (b : Bool) (c : ℕ) (ds cs : List ℕ) → is_ascii_digit c ≡ b → begins is_ascii_digit (after ds cs) ≡ false → begins is_ascii_digit (after (cond b (c ∷ ds) []) (c ∷ cs)) ≡ false
    with_first true c ds cs eb e = e
    with_first false c ds cs eb e = eb

-- a byte at the front passes its test
pub byte_cases : (test : ℕ → Bool) (text : List ℕ) → (byte_at test text ≡ []) ⊎ ((c : ℕ) × (byte_at test text ≡ c ∷ []) × (test c ≡ true))
byte_cases test [] = inl refl
byte_cases test (c ∷ cs) = by_test (test c) c refl
  where
    by_test : (b : Bool) (c : ℕ) → test c ≡ b → (cond b (c ∷ []) [] ≡ []) ⊎ ((x : ℕ) × (cond b (c ∷ []) [] ≡ x ∷ []) × (test x ≡ true))
    by_test true c e = inr (c, refl, e)
    by_test false c e = inl refl
