-- The devices, instances and global nets that the parts of a card that was read give.
use Rattle.std.proofs.Common.{◌≡◌, ℕ, ◌-◌, ◌+◌, ◌≤◌, ◌&&◌, ◌||◌, ◌==◌, not, cond, Bool, true, false, List, [], ◌∷◌, ◌++◌, length, map, take, drop, Option, Some, None, Result, Ok, Err, All, IfSome, nat_lt, option_map, option_to_list, unwrap_or, refl, sym, ap, subst, ◌∙◌, arith}
use Rattle.std.specs.List.{after_first, before_first, filter, find, list_any, position_or_len, take_while}
use Rattle.std.proofs.lemmas.Bool.{cond_both, ltb-false, not-true, or_parts}
use Rattle.std.proofs.lemmas.List.{length-take-le}
use Rattle.std.proofs.lemmas.List.Elements.{All-append, All-cons, All-drop, All-filter, All-head, All-nil, All-tail, All-take, All-weaker}
use Rattle.std.proofs.lemmas.List.Sums.{take_while-cons}
use Rattle.cvc_base.specs.declared.cause.Cause.{Cause}
use Rattle.cvc_base.specs.declared.cause.Cause.TheVariants.{BadPins, ShortCard}
use Rattle.cvc_base.specs.declared.param.Pair.{Pair}
use Rattle.cvc_card.specs.declared.card.Card.{Card}
use Rattle.cvc_card.specs.declared.card.Card.TheVariants as cards
use Rattle.cvc_card.specs.declared.card.Letter.{Letter}
use Rattle.cvc_card.specs.declared.card.Letter.TheVariants.{M, D, R, C, L, Q}
use Rattle.cvc_card.specs.declared.card.Ports.TheVariants.{ByOrder, ByName}
use Rattle.cvc_card.specs.Words.{is_dollar, is_expression, is_number, is_slash}
use Rattle.cvc_card.specs.Forms.{form_of}
use Rattle.cvc_card.specs.Parts.{CardParts, is_model_pair, last_of, or_else}
use Rattle.cvc_base.specs.Order.{◌>>=◌}
use Rattle.cvc_card.specs.Card.{are_bad_pins, before_colon, cell_of, device_of, device_with, first_of, globals_of, has_twice, instance_of, is_word, letter_name, model_among, net_count, nets_of, ports_of, present, value_pairs, without_last}
use Rattle.cvc_card.specs.Formed.{ConnectsOnce}
use Rattle.cvc_card.proofs.Plainness.{plain-dollar}
use Rattle.cvc_card.proofs.FormNames.{device_form, instance_form, global_form}
use Rattle.cvc_cdl.specs.Pieces.{is_outside, IsTokenText}
use Rattle.cvc_cdl.proofs.Printable.{IsPlainText, IsParameter, IsReadNet, AreReadPorts, IsReadGlobal, IsReadCard}
use Rattle.cvc_cdl.proofs.ReadLines.{no_more}
use Rattle.cvc_cdl.proofs.ReadItems.{AreReadParts, last_good, some_bytes}

abbrev pub IsReadAnswer : Result Card Cause → Type 0
IsReadAnswer (Ok card) = IsReadCard card
IsReadAnswer (Err e) = Unit {0}

present_good : (P : List ℕ → Type 0) (o : Option (List ℕ)) (f : List ℕ → Result Card Cause) → IfSome o P → ((x : List ℕ) → P x → IsReadAnswer (f x)) → IsReadAnswer (present o >>= f)
present_good P None f h k = tt
present_good P (Some x) f h k = k x h

pub first_good : {X : Type 0} (P : X → Type 0) (xs : List X) → All P xs → IfSome (first_of xs) P
first_good P [] h = tt
first_good P (x ∷ xs) h = All-head P x xs h

find_good : {X : Type 0} (P : X → Type 0) (p : X → Bool) (xs : List X) → All P xs → IfSome (find p xs) P
find_good P p [] h = tt
find_good P p (x ∷ xs) h = cond_both (p x) (Some x) (find p xs) (λ o. IfSome o P) (λ is. All-head P x xs h) (λ other. find_good P p xs (All-tail P x xs h))

-- ## Devices

else_good : (P : List ℕ → Type 0) (o other : Option (List ℕ)) → IfSome o P → IfSome other P → IfSome (or_else o other) P
else_good P None other h k = k
else_good P (Some x) other h k = h

letter_token : (letter : Letter) → IsTokenText (letter_name letter)
letter_token M = record { some = omega arith; bytes = refl }
letter_token D = record { some = omega arith; bytes = refl }
letter_token R = record { some = omega arith; bytes = refl }
letter_token C = record { some = omega arith; bytes = refl }
letter_token L = record { some = omega arith; bytes = refl }
letter_token Q = record { some = omega arith; bytes = refl }

or_letter : (letter : Letter) (o : Option (List ℕ)) → IfSome o IsTokenText → IsTokenText (unwrap_or o (letter_name letter))
or_letter letter None h = letter_token letter
or_letter letter (Some x) h = h

model_good : (letter : Letter) (more : List (List ℕ)) → All IsTokenText more → IfSome (model_among letter more) IsTokenText
model_good M more h = first_good IsTokenText more h
model_good D more h = first_good IsTokenText more h
model_good R more h = or_letter R (find is_word more) (find_good IsTokenText is_word more h)
model_good C more h = or_letter C (find is_word more) (find_good IsTokenText is_word more h)
model_good L more h = or_letter L (find is_word more) (find_good IsTokenText is_word more h)
model_good Q more h = last_good IsTokenText (filter is_word more) (All-filter is_word IsTokenText more h)

abbrev value_pair : Letter → List ℕ → Pair
value_pair letter number = record { name = letter_name letter; value = number }

no_model : (letter : Letter) (number : List ℕ) → is_model_pair (device_form letter) (value_pair letter number) ≡ false
no_model M number = refl
no_model D number = refl
no_model R number = refl
no_model C number = refl
no_model L number = refl
no_model Q number = refl

one_value : (letter : Letter) (o : Option (List ℕ)) → IfSome o (IsPlainText (device_form letter)) → All (IsParameter (device_form letter)) (option_to_list (option_map (value_pair letter) o))
one_value letter None h = All-nil (IsParameter (device_form letter))
one_value letter (Some number) h =
    All-cons (IsParameter (device_form letter)) (value_pair letter number) []
    (record { name = letter_token letter; value = h.token; expression = h.expression; model = no_model letter number }) (All-nil (IsParameter (device_form letter)))

values_good : (letter : Letter) (more : List (List ℕ)) → All (IsPlainText (device_form letter)) more → All (IsParameter (device_form letter)) (value_pairs letter more)
values_good M more h = All-nil (IsParameter (device_form M))
values_good D more h = All-nil (IsParameter (device_form D))
values_good R more h = one_value R (find is_number more) (find_good (IsPlainText (device_form R)) is_number more h)
values_good C more h = one_value C (find is_number more) (find_good (IsPlainText (device_form C)) is_number more h)
values_good L more h = one_value L (find is_number more) (find_good (IsPlainText (device_form L)) is_number more h)
values_good Q more h = All-nil (IsParameter (device_form Q))

module _ (name : List ℕ) (line : ℕ) (parts : CardParts) where
  device_long : (letter : Letter) → form_of false name ≡ Ok (Some (device_form letter)) → IsTokenText name → AreReadParts (device_form letter) parts → net_count letter ≤ length parts.plain
      → IsReadAnswer (device_with letter name line (take (net_count letter) parts.plain) (drop (net_count letter) parts.plain) parts)
  device_long letter is token h fits =
      let form = device_form letter in
      let nets = take (net_count letter) parts.plain in
      let more = drop (net_count letter) parts.plain in
      let left = All-drop (IsPlainText form) (net_count letter) parts.plain h.plain in
      let texts = All-weaker (IsPlainText form) IsTokenText (λ t k. k.token) more left in
      present_good IsTokenText (or_else parts.model (model_among letter more))
      (λ model. Ok (cards.Device record { letter = letter; name = name; nets = nets; model = model; pairs = value_pairs letter more ++ parts.pairs; line = line }))
      (else_good IsTokenText parts.model (model_among letter more) h.model (model_good letter more texts))
      (λ model k. record {
        form = is;
        name = token;
        size = length-take-le (net_count letter) parts.plain fits;
        nets = All-take (IsPlainText form) (net_count letter) parts.plain h.plain;
        model = k;
        pairs = All-append (IsParameter form) (value_pairs letter more) parts.pairs (values_good letter more left) h.pairs;
      })

  pub device_good : (letter : Letter) → form_of false name ≡ Ok (Some (device_form letter)) → IsTokenText name → AreReadParts (device_form letter) parts → IsReadAnswer (device_of letter name line parts)
  unfolding device_of
  device_good letter is token h =
      cond_both (nat_lt (length parts.plain) (net_count letter)) (Err ShortCard) (device_with letter name line (take (net_count letter) parts.plain) (drop (net_count letter) parts.plain) parts) IsReadAnswer
      (λ short. tt) (λ long. device_long letter is token h (ltb-false (length parts.plain) (net_count letter) long))

-- ## Instances

-- what passes a test at the front
kept_while : {X : Type 0} (P S : X → Type 0) (q : X → Bool) → ((x : X) → P x → q x ≡ true → S x) → (xs : List X) → All P xs → All S (take_while q xs)
kept_while P S q step [] h = All-nil S
kept_while P S q step (x ∷ xs) h =
    subst (All S) (sym (take_while-cons q x xs))
    (cond_both (q x) (x ∷ take_while q xs) [] (All S) (λ is. All-cons S x (take_while q xs) (step x (All-head P x xs h) is) (kept_while P S q step xs (All-tail P x xs h))) (λ other. All-nil S))

none_each : (p : List ℕ → Bool) (xs : List (List ℕ)) → list_any p xs ≡ false → All (λ x. p x ≡ false) xs
none_each p [] h = All-nil (λ x. p x ≡ false)
none_each p (x ∷ xs) h = let parts = or_parts (p x) (list_any p xs) h in All-cons (λ y. p y ≡ false) x xs parts.0 (none_each p xs parts.1)

net_good : (net : List ℕ) → IsPlainText instance_form net → not (is_slash net) ≡ true → IsReadNet net
net_good net h is = record { text = h; slash = not-true (is_slash net) is }

all_nets : (plain : List (List ℕ)) → All (IsPlainText instance_form) plain → list_any is_slash plain ≡ false → All IsReadNet plain
all_nets plain h none = let slashes = none_each is_slash plain none in λ k d lt. record { text = h k d lt; slash = slashes k d lt }

nets_good : (plain : List (List ℕ)) → All (IsPlainText instance_form) plain → All IsReadNet (nets_of plain)
unfolding nets_of
nets_good plain h =
    cond_both (list_any is_slash plain) (before_first is_slash plain) (without_last plain) (All IsReadNet)
    (λ any. kept_while (IsPlainText instance_form) IsReadNet (λ net. not (is_slash net)) net_good plain h)
    (λ none. All-take IsReadNet (length plain - 1) plain (all_nets plain h none))

cell_good : (plain : List (List ℕ)) → All (IsPlainText instance_form) plain → IfSome (cell_of plain) (IsPlainText instance_form)
unfolding cell_of
cell_good plain h =
    let P : List ℕ → Type 0 = IsPlainText instance_form in
    cond_both (list_any is_slash plain) (first_of (after_first is_slash plain)) (last_of plain) (λ o. IfSome o P)
    (λ any. first_good P (after_first is_slash plain) (All-drop P (position_or_len is_slash plain + 1) plain h))
    (λ none. last_good P plain h)

once_of : (nets late twice : Bool) → (nets || late || twice) ≡ false → twice ≡ false
once_of true late twice h = absurd cc
once_of false true twice h = absurd cc
once_of false false twice h = h

module _ (name : List ℕ) (line : ℕ) (parts : CardParts) where
  abbrev names : List (List ℕ)
  names = map (λ (p : Pair). p.name) parts.connections

  abbrev has_nets : Bool
  has_nets = not (length (nets_of parts.plain) == 0)

  connects_once : are_bad_pins parts ≡ false → ConnectsOnce (ports_of parts)
  connects_once fine =
      cond_both parts.by_name (ByName parts.connections) (ByOrder (nets_of parts.plain)) ConnectsOnce
      (λ named. once_of has_nets parts.late_plain (has_twice names) (ap (λ b. b && (has_nets || parts.late_plain || has_twice names)) (sym named) ∙ fine))
      (λ ordered. tt)

  pub instance_good : form_of false name ≡ Ok (Some instance_form) → IsTokenText name → AreReadParts instance_form parts → IsReadAnswer (instance_of name line parts)
  unfolding instance_of
  instance_good is token h =
      let ports = cond_both parts.by_name (ByName parts.connections) (ByOrder (nets_of parts.plain)) AreReadPorts (λ named. h.connections) (λ ordered. nets_good parts.plain h.plain) in
      let made : List ℕ → Result Card Cause = λ cell. Ok (cards.Inst record { name = name; cell = cell; ports = ports_of parts; pairs = parts.pairs; line = line }) in
      cond_both (are_bad_pins parts) (Err BadPins) (present (cell_of parts.plain) >>= made) IsReadAnswer (λ bad. tt)
      (λ fine. present_good (IsPlainText instance_form) (cell_of parts.plain) made (cell_good parts.plain h.plain)
      (λ cell k. record { form = is; name = token; cell = k; ports = ports; once = connects_once fine; pairs = h.pairs }))

-- ## Global nets

while_again : (q : ℕ → Bool) (xs : List ℕ) → take_while q (take_while q xs) ≡ take_while q xs
while_again q [] = refl
while_again q (x ∷ xs) =
    let P : List ℕ → Type 0 = λ ys. take_while q ys ≡ ys in
    subst P (sym (take_while-cons q x xs))
    (cond_both (q x) (x ∷ take_while q xs) [] P
    (λ is. take_while-cons q x (take_while q xs) ∙ ap (λ b. cond b (x ∷ take_while q (take_while q xs)) []) is ∙ ap (λ ys. x ∷ ys) (while_again q xs))
    (λ other. refl))

-- the first byte stays, or none
colon_first : (P : List ℕ → Type 0) → P [] → ((c : ℕ) (cs ds : List ℕ) → P (c ∷ cs) → P (c ∷ ds)) → (t : List ℕ) → P t → P (before_colon t)
colon_first P none same [] h = none
colon_first P none same (c ∷ cs) h =
    subst P (sym (take_while-cons (λ b. not (b == 58)) c cs))
    (cond_both (not (c == 58)) (c ∷ take_while (λ b. not (b == 58)) cs) [] P (λ is. same c cs (take_while (λ b. not (b == 58)) cs) h) (λ other. none))

global_good : (t : List ℕ) → IsPlainText global_form t → not (length (before_colon t) == 0) ≡ true → IsReadGlobal (before_colon t)
global_good t h some = record {
  token = record { some = some_bytes (before_colon t) (not-true (length (before_colon t) == 0) some); bytes = no_more is_outside (position_or_len (λ b. b == 58) t) t h.token.bytes };
  expression = colon_first (λ ys. is_expression ys ≡ false) refl (λ c cs ds k. k) t h.expression;
  dollar = colon_first (λ ys. is_dollar ys ≡ false) refl (λ c cs ds k. k) t (plain-dollar global_form t h.plain);
  colon = while_again (λ b. not (b == 58)) t;
}

pub globals_good : (plain : List (List ℕ)) → All (IsPlainText global_form) plain → All IsReadGlobal (globals_of plain)
unfolding globals_of
globals_good [] h = All-nil IsReadGlobal
globals_good (t ∷ plain) h =
    let more = globals_good plain (All-tail (IsPlainText global_form) t plain h) in
    cond_both (not (length (before_colon t) == 0)) (before_colon t ∷ globals_of plain) (globals_of plain) (All IsReadGlobal)
    (λ some. All-cons IsReadGlobal (before_colon t) (globals_of plain) (global_good t (All-head (IsPlainText global_form) t plain h) some) more) (λ none. more)
