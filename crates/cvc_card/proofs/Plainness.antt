-- A token that is plain begins with no dollar sign, so it names no model and is no `$PINS`.
use Rattle.std.proofs.Common.{◌≡◌, ℕ, ◌==◌, ◌&&◌, ◌||◌, not, Bool, true, false, List, [], ◌∷◌, Option, Some, None, is_some, ◌++◌, if◌then◌else◌, nat_eq, map, take, refl, sym, ap, ◌∙◌, arith, codes}
use Rattle.std.proofs.lemmas.Bool.Decides.{nat_tests}
use Rattle.std.specs.Char.{to_ascii_lowercase}
use Rattle.std.specs.Cmp.Lexicographic.{pointwise}
use Rattle.std.specs.Option.{option_to_list}
use Rattle.std.proofs.lemmas.List.{append-nil}
use Rattle.cvc_base.specs.declared.param.Pair.{Pair}
use Rattle.cvc_card.specs.declared.form.Form.{Form}
use Rattle.cvc_card.specs.declared.form.Form.TheVariants.{Device, Inst, Subckt, Ends, Global, Params}
use Rattle.cvc_card.specs.Words.{between_brackets, is_closed, is_dollar, is_keyword, is_model_bracket, is_slash}
use Rattle.cvc_card.specs.Items.{Alone}
use Rattle.cvc_card.specs.Parts.{CardParts, is_device, is_plain, or_else, is_pins, passes_params, passes_slashes, model_in, plain_token}
use Rattle.cvc_card.specs.Reading.{added}

not_or : (a b c : Bool) → not (a || b || c) ≡ true → a ≡ false
not_or false b c h = refl
not_or true b c h = cc

pub plain-dollar : (form : Form) (t : List ℕ) → is_plain form t ≡ true → is_dollar t ≡ false
plain-dollar form t h = not_or (is_dollar t) (passes_slashes form && is_slash t) (passes_params form && is_keyword (codes "params:") t) h

other_way : (c : ℕ) → (c == 36) ≡ false → (36 == c) ≡ false
other_way c h = grind (arith, nat_tests)

still_other : (c : ℕ) → (c == 36) ≡ false → (to_ascii_lowercase c == 36) ≡ false
still_other c h = grind (arith, nat_tests)

pub dollar-bracket : (t : List ℕ) → is_dollar t ≡ false → is_model_bracket t ≡ false
dollar-bracket [] h = refl
dollar-bracket (c ∷ cs) h = ap (λ b. (b && pointwise nat_eq (91 ∷ []) (take 1 cs)) && is_closed (c ∷ cs)) (other_way c h)

pub dollar-pins : (t : List ℕ) → is_dollar t ≡ false → is_keyword (codes "$pins") t ≡ false
dollar-pins [] h = refl
dollar-pins (c ∷ cs) h = ap (λ b. b && pointwise nat_eq (map to_ascii_lowercase cs) (112 ∷ 105 ∷ 110 ∷ 115 ∷ [])) (still_other c h)

pub plain-model : (form : Form) (t : List ℕ) → is_plain form t ≡ true → model_in form (Alone t) ≡ None
plain-model form t h = ap (λ b. if is_device form && b then Some (between_brackets t) else None) (dollar-bracket t (plain-dollar form t h)) ∙ never (is_device form) (Some (between_brackets t))
  where
    never : (b : Bool) (x : Option (List ℕ)) → (if b && false then x else None) ≡ None
    never false x = refl
    never true x = refl

pub plain-pins : (form : Form) (t : List ℕ) → is_plain form t ≡ true → is_pins form (Alone t) ≡ false
plain-pins (Device letter) t h = refl
plain-pins Inst t h = dollar-pins t (plain-dollar Inst t h)
plain-pins Subckt t h = refl
plain-pins Ends t h = refl
plain-pins Global t h = refl
plain-pins Params t h = refl

pub same_parts : (p q : CardParts) → p.plain ≡ q.plain → p.model ≡ q.model → p.pairs ≡ q.pairs → p.by_name ≡ q.by_name → p.late_plain ≡ q.late_plain → p.connections ≡ q.connections → p ≡ q
same_parts p q a b c d e f =
    let built : record { plain = p.plain; model = p.model; pairs = p.pairs; by_name = p.by_name; late_plain = p.late_plain; connections = p.connections }
    ≡ record { plain = q.plain; model = q.model; pairs = q.pairs; by_name = q.by_name; late_plain = q.late_plain; connections = q.connections } = cc in
    built

or-false : (b : Bool) → (b || false) ≡ b
or-false false = refl
or-false true = refl

and-true : (b : Bool) → (b && true) ≡ b
and-true false = refl
and-true true = refl

pub plain_added : (form : Form) (p : CardParts) (t : List ℕ) (late : Bool) → is_plain form t ≡ true → late ≡ (p.late_plain || p.by_name)
    → record p { plain = p.plain ++ t ∷ []; late_plain = late } ≡ added form p (Alone t)
plain_added form p t late h is =
    let token : plain_token form (Alone t) ≡ Some t = ap (λ b. if b then Some t else None) h in
    same_parts (record p { plain = p.plain ++ t ∷ []; late_plain = late }) (added form p (Alone t))
    (sym (ap (λ o. p.plain ++ option_to_list o) token))
    (sym (ap (λ o. or_else o p.model) (plain-model form t h)))
    (kept p.by_name p.pairs)
    (sym (ap (λ b. p.by_name || b) (plain-pins form t h) ∙ or-false p.by_name))
    (is ∙ sym (ap (λ o. p.late_plain || (p.by_name && is_some o)) token ∙ ap (λ b. p.late_plain || b) (and-true p.by_name)))
    (kept_so p.by_name p.connections)
  where
    kept : (b : Bool) (ps : List Pair) → ps ≡ (if b then ps else ps ++ [])
    kept false ps = sym (append-nil ps)
    kept true ps = refl

    kept_so : (b : Bool) (ps : List Pair) → ps ≡ (if b then ps ++ [] else ps)
    kept_so false ps = refl
    kept_so true ps = sym (append-nil ps)
