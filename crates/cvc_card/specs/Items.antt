-- The tokens after a card's first, as pairs and single tokens. A token that is followed by `=` is the name of a pair, and the token
-- after the `=` is its value; every other token stands alone. The first fault from the left is the answer where there is one.
use Rattle.std.specs.Prelude.{ℕ, Bool, false, ◌||◌, List, [], ◌∷◌, length, ◌==◌, Result, Ok, Err, if◌then◌else◌}
use Rattle.cvc_base.specs.declared.cause.Cause.{Cause}
use Rattle.cvc_base.specs.declared.cause.Cause.TheVariants.{BadParam, Unsupported}
use Rattle.cvc_base.specs.declared.param.Pair.{Pair}
use Rattle.cvc_card.specs.Words.{is_equals, is_expression, is_broken_bracket, without_dollar}

pub data Item : Type 0 where
  Named : Pair → Item
  Alone : List ℕ → Item

-- A pair has a name, which is not empty without its dollar sign, and a value, which is no `=` and no expression.
abbrev pub named : List ℕ → List ℕ → Result Item Cause
named name value =
    if is_equals name || (length (without_dollar name) == 0) || is_equals value then Err BadParam
    else (if is_expression value then Err Unsupported else Ok (Named record { name = without_dollar name; value = value }))

-- A single token is no `=`, no expression and no bracket that lacks its model or its end.
abbrev pub alone : List ℕ → Result Item Cause
alone token =
    if is_equals token || is_broken_bracket token then Err BadParam
    else (if is_expression token then Err Unsupported else Ok (Alone token))

abbrev pub begins_with_equals : List (List ℕ) → Bool
begins_with_equals [] = false
begins_with_equals (x ∷ _) = is_equals x

-- the first fault, or both
abbrev pub followed_by : Result Item Cause → Result (List Item) Cause → Result (List Item) Cause
followed_by (Err e) others = Err e
followed_by (Ok item) (Err e) = Err e
followed_by (Ok item) (Ok items) = Ok (item ∷ items)

unfoldable pub items_of : List (List ℕ) → Result (List Item) Cause
items_of [] = Ok []
items_of (x ∷ []) = followed_by (alone x) (Ok [])
items_of (x ∷ y ∷ []) = if is_equals y then Err BadParam else followed_by (alone x) (items_of (y ∷ []))
items_of (x ∷ y ∷ z ∷ rest) =
    if is_equals y then followed_by (named x z) (items_of rest)
    else followed_by (alone x) (items_of (y ∷ z ∷ rest))
