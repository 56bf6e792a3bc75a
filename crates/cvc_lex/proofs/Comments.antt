-- Comments that go on read the same as short ones.
use Rattle.std.proofs.Common.{◌≡◌, ℕ, zero, suc, ◌+◌, ◌-◌, ◌<◌, ◌≤◌, List, [], ◌∷◌, ◌++◌, length, take, drop, get_or, Bool, true, false, cond, not, ◌||◌, ◌==◌, refl, sym, ap, subst, ◌∙◌, arith, inl, inr}
use Rattle.std.specs.List.{list_any, prefix_len, position_or_len, before_first}
use Rattle.std.proofs.lemmas.Bool.{cases_Bool, cases_lt, and_parts, eqb-true, not-true}
use Rattle.std.proofs.lemmas.Bool.Decides.{nat_tests}
use Rattle.std.proofs.lemmas.List.{take_all, take_more, take_rest, get_or-take, length-take-le, append_assoc}
use Rattle.cvc_lex.proofs.Texts.{unindented_is}
use Rattle.std.proofs.lemmas.List.Folds.{list_any-append}
use Rattle.std.proofs.lemmas.List.Sums.{prefix_len_passes, fails_before_first}
use Rattle.cvc_base.specs.declared.fault.FileKind.{FileKind}
use Rattle.cvc_lex.specs.declared.shape.Shape.TheVariants.{Skipped}
use Rattle.cvc_lex.specs.Bytes.{is_netlist, is_blank, is_bad}
use Rattle.cvc_lex.specs.Comments.{card_comment, row_comment, begins_comment, IsShort}
use Rattle.cvc_lex.specs.Lexing.{ReadsAs}
use Rattle.cvc_lex.specs.Physical.{Read, read, text_of, without_last, cut, first_place, is_lone_dollar, shape_of, card_shape, row_shape, unindented}

-- ## Fronts of lists

take_take : (j k : ℕ) (w : List ℕ) → j ≤ k → take j (take k w) ≡ take j w
take_take zero k w le = refl
take_take (suc j) zero w le = absurd (omega arith)
take_take (suc j) (suc k) [] le = refl
take_take (suc j) (suc k) (x ∷ w) le = ap (λ (u : List ℕ). x ∷ u) (take_take j k w (omega arith))

-- without a byte at the end, a list keeps the place of another byte
kept_place : (c : ℕ) (u : List ℕ) (p : ℕ) → p < length u → (get_or u p 0 == c) ≡ false → (k : ℕ) × (without_last c u ≡ take k u) × (p < k) × (k ≤ length u)
kept_place c u p lt other = elim (cases_Bool (get_or u (length u - 1) 0 == c)) [
  | inl holds ↦ (length u - 1, rw holds refl, before holds, omega arith)
  | inr fails ↦ (length u, rw fails (sym (take_all (length u) u (omega arith))), lt, omega arith)
]
  where
    before : (get_or u (length u - 1) 0 == c) ≡ true → p < length u - 1
    before holds = elim (cases_lt p (length u - 1)) [
      | inl h ↦ h
      | inr h ↦
          let same : p ≡ length u - 1 = omega arith in
          let both : true ≡ false = sym holds ∙ ap (λ (i : ℕ). get_or u i 0 == c) (sym same) ∙ other in
          absurd cc
    ]

text-is : (u : List ℕ) → text_of u ≡ without_last 13 (without_last 10 u)
unfolding text_of
text-is u = refl

text_keeps : (u : List ℕ) (p c : ℕ) → p < length u → get_or u p 0 ≡ c → (c == 10) ≡ false → (c == 13) ≡ false → (k : ℕ) × (text_of u ≡ take k u) × (p < k) × (k ≤ length u)
text_keeps u p c lt here feed return =
    let one = kept_place 10 u p lt (ap (λ (b : ℕ). b == 10) here ∙ feed) in
    let long : length (take one.0 u) ≡ one.0 = length-take-le one.0 u one.3 in
    let two = kept_place 13 (take one.0 u) p (rw long one.2) (ap (λ (b : ℕ). b == 13) (get_or-take one.0 u p 0 one.2 ∙ here) ∙ return) in
    let within : two.0 ≤ one.0 = let h = two.3 in omega arith in
    (two.0, text-is u ∙ ap (without_last 13) one.1 ∙ two.1 ∙ take_take two.0 one.0 u within, two.2, let le = one.3 in omega arith)

-- ## Where the mark stands

record HasMark (c : ℕ) (w : List ℕ) : Type 0 where
  within : prefix_len is_blank w < length w
  here : get_or w (prefix_len is_blank w) 0 ≡ c

mark_later : (c x : ℕ) (w : List ℕ) → is_blank x ≡ true → HasMark c w → HasMark c (x ∷ w)
mark_later c x w e h =
    let at : prefix_len is_blank (x ∷ w) ≡ suc (prefix_len is_blank w) = rw e (omega arith) in
    let lt = h.within in
    record { within = rw at (omega arith); here = rw at h.here }

mark_here : (c x : ℕ) (w : List ℕ) → is_blank x ≡ false → x ≡ c → HasMark c (x ∷ w)
mark_here c x w e same =
    let at : prefix_len is_blank (x ∷ w) ≡ 0 = rw e refl in
    record { within = rw at (omega arith); here = rw at same }

card_begins : (x : ℕ) (w : List ℕ) → card_comment (x ∷ w) ≡ true → x ≡ 42
card_begins x [] h = absurd cc
card_begins x (y ∷ w) h = eqb-true x 42 (and_parts (x == 42) (not (y == 46)) h).0

card_mark : (w : List ℕ) → card_comment (unindented w) ≡ true → HasMark 42 w
card_mark [] h = absurd cc
card_mark (x ∷ w) h = elim (cases_Bool (is_blank x)) [
  | inl e ↦ mark_later 42 x w e (card_mark w (rw e at h))
  | inr e ↦ mark_here 42 x w e (card_begins x w (rw e at h))
]

row_mark : (w : List ℕ) → row_comment (unindented w) ≡ true → HasMark 35 w
row_mark [] h = absurd cc
row_mark (x ∷ w) h = elim (cases_Bool (is_blank x)) [
  | inl e ↦ mark_later 35 x w e (row_mark w (rw e at h))
  | inr e ↦ mark_here 35 x w e (eqb-true x 35 (rw e at h))
]

-- ## Fronts of comments are skipped

star_only : (x : ℕ) (w : List ℕ) (m : ℕ) → card_comment (x ∷ w) ≡ true → card_shape (x ∷ take m w) ≡ Skipped
star_only x [] m h = absurd cc
star_only x (y ∷ w) zero h = rw (and_parts (x == 42) (not (y == 46)) h).0 refl
star_only x (y ∷ w) (suc m) h =
    let parts = and_parts (x == 42) (not (y == 46)) h in
    let no_dot : (y == 46) ≡ false = not-true (y == 46) parts.1 in
    rw (parts.0, no_dot) refl

card_front : (w : List ℕ) (m : ℕ) → card_comment (unindented w) ≡ true → prefix_len is_blank w < m → card_shape (unindented (take m w)) ≡ Skipped
card_front [] m h lt = absurd cc
card_front (x ∷ w) zero h lt = absurd (omega arith)
card_front (x ∷ w) (suc m) h lt = elim (cases_Bool (is_blank x)) [
  | inl e ↦
      let at : prefix_len is_blank (x ∷ w) ≡ suc (prefix_len is_blank w) = rw e (omega arith) in
      rw e (card_front w m (rw e at h) (omega arith))
  | inr e ↦ rw e (star_only x w m (rw e at h))
]

blank_front : (w : List ℕ) (j : ℕ) → j ≤ prefix_len is_blank w → unindented (take j w) ≡ []
blank_front w zero le = refl
blank_front [] (suc j) le = refl
blank_front (x ∷ w) (suc j) le = elim (cases_Bool (is_blank x)) [
  | inl e ↦
      let at : prefix_len is_blank (x ∷ w) ≡ suc (prefix_len is_blank w) = rw e (omega arith) in
      rw e (blank_front w j (omega arith))
  | inr e ↦
      let at : prefix_len is_blank (x ∷ w) ≡ 0 = rw e refl in
      absurd (omega arith)
]

-- ## Where the text is cut

place_low : (test : ℕ → Bool) (i n : ℕ) → i ≤ first_place test i n
place_low test i zero = omega arith
place_low test i (suc n) = elim (cases_Bool (test i)) [
  | inl e ↦ rw e (omega arith)
  | inr e ↦ rw e (let h = place_low test (i + 1) n in omega arith)
]

place_high : (test : ℕ → Bool) (i n : ℕ) → first_place test i n ≤ i + n
place_high test i zero = omega arith
place_high test i (suc n) = elim (cases_Bool (test i)) [
  | inl e ↦ rw e (omega arith)
  | inr e ↦ rw e (let h = place_high test (i + 1) n in omega arith)
]

-- the place comes after those at which the test fails
place_after : (test : ℕ → Bool) (i n p : ℕ) → ((k : ℕ) → i ≤ k → k ≤ p → test k ≡ false) → p < i + n → p < first_place test i n
place_after test i zero p h lt = omega arith
place_after test i (suc n) p h lt = elim (cases_lt p i) [
  | inl before ↦ let low = place_low test i (suc n) in omega arith
  | inr le ↦ rw (h i (omega arith) le) (place_after test (i + 1) n p (λ k low high. h k (omega arith) high) (omega arith))
]

blank_no_sign : (b : ℕ) → is_blank b ≡ true → (b == 36) ≡ false
blank_no_sign b e = grind (arith, nat_tests)

-- up to the mark no `$` stands
no_dollar_there : (c : ℕ) (w : List ℕ) (k : ℕ) → (c == 36) ≡ false → HasMark c w → prefix_len is_blank w < k → (i : ℕ) → i ≤ prefix_len is_blank w → is_lone_dollar (take k w) i ≡ false
no_dollar_there c w k no_sign m lt i le =
    let at : get_or (take k w) i 0 ≡ get_or w i 0 = get_or-take k w i 0 (omega arith) in
    let fails : (get_or (take k w) i 0 == 36) ≡ false = ap (λ (b : ℕ). b == 36) at ∙ byte in
    rw fails refl
  where
    byte : (get_or w i 0 == 36) ≡ false
    byte = elim (cases_lt i (prefix_len is_blank w)) [
      | inl h ↦ blank_no_sign (get_or w i 0) (prefix_len_passes is_blank w i 0 h)
      | inr h ↦ let same : i ≡ prefix_len is_blank w = omega arith in ap (λ (j : ℕ). get_or w j 0 == 36) same ∙ ap (λ (b : ℕ). b == 36) m.here ∙ no_sign
    ]

cards-cut : (kind : FileKind) (text : List ℕ) → is_netlist kind ≡ true → cut kind text ≡ take (first_place (is_lone_dollar text) 0 (length text)) text
unfolding cut
cards-cut kind text e = rw e refl

rows-cut : (kind : FileKind) (text : List ℕ) → is_netlist kind ≡ false → cut kind text ≡ before_first (λ b. b == 35) text
unfolding cut
rows-cut kind text e = rw e refl

card-shape : (kind : FileKind) (text : List ℕ) → is_netlist kind ≡ true → shape_of kind text ≡ card_shape (unindented text)
unfolding shape_of
card-shape kind text e = rw e refl

row-shape : (kind : FileKind) (text : List ℕ) → is_netlist kind ≡ false → shape_of kind text ≡ row_shape (unindented text)
unfolding shape_of
row-shape kind text e = rw e refl

card_skips : (kind : FileKind) (w : List ℕ) → is_netlist kind ≡ true → card_comment (unindented w) ≡ true → shape_of kind (cut kind (text_of w)) ≡ Skipped
card_skips kind w e h =
    let m = card_mark w h in
    let p : ℕ = prefix_len is_blank w in
    let t = text_keeps w p 42 m.within m.here refl refl in
    let k : ℕ = t.0 in
    let text : List ℕ = take k w in
    let long : length text ≡ k = length-take-le k w t.3 in
    let j : ℕ = first_place (is_lone_dollar text) 0 (length text) in
    let lt : p < k = t.2 in
    let high : j ≤ 0 + length text = place_high (is_lone_dollar text) 0 (length text) in
    let low : p < j = place_after (is_lone_dollar text) 0 (length text) p (λ i a b. no_dollar_there 42 w k refl m lt i b) (omega arith) in
    let whole : cut kind (text_of w) ≡ take j w = ap (cut kind) t.1 ∙ cards-cut kind text e ∙ take_take j k w (omega arith) in
    card-shape kind (cut kind (text_of w)) e ∙ ap (λ (u : List ℕ). card_shape (unindented u)) whole ∙ card_front w j h low

row_skips : (kind : FileKind) (w : List ℕ) → is_netlist kind ≡ false → row_comment (unindented w) ≡ true → shape_of kind (cut kind (text_of w)) ≡ Skipped
row_skips kind w e h =
    let m = row_mark w h in
    let p : ℕ = prefix_len is_blank w in
    let t = text_keeps w p 35 m.within m.here refl refl in
    let k : ℕ = t.0 in
    let text : List ℕ = take k w in
    let lt : p < k = t.2 in
    let j : ℕ = position_or_len (λ b. b == 35) text in
    let here : (get_or text p 0 == 35) ≡ true = ap (λ (b : ℕ). b == 35) (get_or-take k w p 0 lt ∙ m.here) in
    let low : j ≤ p = first_by text p here in
    let whole : cut kind (text_of w) ≡ take j w = ap (cut kind) t.1 ∙ rows-cut kind text e ∙ take_take j k w (omega arith) in
    row-shape kind (cut kind (text_of w)) e ∙ ap (λ (u : List ℕ). row_shape (unindented u)) whole ∙ ap row_shape (blank_front w j low)
  where
    first_by : (text : List ℕ) (p : ℕ) → (get_or text p 0 == 35) ≡ true → position_or_len (λ b. b == 35) text ≤ p
    first_by text p here = elim (cases_lt p (position_or_len (λ b. b == 35) text)) [
      | inl h ↦ let both : true ≡ false = sym here ∙ fails_before_first (λ b. b == 35) text p 0 h in absurd cc
      | inr h ↦ h
    ]

comment_skips : (kind : FileKind) (w : List ℕ) → begins_comment kind w ≡ true → shape_of kind (cut kind (text_of w)) ≡ Skipped
comment_skips kind w h = elim (cases_Bool (is_netlist kind)) [
  | inl e ↦ card_skips kind w e (rw e at h)
  | inr e ↦ row_skips kind w e (rw e at h)
]

-- ## A comment goes on

card_more : (u more : List ℕ) → card_comment (unindented u) ≡ true → card_comment (unindented (u ++ more)) ≡ true
card_more [] more h = absurd cc
card_more (x ∷ u) more h = elim (cases_Bool (is_blank x)) [
  | inl e ↦ rw e (card_more u more (rw e at h))
  | inr e ↦ rw e (goes u (rw e at h))
]
  where
    goes : (v : List ℕ) → card_comment (x ∷ v) ≡ true → card_comment (x ∷ (v ++ more)) ≡ true
    goes [] h = absurd cc
    goes (y ∷ v) h = h

row_more : (u more : List ℕ) → row_comment (unindented u) ≡ true → row_comment (unindented (u ++ more)) ≡ true
row_more [] more h = absurd cc
row_more (x ∷ u) more h = elim (cases_Bool (is_blank x)) [
  | inl e ↦ rw e (row_more u more (rw e at h))
  | inr e ↦ rw e (rw e at h)
]

comment_more : (kind : FileKind) (u more : List ℕ) → begins_comment kind u ≡ true → begins_comment kind (u ++ more) ≡ true
comment_more kind u more h = elim (cases_Bool (is_netlist kind)) [
  | inl e ↦ rw e (card_more u more (rw e at h))
  | inr e ↦ rw e (row_more u more (rw e at h))
]

-- ## Bad bytes of a comment

without-cons : (c x y : ℕ) (u : List ℕ) → without_last c (x ∷ y ∷ u) ≡ x ∷ without_last c (y ∷ u)
without-cons c x y u =
    let far : length (x ∷ y ∷ u) - 1 ≡ suc (length (y ∷ u) - 1) = omega arith in
    elim (cases_Bool (get_or (y ∷ u) (length (y ∷ u) - 1) 0 == c)) [
      | inl e ↦ rw (far, e) refl
      | inr e ↦ rw (far, e) refl
    ]

without-append : (c y : ℕ) (p u : List ℕ) → without_last c (p ++ y ∷ u) ≡ p ++ without_last c (y ∷ u)
without-append c y [] u = refl
without-append c y (x ∷ []) u = without-cons c x y u
without-append c y (x ∷ z ∷ p) u = without-cons c x z (p ++ y ∷ u) ∙ ap (λ (v : List ℕ). x ∷ v) (without-append c y (z ∷ p) u)

-- what is left of two bytes and more begins with the first
first_stays : (c a b : ℕ) (u : List ℕ) → (v : List ℕ) × (without_last c (a ∷ b ∷ u) ≡ a ∷ v)
first_stays c a b u = (without_last c (b ∷ u), without-cons c a b u)

text-append : (p u : List ℕ) (a b : ℕ) → text_of (p ++ a ∷ b ∷ u) ≡ p ++ text_of (a ∷ b ∷ u)
text-append p u a b =
    let s = first_stays 10 a b u in
    text-is (p ++ a ∷ b ∷ u) ∙ ap (without_last 13) (without-append 10 a p (b ∷ u) ∙ ap (λ (v : List ℕ). p ++ v) s.1) ∙ without-append 13 a p s.0
    ∙ ap (λ (v : List ℕ). p ++ without_last 13 v) (sym s.1) ∙ ap (λ (v : List ℕ). p ++ v) (sym (text-is (a ∷ b ∷ u)))

bad_text : (p u : List ℕ) (a b : ℕ) → list_any is_bad (text_of (p ++ a ∷ b ∷ u)) ≡ (list_any is_bad p || list_any is_bad (text_of (a ∷ b ∷ u)))
bad_text p u a b = ap (list_any is_bad) (text-append p u a b) ∙ list_any-append is_bad p (text_of (a ∷ b ∷ u))

-- ## What a comment reads

abbrev skipped_read : ℕ → Bool → Read
skipped_read number bad = record { number = number; bad = bad; shape = Skipped; size = 0; tokens = [] }

comment_read : (kind : FileKind) (number : ℕ) (line : List ℕ) → begins_comment kind line ≡ true → read kind number line ≡ skipped_read number (list_any is_bad (text_of line))
unfolding read
comment_read kind number line h = rw (comment_skips kind line h) refl

-- two comments with the same last two bytes read the same, however they go on, where the bytes before those are alike
pub comments_alike : (kind : FileKind) (p q : List ℕ) (a b : ℕ) → begins_comment kind (p ++ a ∷ b ∷ []) ≡ true → begins_comment kind (q ++ a ∷ b ∷ []) ≡ true → list_any is_bad p ≡ list_any is_bad q → ReadsAs kind (p ++ a ∷ b ∷ []) (q ++ a ∷ b ∷ [])
comments_alike kind p q a b here there same more number =
    let bad : (r : List ℕ) → list_any is_bad (text_of ((r ++ a ∷ b ∷ []) ++ more)) ≡ (list_any is_bad r || list_any is_bad (text_of (a ∷ b ∷ more))) =
    λ r. ap (λ (v : List ℕ). list_any is_bad (text_of v)) (append_assoc r (a ∷ b ∷ []) more) ∙ bad_text r more a b in
    comment_read kind number ((p ++ a ∷ b ∷ []) ++ more) (comment_more kind (p ++ a ∷ b ∷ []) more here)
    ∙ ap (skipped_read number) (bad p ∙ ap (λ (c : Bool). c || list_any is_bad (text_of (a ∷ b ∷ more))) same ∙ sym (bad q))
    ∙ sym (comment_read kind number ((q ++ a ∷ b ∷ []) ++ more) (comment_more kind (q ++ a ∷ b ∷ []) more there))

-- ## What the code finds

rest_is : (text : List ℕ) (n : ℕ) → n ≡ prefix_len is_blank text → take (length text - n) (drop n text) ≡ unindented text
rest_is text n place = take_rest text n ∙ ap (λ (m : ℕ). drop m text) place ∙ unindented_is text

pub card_found : (kind : FileKind) (text : List ℕ) (n : ℕ) (b : Bool) → is_netlist kind ≡ true → n ≡ prefix_len is_blank text → b ≡ card_comment (take (length text - n) (drop n text)) → b ≡ begins_comment kind text
card_found kind text n b e place h = rw e (h ∙ ap card_comment (rest_is text n place))

pub row_found : (kind : FileKind) (text : List ℕ) (n : ℕ) (b : Bool) → is_netlist kind ≡ false → n ≡ prefix_len is_blank text → b ≡ row_comment (take (length text - n) (drop n text)) → b ≡ begins_comment kind text
row_found kind text n b e place h = rw e (h ∙ ap row_comment (rest_is text n place))

last_two : (line : List ℕ) → 2 ≤ length line → line ≡ take (length line - 2) line ++ get_or line (length line - 2) 0 ∷ get_or line (length line - 1) 0 ∷ []
last_two line le =
    let k : ℕ = length line - 2 in
    let m : ℕ = length line - 1 in
    let e : k + 1 ≡ m = omega arith in
    let f : m + 1 ≡ length line = omega arith in
    let front : take m line ≡ take k line ++ get_or line k 0 ∷ [] = ap (λ (i : ℕ). take i line) (sym e) ∙ take_more line k 0 (omega arith) in
    sym (take_all (length line) line (omega arith)) ∙ ap (λ (i : ℕ). take i line) (sym f) ∙ take_more line m 0 (omega arith)
    ∙ ap (λ (u : List ℕ). u ++ get_or line m 0 ∷ []) front ∙ append_assoc (take k line) (get_or line k 0 ∷ []) (get_or line m 0 ∷ [])

-- the mark of a comment, and a byte that is bad where one is
short_begins : (kind : FileKind) (netlist bad : Bool) (a b : ℕ) → is_netlist kind ≡ netlist → begins_comment kind (cond netlist 42 35 ∷ cond bad 0 32 ∷ a ∷ b ∷ []) ≡ true
short_begins kind true true a b e = rw e refl
short_begins kind true false a b e = rw e refl
short_begins kind false true a b e = rw e refl
short_begins kind false false a b e = rw e refl

short_bad : (netlist bad : Bool) → list_any is_bad (cond netlist 42 35 ∷ cond bad 0 32 ∷ []) ≡ bad
short_bad true true = refl
short_bad true false = refl
short_bad false true = refl
short_bad false false = refl

pub is_short : (kind : FileKind) (line : List ℕ) (mark witness : ℕ) → 2 ≤ length line → 3 ≤ length (take (length line - 2) line) → begins_comment kind line ≡ true
    → mark ≡ cond (is_netlist kind) 42 35 → witness ≡ cond (list_any is_bad (take (length line - 2) line)) 0 32
    → IsShort kind (mark ∷ witness ∷ get_or line (length line - 2) 0 ∷ get_or line (length line - 1) 0 ∷ []) line
is_short kind line mark witness le long begins m w =
    let front : List ℕ = take (length line - 2) line in
    let a : ℕ = get_or line (length line - 2) 0 in
    let b : ℕ = get_or line (length line - 1) 0 in
    let bad : Bool = list_any is_bad front in
    let whole : line ≡ front ++ a ∷ b ∷ [] = last_two line le in
    let size : length front ≡ length line - 2 = length-take-le (length line - 2) line (omega arith) in
    let short : List ℕ = cond (is_netlist kind) 42 35 ∷ cond bad 0 32 ∷ a ∷ b ∷ [] in
    let reads : ReadsAs kind short (front ++ a ∷ b ∷ []) =
    comments_alike kind (cond (is_netlist kind) 42 35 ∷ cond bad 0 32 ∷ []) front a b (short_begins kind (is_netlist kind) bad a b refl) (ap (begins_comment kind) (sym whole) ∙ begins) (short_bad (is_netlist kind) bad) in
    let P : List ℕ → Type 0 = λ u. ReadsAs kind short u in
    let Q : ℕ → Type 0 = λ c. IsShort kind (c ∷ witness ∷ a ∷ b ∷ []) line in
    let R : ℕ → Type 0 = λ c. IsShort kind (cond (is_netlist kind) 42 35 ∷ c ∷ a ∷ b ∷ []) line in
    subst Q (sym m) (subst R (sym w) (record { longer = omega arith; some = omega arith; reads = subst P (sym whole) reads }))
