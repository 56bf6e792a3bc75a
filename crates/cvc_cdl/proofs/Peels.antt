-- Finding the finite cells: what stays true as cells are taken, and what is known at the end.
use Rattle.std.proofs.Common.{◌≡◌, ◌==◌, ◌<◌, ◌≤◌, ◌+◌, ◌-◌, ◌*◌, ℕ, zero, suc, Bool, true, false, not, List, [], ◌∷◌, ◌++◌, length, map, get_or, take, set, refl, sym, ap, subst, ◌∙◌, inl, inr, arith}
use Rattle.std.specs.Prelude.{All, slice_index, slice_index_or, Vec}
use Rattle.std.specs.declared.alloc.Global.{Global}
use Rattle.std.proofs.lemmas.Bool.{cases_eq, cases_lt, cases_order, eq-eqb, ne_eqb}
use Rattle.std.proofs.lemmas.List.{get_or_past, get_or_read, get_or-map, get_or-set_same, get_or-set_other, length-set, length-map, length-append, take_more, get_or_append_left, take_all, take-append-le, get_or-take, append_assoc, length-take-le}
use Rattle.std.proofs.lemmas.List.Elements.{All-push, All-get_or}
use Rattle.cvc_cdl.specs.Chains.{used_at, chain_by, numbers_of, all_numbers, AreBelow, TellsEndless}
use Rattle.cvc_cdl.specs.Peeling.{times, is_listed, count_outside, one_if, AreUsers, AreListed, IsPeeled}
use Rattle.cvc_cdl.proofs.Times.{times-push, times_more, times_more_le, one-same, one-apart, listed_none, listed_some, listed_at, place_of, all_below, none_past, length-le_from_once}
use Rattle.cvc_cdl.proofs.Outside.{chain_from, chain_more, outside-nil, outside_taken, none_inside, some_outside}

-- ## Lists of the cells that have no use left

one_zero : (n : ℕ) → n ≡ 0 → one_if (n == 0) ≡ 1
one_zero n h = one-same n 0 h

no_zero : (n : ℕ) → 0 < n → one_if (n == 0) ≡ 0
no_zero n h = one-apart n 0 (λ e. omega arith)

-- a list that has each cell without uses among the first
pub listed_next : (left finite : List ℕ) (n : ℕ) → n < length left → AreListed (take n left) finite → slice_index left n ≡ 0 → AreListed (take (n + 1) left) (finite ++ n ∷ [])
listed_next left finite n lt h none =
    let sized : length (take n left) ≡ n = length-take-le n left (omega arith) in
    let longer : length (take (n + 1) left) ≡ n + 1 = length-take-le (n + 1) left (omega arith) in record {
      once = λ i inside.
          let more : times i (finite ++ n ∷ []) ≡ times i finite + one_if (n == i) = times-push i finite n in
          let there : slice_index (take (n + 1) left) i ≡ slice_index left i = get_or-take (n + 1) left i 0 (omega arith) in
          elim (cases_eq n i) [
            | inl same ↦
                let here : one_if (n == i) ≡ 1 = one-same n i same in
                let at : slice_index left n ≡ slice_index left i = ap (slice_index left) same in
                let now : one_if (slice_index (take (n + 1) left) i == 0) ≡ 1 = one_zero (slice_index (take (n + 1) left) i) (omega arith) in
                let before : times i finite ≡ 0 = none_past n i finite (subst (λ m. All (λ j. j < m) finite) sized h.below) (omega arith) in
                omega arith
            | inr apart ↦
                let other : one_if (n == i) ≡ 0 = one-apart n i apart in
                let before : times i finite ≡ one_if (slice_index (take n left) i == 0) = h.once i (omega arith) in
                let same : one_if (slice_index (take n left) i == 0) ≡ one_if (slice_index (take (n + 1) left) i == 0) = ap (λ (m : ℕ). one_if (m == 0)) (get_or-take n left i 0 (omega arith) ∙ sym there) in
                omega arith
          ];
      below = All-push (λ (i : ℕ). i < length (take (n + 1) left)) finite n (λ k d inside. let less : slice_index_or finite k d < length (take n left) = h.below k d inside in omega arith) (omega arith);
    }

pub listed_skip : (left finite : List ℕ) (n : ℕ) → n < length left → AreListed (take n left) finite → 0 < slice_index left n → AreListed (take (n + 1) left) finite
listed_skip left finite n lt h some_left =
    let sized : length (take n left) ≡ n = length-take-le n left (omega arith) in
    let longer : length (take (n + 1) left) ≡ n + 1 = length-take-le (n + 1) left (omega arith) in record {
      once = λ i inside.
          let there : slice_index (take (n + 1) left) i ≡ slice_index left i = get_or-take (n + 1) left i 0 (omega arith) in
          elim (cases_eq n i) [
            | inl same ↦
                let at : slice_index left n ≡ slice_index left i = ap (slice_index left) same in
                let now : one_if (slice_index (take (n + 1) left) i == 0) ≡ 0 = no_zero (slice_index (take (n + 1) left) i) (omega arith) in
                let before : times i finite ≡ 0 = none_past n i finite (subst (λ m. All (λ j. j < m) finite) sized h.below) (omega arith) in
                omega arith
            | inr apart ↦
                let before : times i finite ≡ one_if (slice_index (take n left) i == 0) = h.once i (omega arith) in
                before ∙ ap (λ (m : ℕ). one_if (m == 0)) (get_or-take n left i 0 (omega arith) ∙ sym there)
          ];
      below = λ k d inside. let less : slice_index_or finite k d < length (take n left) = h.below k d inside in omega arith;
    }

-- ## Taking

-- no cell is listed twice
once_only : (left finite : List ℕ) → AreListed left finite → (x : ℕ) → times x finite ≤ 1
once_only left finite h x = elim (cases_lt x (length left)) [
  | inl inside ↦ let is : times x finite ≡ one_if (slice_index left x == 0) = h.once x inside in let most : one_if (slice_index left x == 0) ≤ 1 = at_most_one (slice_index left x == 0) in omega arith
  | inr past ↦ let none : times x finite ≡ 0 = none_past (length left) x finite h.below past in omega arith
]
  where
    at_most_one : (b : Bool) → one_if b ≤ 1
    at_most_one true = omega arith
    at_most_one false = omega arith

-- the next cell to be taken isn't among those that were
next_free : (left finite : List ℕ) (n : ℕ) → AreListed left finite → n < length finite → is_listed (take n finite) (get_or finite n 0) ≡ false
next_free left finite n h lt =
    let c : ℕ = get_or finite n 0 in
    let few : times c (take n finite) + one_if (c == c) ≤ times c finite = times_more_le c finite n lt in
    let one : one_if (c == c) ≡ 1 = one-same c c refl in
    let most : times c finite ≤ 1 = once_only left finite h c in
    listed_none (take n finite) c (omega arith)

pub finite_few : (uses : List (List ℕ)) (n : ℕ) (left finite : List ℕ) → IsPeeled uses n left finite → length finite ≤ length uses
finite_few uses n left finite h = length-le_from_once (length uses) finite (once_only left finite h.listed) (subst (λ m. All (λ i. i < m) finite) h.sized h.listed.below)

pub users_below : (uses users : List (List ℕ)) (c : ℕ) → AreUsers uses users → c < length uses → All (λ i. i < length uses) (used_at users c)
users_below uses users c h lt = all_below (length uses) (used_at users c) (λ x past. h.each x c lt ∙ ap (times c) (get_or_past uses x [] past))

-- each user of the next cell has uses enough
pub taken_enough : (uses users : List (List ℕ)) (n : ℕ) (left finite : List ℕ) → AreUsers uses users → IsPeeled uses n left finite → n < length finite → (i : ℕ) → times i (used_at users (get_or finite n 0)) ≤ slice_index left i
taken_enough uses users n left finite us h lt i =
    let c : ℕ = get_or finite n 0 in
    let c_below : c < length left = All-get_or (λ (j : ℕ). j < length left) finite n 0 lt h.listed.below in
    let same : times i (used_at users c) ≡ times c (used_at uses i) = us.each i c (omega (arith, h.sized)) in
    elim (cases_lt i (length uses)) [
      | inl inside ↦
          let split : count_outside (take n finite) (used_at uses i) ≡ count_outside (take n finite ++ c ∷ []) (used_at uses i) + times c (used_at uses i) = outside_taken (take n finite) c (used_at uses i) (next_free left finite n h.listed lt) in
          omega (arith, h.counted i inside)
      | inr past ↦ let none : times c (used_at uses i) ≡ 0 = ap (times c) (get_or_past uses i [] past) in omega arith
    ]

-- a cell that uses only cells of the list's front
ranked_by : (uses : List (List ℕ)) (n : ℕ) (finite : List ℕ) (x : ℕ) → n ≤ length finite → ((p : ℕ) → p < n → chain_by uses (suc p) (slice_index finite p) ≡ false) → count_outside (take n finite) (used_at uses x) ≡ 0 → chain_by uses (suc n) x ≡ false
ranked_by uses n finite x le ranked none = chain_more uses n x ∙ none_inside (take n finite) (chain_by uses n) (λ y there.
    let found = place_of (take n finite) y there in
    let p : ℕ = found.0 in
    let before : p < n = (let long : length (take n finite) ≡ n = length-take-le n finite le in omega (arith, found.1)) in
    let at : slice_index finite p ≡ y = sym (get_or-take n finite p 0 before) ∙ found.2 in
    chain_from uses (suc p) n y (omega arith) (subst (λ z. chain_by uses (suc p) z ≡ false) at (ranked p before))
    ) (used_at uses x) none

spent : (n : ℕ) → 0 < one_if (n == 0) → n ≡ 0
spent n h = elim (cases_eq n 0) [ inl e ↦ e | inr ne ↦ absurd (let none : one_if (n == 0) ≡ 0 = one-apart n 0 ne in omega arith) ]

-- every cell of the list has no use left
left_none : (left finite : List ℕ) → AreListed left finite → (p : ℕ) → p < length finite → slice_index left (slice_index finite p) ≡ 0
left_none left finite h p lt =
    let x : ℕ = slice_index finite p in
    let inside : x < length left = All-get_or (λ (j : ℕ). j < length left) finite p 0 lt h.below in
    spent (slice_index left x) (let is : times x finite ≡ one_if (slice_index left x == 0) = h.once x inside in let some_there : 0 < times x finite = listed_at finite p lt in omega arith)

pub peeled_first : (uses : List (List ℕ)) (left finite : List ℕ) → length left ≡ length uses → ((i : ℕ) → i < length uses → slice_index left i ≡ length (used_at uses i)) → AreListed left finite → IsPeeled uses 0 left finite
peeled_first uses left finite sized counts listed = record {
  sized = sized;
  within = omega arith;
  counted = λ i inside. counts i inside ∙ sym (outside-nil (used_at uses i));
  listed = listed;
  ranked = λ p lt.
      let x : ℕ = slice_index finite p in
      let inside : x < length left = All-get_or (λ (j : ℕ). j < length left) finite p 0 lt listed.below in
      let none : count_outside [] (used_at uses x) ≡ 0 = outside-nil (used_at uses x) ∙ (sym (counts x (omega arith)) ∙ left_none left finite listed p lt) in
      chain_from uses 1 (suc p) x (omega arith) (ranked_by uses 0 finite x (omega arith) (λ q less. absurd (omega arith)) none);
}

pub peeled_next : (uses users : List (List ℕ)) (n : ℕ) (left finite now_left now_finite more : List ℕ) → AreUsers uses users → IsPeeled uses n left finite → n < length finite → length now_left ≡ length left
    → ((i : ℕ) → slice_index now_left i + times i (used_at users (get_or finite n 0)) ≡ slice_index left i) → AreListed now_left now_finite → now_finite ≡ finite ++ more → IsPeeled uses (n + 1) now_left now_finite
peeled_next uses users n left finite now_left now_finite more us h lt same_size taken listed longer =
    let c : ℕ = get_or finite n 0 in
    let c_below : c < length left = All-get_or (λ (j : ℕ). j < length left) finite n 0 lt h.listed.below in
    let long : length now_finite ≡ length finite + length more = ap length longer ∙ length-append finite more in
    let front : take (n + 1) now_finite ≡ take n finite ++ c ∷ [] = ap (take (n + 1)) longer ∙ (take-append-le (n + 1) finite more (omega arith) ∙ take_more finite n 0 lt) in
    let sized : length now_left ≡ length uses = same_size ∙ h.sized in
    let counted : (i : ℕ) → i < length uses → slice_index now_left i ≡ count_outside (take (n + 1) now_finite) (used_at uses i) = λ i inside.
    let split : count_outside (take n finite) (used_at uses i) ≡ count_outside (take n finite ++ c ∷ []) (used_at uses i) + times c (used_at uses i) = outside_taken (take n finite) c (used_at uses i) (next_free left finite n h.listed lt) in
    let same : times i (used_at users c) ≡ times c (used_at uses i) = us.each i c (omega (arith, h.sized)) in
    let less : slice_index now_left i + times i (used_at users c) ≡ slice_index left i = taken i in
    let there : count_outside (take (n + 1) now_finite) (used_at uses i) ≡ count_outside (take n finite ++ c ∷ []) (used_at uses i) = ap (λ (xs : List ℕ). count_outside xs (used_at uses i)) front in
    omega (arith, h.counted i inside)
    in
    let before : (p : ℕ) → p < length finite → chain_by uses (suc p) (slice_index now_finite p) ≡ false = λ p less.
    subst (λ x. chain_by uses (suc p) x ≡ false) (sym (ap (λ (xs : List ℕ). slice_index xs p) longer ∙ get_or_append_left finite more 0 p less)) (h.ranked p less)
    in
    record {
      sized = sized;
      within = omega arith;
      counted = counted;
      listed = listed;
      ranked = λ p inside. elim (cases_lt p (length finite)) [
        | inl less ↦ before p less
        | inr past ↦
            let x : ℕ = slice_index now_finite p in
            let x_below : x < length now_left = All-get_or (λ (j : ℕ). j < length now_left) now_finite p 0 inside listed.below in
            let none : count_outside (take (n + 1) now_finite) (used_at uses x) ≡ 0 = sym (counted x (omega arith)) ∙ left_none now_left now_finite listed p inside in
            chain_from uses (suc (n + 1)) (suc p) x (omega arith) (ranked_by uses (n + 1) now_finite x (omega arith) (λ q less. before q (omega arith)) none)
      ];
    }

-- ## The answers

-- a cell that has uses left is endless
goes_on : (uses : List (List ℕ)) (left finite : List ℕ) → AreBelow uses → length left ≡ length uses → AreListed left finite → ((i : ℕ) → i < length uses → slice_index left i ≡ count_outside finite (used_at uses i)) → (n i : ℕ) → i < length uses → 0 < slice_index left i → chain_by uses n i ≡ true
unfolding chain_by
goes_on uses left finite below sized listed counted zero i inside some_left = refl
goes_on uses left finite below sized listed counted (suc n) i inside some_left =
    some_outside (length uses) finite (chain_by uses n) (λ x less out. goes_on uses left finite below sized listed counted n x less (still x less out)) (used_at uses i) (below i [] inside) (let is : slice_index left i ≡ count_outside finite (used_at uses i) = counted i inside in omega arith)
  where
    still : (x : ℕ) → x < length uses → is_listed finite x ≡ false → 0 < slice_index left x
    still x less out = elim (cases_lt 0 (slice_index left x)) [
      | inl some_there ↦ some_there
      | inr none ↦ absurd (
          let is : times x finite ≡ one_if (slice_index left x == 0) = listed.once x (omega arith) in
          let one : one_if (slice_index left x == 0) ≡ 1 = one_zero (slice_index left x) (omega arith) in
          let there : is_listed finite x ≡ true = listed_some finite x (omega arith) in
          let no : true ≡ false = sym there ∙ out in cc
          )
    ]

not_zero : (n : ℕ) → 0 < n → not (n == 0) ≡ true
not_zero n h = ap not (ne_eqb n 0 (λ e. omega arith))

is_zero : (n : ℕ) → n ≡ 0 → not (n == 0) ≡ false
is_zero n h = ap not (eq-eqb n 0 h)

pub answered : (uses : List (List ℕ)) (n : ℕ) (left finite : List ℕ) → AreBelow uses → IsPeeled uses n left finite → length finite ≤ n → TellsEndless uses (map (λ m. not (m == 0)) left)
answered uses n left finite below h all =
    let counted : (i : ℕ) → i < length uses → slice_index left i ≡ count_outside finite (used_at uses i) = λ i inside. h.counted i inside ∙ ap (λ (xs : List ℕ). count_outside xs (used_at uses i)) (take_all n finite all) in
    record {
      sized = length-map left (λ m. not (m == 0)) ∙ h.sized;
      each = λ i inside. get_or-map (λ (m : ℕ). not (m == 0)) left i 0 false (omega (arith, h.sized)) ∙ elim (cases_lt 0 (slice_index left i)) [
        | inl some_left ↦ not_zero (slice_index left i) some_left ∙ sym (goes_on uses left finite below h.sized h.listed counted (length uses) i inside some_left)
        | inr none ↦
            let is : times i finite ≡ one_if (slice_index left i == 0) = h.listed.once i (omega (arith, h.sized)) in
            let one : one_if (slice_index left i == 0) ≡ 1 = one_zero (slice_index left i) (omega arith) in
            let found = place_of finite i (listed_some finite i (omega arith)) in
            let p : ℕ = found.0 in
            let few : length finite ≤ length uses = finite_few uses n left finite h in
            let ranked : chain_by uses (suc p) i ≡ false = subst (λ x. chain_by uses (suc p) x ≡ false) found.2 (h.ranked p found.1) in
            is_zero (slice_index left i) (omega arith) ∙ sym (chain_from uses (suc p) (length uses) i (omega (arith, found.1)) ranked)
      ];
    }

pub counts_at : (uses : List (Vec ℕ Global)) (i : ℕ) → i < length uses → slice_index (map (λ (used : Vec ℕ Global). length used.items) uses) i ≡ length (used_at (all_numbers uses) i)
counts_at (v ∷ vs) zero lt = refl
counts_at (v ∷ vs) (suc i) lt = counts_at vs i (omega arith)
counts_at [] i lt = absurd (omega arith)

-- ## What the steps of the code leave

-- one more cell's list has the user
pub user_noted : (old now : List (Vec ℕ Global)) (used : List ℕ) (i user : ℕ) (new d : Vec ℕ Global) → i < length used → All (λ j. j < length old) used → length now ≡ length old
    → new.items ≡ (slice_index_or now (slice_index_or used i 0) d).items ++ user ∷ []
    → ((x j : ℕ) → j < length old → times x (used_at (all_numbers now) j) ≡ times x (used_at (all_numbers old) j) + one_if (user == x) * times j (take i used))
    → (x j : ℕ) → j < length old → times x (used_at (all_numbers (set now (slice_index_or used i 0) new)) j) ≡ times x (used_at (all_numbers old) j) + one_if (user == x) * times j (take (i + 1) used)
user_noted old now used i user new d lt below sized pushed before x j inside =
    let c : ℕ = slice_index_or used i 0 in
    let at : Vec ℕ Global = slice_index_or now c d in
    let c_below : c < length old = below i 0 lt in
    let so_far : times x (used_at (all_numbers now) j) ≡ times x (used_at (all_numbers old) j) + one_if (user == x) * times j (take i used) = before x j inside in
    let more : times j (take (i + 1) used) ≡ times j (take i used) + one_if (c == j) = times_more j used i lt in
    elim (cases_eq c j) [
      | inl same ↦
          let there : used_at (all_numbers (set now c new)) j ≡ new.items = get_or-map numbers_of (set now c new) j new [] (omega (arith, length-set now c new)) ∙ ap numbers_of (subst (λ k. get_or (set now c new) k new ≡ new) same (get_or-set_same now c new new (omega arith))) in
          let here : used_at (all_numbers now) j ≡ at.items = get_or-map numbers_of now j d [] (omega arith) ∙ ap (λ k. numbers_of (get_or now k d)) (sym same) in
          let one : one_if (c == j) ≡ 1 = one-same c j same in
          let last : times x (used_at (all_numbers (set now c new)) j) ≡ times x (used_at (all_numbers now) j) + one_if (user == x) = ap (times x) (there ∙ (pushed ∙ ap (λ (xs : List ℕ). xs ++ user ∷ []) (sym here))) ∙ times-push x (used_at (all_numbers now) j) user in
          more_used (one_if (user == x)) (times x (used_at (all_numbers (set now c new)) j)) (times x (used_at (all_numbers old) j)) (times x (used_at (all_numbers now) j)) (times j (take i used)) (times j (take (i + 1) used)) last so_far (omega arith)
      | inr apart ↦
          let none : one_if (c == j) ≡ 0 = one-apart c j apart in
          let kept : used_at (all_numbers (set now c new)) j ≡ used_at (all_numbers now) j = get_or-map numbers_of (set now c new) j at [] (omega (arith, length-set now c new)) ∙ (ap numbers_of (get_or-set_other now c j new at (λ e. apart (sym e))) ∙ sym (get_or-map numbers_of now j at [] (omega arith))) in
          let same : times j (take (i + 1) used) ≡ times j (take i used) = omega arith in
          ap (times x) kept ∙ (so_far ∙ ap (λ n. times x (used_at (all_numbers old) j) + one_if (user == x) * n) (sym same))
    ]
  where
    more_used : (one all_now first now before after : ℕ) → all_now ≡ now + one → now ≡ first + one * before → after ≡ before + 1 → all_now ≡ first + one * after
    more_used one all_now first now before after a b e = a ∙ (omega (arith, b) ∙ ap (λ n. first + one * n) (sym e))

pub use_left : (old now users : List ℕ) (i : ℕ) → i < length users → ((x : ℕ) → times x users ≤ slice_index old x) → ((x : ℕ) → slice_index now x + times x (take i users) ≡ slice_index old x) → 0 < slice_index now (slice_index_or users i 0)
use_left old now users i lt enough taken =
    let c : ℕ = slice_index_or users i 0 in
    let few : times c (take i users) + one_if (c == c) ≤ times c users = times_more_le c users i lt in
    let one : one_if (c == c) ≡ 1 = one-same c c refl in
    omega (arith, enough c, taken c)

pub use_taken : (old now new users : List ℕ) (i : ℕ) → i < length users → All (λ j. j < length old) users → length now ≡ length old → ((x : ℕ) → times x users ≤ slice_index old x) → new ≡ set now (slice_index_or users i 0) (slice_index now (slice_index_or users i 0) - 1)
    → ((x : ℕ) → slice_index now x + times x (take i users) ≡ slice_index old x) → (x : ℕ) → slice_index new x + times x (take (i + 1) users) ≡ slice_index old x
use_taken old now new users i lt below sized enough is taken x =
    let c : ℕ = slice_index_or users i 0 in
    let c_below : c < length old = below i 0 lt in
    let some_left : 0 < slice_index now c = use_left old now users i lt enough taken in
    let more : times x (take (i + 1) users) ≡ times x (take i users) + one_if (c == x) = times_more x users i lt in
    let before : slice_index now x + times x (take i users) ≡ slice_index old x = taken x in
    let there : slice_index new x ≡ slice_index (set now c (slice_index now c - 1)) x = ap (λ (xs : List ℕ). slice_index xs x) is in
    elim (cases_eq x c) [
      | inl same ↦
          let one : one_if (c == x) ≡ 1 = one-same c x (sym same) in
          let less : slice_index (set now c (slice_index now c - 1)) x ≡ slice_index now c - 1 = subst (λ k. slice_index (set now c (slice_index now c - 1)) k ≡ slice_index now c - 1) (sym same) (get_or-set_same now c (slice_index now c - 1) 0 (omega arith)) in
          let at : slice_index now x ≡ slice_index now c = ap (slice_index now) same in
          omega arith
      | inr apart ↦
          let none : one_if (c == x) ≡ 0 = one-apart c x (λ e. apart (sym e)) in
          let kept : slice_index (set now c (slice_index now c - 1)) x ≡ slice_index now x = get_or-set_other now c x (slice_index now c - 1) 0 apart in
          omega arith
    ]

pub two_more : (first now new : List ℕ) → (more : List ℕ) × (now ≡ first ++ more) → (more : List ℕ) × (new ≡ now ++ more) → (more : List ℕ) × (new ≡ first ++ more)
two_more first now new a b = (a.0 ++ b.0, b.1 ∙ (ap (λ (xs : List ℕ). xs ++ b.0) a.1 ∙ append_assoc first a.0 b.0))

pub used_below : (uses : List (Vec ℕ Global)) (i : ℕ) (d : Vec ℕ Global) (used : List ℕ) (users : List (Vec ℕ Global)) → i < length uses → AreBelow (all_numbers uses) → used ≡ (slice_index_or uses i d).items → length users ≡ length uses → All (λ j. j < length users) used
used_below uses i d used users lt below is sized =
    let at : used_at (all_numbers uses) i ≡ used = get_or-map numbers_of uses i d [] lt ∙ sym is in
    let long : length (all_numbers uses) ≡ length users = length-map uses numbers_of ∙ sym sized in
    let inside : All (λ j. j < length (all_numbers uses)) (used_at (all_numbers uses) i) = below i [] (omega (arith, length-map uses numbers_of)) in
    subst (λ n. All (λ j. j < n) used) long (subst (λ xs. All (λ j. j < length (all_numbers uses)) xs) at inside)

-- the list of each cell has one more user
pub users_more : (uses now new got : List (Vec ℕ Global)) (user : ℕ) (d : Vec ℕ Global) (used : List ℕ) → user < length uses → got ≡ new → length now ≡ length uses → used ≡ (slice_index_or uses user d).items
    → ((i j : ℕ) → j < length now → times i (used_at (all_numbers new) j) ≡ times i (used_at (all_numbers now) j) + one_if (user == i) * times j used)
    → ((i j : ℕ) → j < length uses → times i (used_at (all_numbers now) j) ≡ times j (used_at (take user (all_numbers uses)) i))
    → (i j : ℕ) → j < length uses → times i (used_at (all_numbers got) j) ≡ times j (used_at (take (user + 1) (all_numbers uses)) i)
users_more uses now new got user d used lt same_list sized is more before i j inside =
    let at : used_at (all_numbers uses) user ≡ used = get_or-map numbers_of uses user d [] lt ∙ sym is in
    let long : length (all_numbers uses) ≡ length uses = length-map uses numbers_of in
    let added : times i (used_at (all_numbers new) j) ≡ times i (used_at (all_numbers now) j) + one_if (user == i) * times j used = more i j (omega arith) in
    let read : times i (used_at (all_numbers got) j) ≡ times i (used_at (all_numbers new) j) = ap (λ (xs : List (Vec ℕ Global)). times i (used_at (all_numbers xs) j)) same_list in
    let so_far : times i (used_at (all_numbers now) j) ≡ times j (used_at (take user (all_numbers uses)) i) = before i j inside in
    elim (cases_order i user) [
      | inl same ↦
          let one : one_if (user == i) ≡ 1 = one-same user i (sym same) in
          let nothing : times j (used_at (take user (all_numbers uses)) i) ≡ 0 = ap (times j) (get_or_past (take user (all_numbers uses)) i [] (omega (arith, length-take-le user (all_numbers uses) (omega arith)))) in
          let now_there : times j (used_at (take (user + 1) (all_numbers uses)) i) ≡ times j used = ap (times j) (get_or-take (user + 1) (all_numbers uses) i [] (omega arith) ∙ (ap (used_at (all_numbers uses)) same ∙ at)) in
          let this : one_if (user == i) * times j used ≡ times j used = ap (λ n. n * times j used) one ∙ omega arith in
          omega arith
      | inr (inl less) ↦
          let none : one_if (user == i) ≡ 0 = one-apart user i (λ e. omega arith) in
          let kept : times j (used_at (take (user + 1) (all_numbers uses)) i) ≡ times j (used_at (take user (all_numbers uses)) i) = ap (times j) (get_or-take (user + 1) (all_numbers uses) i [] (omega arith) ∙ sym (get_or-take user (all_numbers uses) i [] less)) in
          let this : one_if (user == i) * times j used ≡ 0 = ap (λ n. n * times j used) none ∙ omega arith in
          omega arith
      | inr (inr past) ↦
          let none : one_if (user == i) ≡ 0 = one-apart user i (λ e. omega arith) in
          let nothing : times j (used_at (take user (all_numbers uses)) i) ≡ 0 = ap (times j) (get_or_past (take user (all_numbers uses)) i [] (omega (arith, length-take-le user (all_numbers uses) (omega arith)))) in
          let still : times j (used_at (take (user + 1) (all_numbers uses)) i) ≡ 0 = ap (times j) (get_or_past (take (user + 1) (all_numbers uses)) i [] (omega (arith, length-take-le (user + 1) (all_numbers uses) (omega arith)))) in
          let this : one_if (user == i) * times j used ≡ 0 = ap (λ n. n * times j used) none ∙ omega arith in
          omega arith
    ]

pub are_users : (uses users : List (Vec ℕ Global)) (n : ℕ) → length uses ≤ n → length users ≡ length uses → ((i j : ℕ) → j < length uses → times i (used_at (all_numbers users) j) ≡ times j (used_at (take n (all_numbers uses)) i)) → AreUsers (all_numbers uses) (all_numbers users)
are_users uses users n all sized each =
    let long : length (all_numbers uses) ≡ length uses = length-map uses numbers_of in
    record {
      sized = length-map users numbers_of ∙ (sized ∙ sym long);
      each = λ i j inside. each i j (omega arith) ∙ ap (λ xs. times j (used_at xs i)) (take_all n (all_numbers uses) (omega arith));
    }

-- the users of the cell that is read from the list
pub users_of_next : (users : List (Vec ℕ Global)) (uses : List (Vec ℕ Global)) (left finite : List ℕ) (n cell : ℕ) (at : Vec ℕ Global) → AreUsers (all_numbers uses) (all_numbers users) → IsPeeled (all_numbers uses) n left finite → n < length finite
    → cell ≡ slice_index_or finite n cell → at ≡ slice_index_or users cell at → used_at (all_numbers users) (slice_index finite n) ≡ at.items
users_of_next users uses left finite n cell at us h lt cell_is at_is =
    let same : cell ≡ slice_index finite n = get_or_read finite n cell lt cell_is 0 in
    let inside : slice_index finite n < length left = All-get_or (λ (j : ℕ). j < length left) finite n 0 lt h.listed.below in
    let long : length (all_numbers users) ≡ length users = length-map users numbers_of in
    get_or-map numbers_of users (slice_index finite n) at [] (omega (arith, h.sized, us.sized)) ∙ ap numbers_of (ap (λ k. slice_index_or users k at) (sym same) ∙ sym at_is)
