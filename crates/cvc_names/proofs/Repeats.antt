-- A name that stands twice, found by a table of the names before it.
use Rattle.std.proofs.Common.{◌≡◌, ℕ, ◌+◌, ◌<◌, ◌≤◌, ◌||◌, not, Bool, true, false, List, [], ◌∷◌, ◌++◌, length, map, take, drop, get_or, refl, sym, ap, ◌∙◌, arith, true≢false}
use Rattle.std.specs.Bool.{OnTrue}
use Rattle.std.specs.List.{list_any}
use Rattle.std.specs.Str.{bytes_eq}
use Rattle.std.specs.Cmp.Lexicographic.{nat_list_eq_equiv}
use Rattle.std.proofs.Math.Seq.{take-length}
use Rattle.std.proofs.lemmas.List.{map_more, map-append, take-append-drop}
use Rattle.std.proofs.lemmas.List.Folds.{list_any-append}
use Rattle.cvc_names.specs.Names.{has_twice, is_among}

-- ## What the answer of a table says

pub when : (b : Bool) (P : Type 0) → b ≡ true → OnTrue b P → P
when true P e h = h
when false P e h = absurd (true≢false (sym e))

pub was_free : (free taken : Bool) → free ≡ not taken → free ≡ true → taken ≡ false
was_free free true is e = absurd (true≢false (sym e ∙ is))
was_free free false is e = refl

pub was_taken : (free taken : Bool) → free ≡ not taken → free ≡ false → taken ≡ true
was_taken free true is e = refl
was_taken free false is e = absurd (true≢false (sym is ∙ e))

-- ## Longer lists

exchanged : (a e e' h b : Bool) → e ≡ e' → ((a || (e || false)) || (h || b)) ≡ ((a || h) || (e' || b))
exchanged true e e' h b is = refl
exchanged false true e' true b is = refl
exchanged false false e' true b is = refl
exchanged false e e' false b is = ap (λ x. x || b) (or_false e ∙ is)
  where
    or_false : (x : Bool) → (x || false) ≡ x
    or_false true = refl
    or_false false = refl

pub has_twice-push : (xs : List (List ℕ)) (x : List ℕ) → has_twice (xs ++ x ∷ []) ≡ (has_twice xs || is_among xs x)
has_twice-push [] x = refl
has_twice-push (y ∷ xs) x =
    ap (λ v. v || has_twice (xs ++ x ∷ [])) (list_any-append (bytes_eq y) xs (x ∷ []))
    ∙ ap (λ v. (list_any (bytes_eq y) xs || (bytes_eq y x || false)) || v) (has_twice-push xs x)
    ∙ exchanged (list_any (bytes_eq y) xs) (bytes_eq y x) (bytes_eq x y) (has_twice xs) (is_among xs x) (nat_list_eq_equiv.symm y x)

still : (a h b k : Bool) → (h ≡ true → k ≡ true) → (a || h) ≡ true → ((a || b) || k) ≡ true
still true h b k more is = refl
still false h true k more is = refl
still false h false k more is = more is

has_twice-more : (xs ys : List (List ℕ)) → has_twice xs ≡ true → has_twice (xs ++ ys) ≡ true
has_twice-more [] ys is = cc
has_twice-more (x ∷ xs) ys is =
    ap (λ v. v || has_twice (xs ++ ys)) (list_any-append (bytes_eq x) xs ys)
    ∙ still (list_any (bytes_eq x) xs) (has_twice xs) (list_any (bytes_eq x) ys) (has_twice (xs ++ ys)) (has_twice-more xs ys) is

-- ## A walk over items that have names

-- these are the names so far, and none stands twice
pub record AreOnce (names seen : List (List ℕ)) : Type 0 where
  pub same : seen ≡ names
  pub once : has_twice names ≡ false

pub none_once : (seen : List (List ℕ)) → seen ≡ [] → AreOnce [] seen
none_once seen e = record { same = e; once = refl }

module _ {X : Type 0} (f : X → List ℕ) (xs : List X) (i : ℕ) where
  module _ (lt : i < length xs) (seen : List (List ℕ)) (h : AreOnce (map f (take i xs)) seen) (x d : X) (at : x ≡ get_or xs i d) (name : List ℕ) (same : name ≡ f x) (free : Bool) (is : free ≡ not (is_among seen name)) where
    tested : is_among seen name ≡ is_among (map f (take i xs)) (f x)
    tested = λ j. is_among (h.same j) (same j)

    more : map f (take (i + 1) xs) ≡ map f (take i xs) ++ f x ∷ []
    more = map_more f xs i d lt ∙ ap (λ y. map f (take i xs) ++ f y ∷ []) (sym at)

    twice : has_twice (map f (take (i + 1) xs)) ≡ is_among seen name
    twice = ap has_twice more ∙ has_twice-push (map f (take i xs)) (f x) ∙ ap (λ b. b || is_among (map f (take i xs)) (f x)) h.once ∙ sym tested

    pub one_more : free ≡ true → (next : List (List ℕ)) → OnTrue free (next ≡ seen ++ name ∷ []) → AreOnce (map f (take (i + 1) xs)) next
    one_more e next added = record {
      same = when free (next ≡ seen ++ name ∷ []) e added ∙ (λ j. h.same j ++ same j ∷ []) ∙ sym more;
      once = twice ∙ was_free free (is_among seen name) is e;
    }

    pub is_twice : free ≡ false → true ≡ has_twice (map f xs)
    is_twice e =
        let whole : map f xs ≡ map f (take (i + 1) xs) ++ map f (drop (i + 1) xs) = ap (map f) (sym (take-append-drop (i + 1) xs)) ∙ map-append f (take (i + 1) xs) (drop (i + 1) xs) in
        sym (ap has_twice whole ∙ has_twice-more (map f (take (i + 1) xs)) (map f (drop (i + 1) xs)) (twice ∙ was_taken free (is_among seen name) is e))

  pub all_once : (seen : List (List ℕ)) → i ≤ length xs → length xs ≤ i → AreOnce (map f (take i xs)) seen → false ≡ has_twice (map f xs)
  all_once seen le ge h =
      let e : i ≡ length xs = omega arith in
      sym (ap (λ ys. has_twice (map f ys)) (sym (take-length xs) ∙ ap (λ n. take n xs) (sym e)) ∙ h.once)
