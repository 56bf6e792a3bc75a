-- Texts stripped from their ends.
use Rattle.std.proofs.Common.{◌≡◌, ℕ, ◌-◌, ◌==◌, Bool, true, false, List, [], ◌∷◌, ◌++◌, length, take, drop, refl, sym, ap, ◌∙◌, append_assoc, length-append, arith}
use Rattle.std.specs.Prelude.{codes}
use Rattle.std.specs.Str.{bytes_eq}
use Rattle.std.specs.Cmp.Lexicographic.{bytes_decides}
use Rattle.std.proofs.Math.Dec.{eqb-suc-zero}
use Rattle.std.proofs.Math.Seq.{drop-append_seam}
use Rattle.std.proofs.lemmas.Bool.{false≢true}
use Rattle.std.proofs.lemmas.List.{append-nil, append_cancel_right, take-append-drop}
use Rattle.cvc_cdl.specs.Instances.{printed}
use Rattle.cvc_plan.proofs.Among.{bool_same}

-- a text that ends so is the text that its front is
pub strip_yes : (rest front s p : List ℕ) → bytes_eq (drop (length rest - length s) rest) s ≡ true → front ≡ take (length rest - length s) rest → bytes_eq rest (p ++ s) ≡ bytes_eq front p
strip_yes rest front s p ends is =
    let whole : rest ≡ front ++ s = sym (take-append-drop (length rest - length s) rest) ∙ ap (λ (x : List ℕ). x ++ drop (length rest - length s) rest) (sym is) ∙ ap (λ (x : List ℕ). front ++ x) ((bytes_decides (drop (length rest - length s) rest) s).0 ends) in
    bool_same (bytes_eq rest (p ++ s)) (bytes_eq front p)
    (λ e. (bytes_decides front p).1 (append_cancel_right front p s (sym whole ∙ (bytes_decides rest (p ++ s)).0 e)))
    (λ e. (bytes_decides rest (p ++ s)).1 (whole ∙ ap (λ (x : List ℕ). x ++ s) ((bytes_decides front p).0 e)))

pub strip_no : (rest s p : List ℕ) → bytes_eq (drop (length rest - length s) rest) s ≡ false → bytes_eq rest (p ++ s) ≡ false
strip_no rest s p ends = by (bytes_eq rest (p ++ s)) refl
  where
    by : (b : Bool) → bytes_eq rest (p ++ s) ≡ b → b ≡ false
    by false e = refl
    by true e =
        let whole : rest ≡ p ++ s = (bytes_decides rest (p ++ s)).0 e in
        let front : length rest - length s ≡ length p = omega (arith, ap length whole, length-append p s) in
        absurd (false≢true (sym ends ∙ (bytes_decides (drop (length rest - length s) rest) s).1 (ap (λ k. drop k rest) front ∙ ap (drop (length p)) whole ∙ drop-append_seam p s)))

pub printed_split : (names : List (List ℕ)) (x : List ℕ) → printed names x ≡ printed names [] ++ x
printed_split [] x = refl
printed_split (own ∷ up) x =
    let s : List ℕ = own ++ codes "/" in
    printed_split up (s ++ x)
    ∙ sym (append_assoc (printed up []) s x)
    ∙ ap (λ (y : List ℕ). y ++ x) (ap (λ (z : List ℕ). printed up [] ++ z) (sym (append-nil s)) ∙ sym (printed_split up (s ++ [])))

pub empty_is : (xs : List ℕ) → (length xs == 0) ≡ bytes_eq xs []
empty_is [] = refl
empty_is (x ∷ xs) = eqb-suc-zero (length xs)

-- what stands in front of a name, an instance further down
pub front_more : (own : List ℕ) (up : List (List ℕ)) → printed (own ∷ up) [] ≡ (printed up [] ++ own) ++ codes "/"
front_more own up =
    let s : List ℕ = own ++ codes "/" in
    printed_split up (s ++ []) ∙ ap (λ (y : List ℕ). printed up [] ++ y) (append-nil s) ∙ sym (append_assoc (printed up []) own (codes "/"))
