-- A sink that matches: what it tells after a write, and what is told apart by the mark.
use Rattle.std.proofs.Common.{◌≡◌, ℕ, suc, ◌+◌, ◌-◌, ◌<◌, Option, Some, None, List, [], ◌∷◌, ◌++◌, length, take, drop, length-drop, false, arith, refl, sym, ap, ◌∙◌, subst}
use Rattle.std.proofs.Math.Seq.{take-add}
use Rattle.std.proofs.lemmas.List.{append-nil, take_all}
use Rattle.std.specs.Prelude.{is_some, IfNone, IfSome, IsSomeAnd, Result, Ok, Err}
use Rattle.std.specs.Option.{option_to_list}
use Rattle.std.specs.Io.KnownBytes.{append_known}
use Rattle.cvc_io.specs.Causes.{Rose, HasCause}
use Rattle.cvc_io.specs.Bytes.{WritesText}
use Rattle.cvc_chain.specs.Differing.{DiffersAt}
use Rattle.cvc_chain.specs.Matching.{told}

-- ---- what is told apart by the mark
pub apart : (xs ys s t : List ℕ) → told xs s ≡ told ys t → (xs ≡ ys) × (s ≡ t)
apart [] [] s t e = (refl, cc)
apart [] (y ∷ ys) s t e = absurd (let no : 0 ≡ suc y = cc in omega arith)
apart (x ∷ xs) [] s t e = absurd (let no : suc x ≡ 0 = cc in omega arith)
apart (x ∷ xs) (y ∷ ys) s t e =
    let first : suc x ≡ suc y = cc in let same : x ≡ y = omega arith in let rest : told xs s ≡ told ys t = cc in
    let more = apart xs ys s t rest in
    ((λ i. same i ∷ more.0 i), more.1)

-- more was told: more was taken
pub told_more : (wanted taken more : List ℕ) → told wanted taken ++ more ≡ told wanted (taken ++ more)
told_more [] taken more = refl
told_more (x ∷ wanted) taken more = ap (λ (l : List ℕ). suc x ∷ l) (told_more wanted taken more)

none_of : (o : Option ℕ) → is_some o ≡ false → o ≡ None
none_of None h = refl
none_of (Some x) h = cc

with_none : (xs : List ℕ) (o : Option ℕ) → o ≡ None → xs ++ option_to_list o ≡ xs
with_none xs o none = ap (λ (p : Option ℕ). xs ++ option_to_list p) none ∙ append-nil xs

-- what matched is told behind what was told
pub told_match : (wanted piece : List ℕ) (same n : ℕ) (other : Option ℕ) → is_some other ≡ false → take n (take (length wanted - same) (drop same wanted)) ≡ take n piece
    → Some (told wanted (take (same + n) wanted ++ option_to_list other)) ≡ Some (told wanted (take same wanted ++ option_to_list other) ++ take n piece)
told_match wanted piece same n other off is =
    let none : other ≡ None = none_of other off in
    let all : take (length wanted - same) (drop same wanted) ≡ drop same wanted = (let long : length (drop same wanted) ≡ length wanted - same = length-drop same wanted in take_all (length wanted - same) (drop same wanted) (omega arith)) in
    let here : take n (drop same wanted) ≡ take n piece = ap (take n) (sym all) ∙ is in
    let more : take (same + n) wanted ≡ take same wanted ++ take n piece = take-add same n wanted ∙ ap (λ (l : List ℕ). take same wanted ++ l) here in
    let old : told wanted (take same wanted ++ option_to_list other) ≡ told wanted (take same wanted) = ap (told wanted) (with_none (take same wanted) other none) in
    let new : told wanted (take (same + n) wanted ++ option_to_list other) ≡ told wanted (take same wanted ++ take n piece) = ap (told wanted) (with_none (take (same + n) wanted) other none ∙ more) in
    ap (λ (l : List ℕ). Some l) (new ∙ (sym (told_more wanted (take same wanted) (take n piece)) ∙ ap (λ (l : List ℕ). l ++ take n piece) (sym old)))

-- ---- after all was sent
module _ (wanted text later taken : List ℕ) (found : Option ℕ) (none : IfNone found (taken ≡ later)) (some : IfSome found (DiffersAt later taken))
    (before faults : ℕ) (zero_before : before ≡ 0) (failed : 0 < faults → (rest : List ℕ) → IsSomeAnd found (DiffersAt later (taken ++ rest))) where
  matched : (part : List ℕ) → Some (told later taken) ≡ append_known (Some (told wanted [])) part → (later ≡ wanted) × (taken ≡ part)
  matched part e = let same : told later taken ≡ told wanted [] ++ part = cc in apart later wanted taken part (same ∙ told_more wanted [] part)

  whole_none : (o : Option ℕ) → IfNone o (taken ≡ later) → later ≡ wanted → taken ≡ text → IfNone o (wanted ≡ text)
  whole_none None h a b = sym a ∙ (sym h ∙ b)
  whole_none (Some n) h a b = tt

  whole_some : (o : Option ℕ) → IfSome o (DiffersAt later taken) → later ≡ wanted → taken ≡ text → IfSome o (DiffersAt wanted text)
  whole_some None h a b = tt
  whole_some (Some n) h a b = subst (λ (t : List ℕ). DiffersAt wanted t n) b (subst (λ (w : List ℕ). DiffersAt w taken n) a h)

  part_none : (o : Option ℕ) (rest : List ℕ) → IsSomeAnd o (DiffersAt later (taken ++ rest)) → IfNone o (wanted ≡ text)
  part_none None rest h = absurd h
  part_none (Some n) rest h = tt

  part_some : (o : Option ℕ) (rest : List ℕ) → IsSomeAnd o (DiffersAt later (taken ++ rest)) → later ≡ wanted → taken ++ rest ≡ text → IfSome o (DiffersAt wanted text)
  part_some None rest h a b = absurd h
  part_some (Some n) rest h a b = subst (λ (t : List ℕ). DiffersAt wanted t n) b (subst (λ (w : List ℕ). DiffersAt w (taken ++ rest) n) a h)

  -- the first difference of the text, if there is one
  pub sent : {E : Type 0} → (result : Result (Unit {0}) E) → WritesText (Some (told wanted [])) (Some (told later taken)) result text → HasCause before faults result → IfNone found (wanted ≡ text) × IfSome found (DiffersAt wanted text)
  sent (Ok u) written cause = let both = matched text written in (whole_none found none both.0 both.1, whole_some found some both.0 both.1)
  sent (Err e) written cause =
      let both = matched written.part written.written in
      let rose : Rose before faults = cause.failed in
      let differs = failed (omega (arith, rose)) written.rest in
      (part_none found written.rest differs, part_some found written.rest differs both.0 (ap (λ (l : List ℕ). l ++ written.rest) both.1 ∙ sym written.whole))
