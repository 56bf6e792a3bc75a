-- Texts that lie one behind another.
use Rattle.std.proofs.Common.{◌≡◌, ℕ, zero, suc, ◌+◌, ◌-◌, ◌<◌, ◌≤◌, List, [], ◌∷◌, ◌++◌, length, map, take, drop, None, refl, sym, ap, subst, ◌∙◌, arith, length-append, length-drop}
use Rattle.std.specs.List.{slice_range}
use Rattle.std.proofs.Math.Seq.{drop-append_seam}
use Rattle.std.proofs.lemmas.List.{drop-append-le, map-append, take-append-le, take_all}
use Rattle.cvc_names.specs.Chains.{text_hash}
use Rattle.cvc_names.specs.Names.{AreApart, AreEnds, IsTable, end_at, name_at, place_of, start_at, texts_in}
use Rattle.cvc_names.proofs.Tables.{apart_more}

pub count_texts : (bytes : List ℕ) (from : ℕ) (ends : List ℕ) → length (texts_in bytes from ends) ≡ length ends
unfolding texts_in
count_texts bytes from [] = refl
count_texts bytes from (end ∷ ends) = ap suc (count_texts bytes end ends)

pub text_at : (bytes : List ℕ) (from : ℕ) (ends : List ℕ) (k : ℕ) → k < length ends → name_at (texts_in bytes from ends) k ≡ slice_range bytes (start_at from ends k) (end_at ends k)
unfolding texts_in
text_at bytes from [] k below = absurd (omega arith)
text_at bytes from (end ∷ ends) zero below = refl
text_at bytes from (end ∷ ends) (suc k) below = text_at bytes end ends k (omega arith)

-- ## Ends

ends_behind : (from end : ℕ) (ends : List ℕ) (count : ℕ) → AreEnds from (end ∷ ends) count → AreEnds end ends count
ends_behind from end ends count h = record {
  ascend = λ k below. h.ascend (suc k) (omega arith);
  last = h.last;
}

from_inside : (from : ℕ) (ends : List ℕ) (count : ℕ) → AreEnds from ends count → from ≤ count
from_inside from [] count h = omega (arith, h.last)
from_inside from (end ∷ ends) count h = omega (arith, h.ascend 0 (omega arith), from_inside end ends count (ends_behind from end ends count h))

pub end_inside : (from : ℕ) (ends : List ℕ) (count k : ℕ) → AreEnds from ends count → k < length ends → end_at ends k ≤ count
end_inside from [] count k h below = absurd (omega arith)
end_inside from (end ∷ ends) count zero h below = from_inside end ends count (ends_behind from end ends count h)
end_inside from (end ∷ ends) count (suc k) h below = end_inside end ends count k (ends_behind from end ends count h) (omega arith)

ends_in_front : (from end : ℕ) (ends : List ℕ) (count : ℕ) → from ≤ end → AreEnds end ends count → AreEnds from (end ∷ ends) count
ends_in_front from end ends count ascend h = record { ascend = each; last = h.last }
  where
    each : (k : ℕ) → k < suc (length ends) → start_at from (end ∷ ends) k ≤ end_at (end ∷ ends) k
    each zero below = ascend
    each (suc k) below = h.ascend k (omega arith)

pub ascends : (from : ℕ) (ends : List ℕ) (count k : ℕ) → AreEnds from ends count → k < length ends → start_at from ends k ≤ end_at ends k
ascends from ends count k h below = h.ascend k below

-- one text more
ends_more : (from : ℕ) (ends : List ℕ) (count last : ℕ) → count ≤ last → AreEnds from ends count → AreEnds from (ends ++ last ∷ []) last
ends_more from [] count last more h = ends_in_front from last [] last (omega (arith, h.last)) (record { ascend = λ k below. absurd (omega arith); last = refl })
ends_more from (end ∷ ends) count last more h = ends_in_front from end (ends ++ last ∷ []) last (h.ascend 0 (omega arith)) (ends_more end ends count last more (ends_behind from end ends count h))

range_kept : (bytes more : List ℕ) (from end : ℕ) → from ≤ end → end ≤ length bytes → slice_range (bytes ++ more) from end ≡ slice_range bytes from end
range_kept bytes more from end ascend inside =
    ap (take (end - from)) (drop-append-le from bytes more (omega arith))
    ∙ take-append-le (end - from) (drop from bytes) more (omega (arith, length-drop from bytes))

texts_more : (bytes more : List ℕ) (from : ℕ) (ends : List ℕ) (last : ℕ) → last ≡ length bytes + length more → AreEnds from ends (length bytes)
    → texts_in (bytes ++ more) from (ends ++ last ∷ []) ≡ texts_in bytes from ends ++ more ∷ []
unfolding texts_in
texts_more bytes more from [] last is h =
    let at : from ≡ length bytes = h.last in
    let rest : drop from (bytes ++ more) ≡ more = ap (λ (n : ℕ). drop n (bytes ++ more)) at ∙ drop-append_seam bytes more in
    ap (λ (t : List ℕ). t ∷ []) (ap (take (last - from)) rest ∙ take_all (last - from) more (omega arith))
texts_more bytes more from (end ∷ ends) last is h = λ i.
    range_kept bytes more from end (h.ascend 0 (omega arith)) (from_inside end ends (length bytes) (ends_behind from end ends (length bytes) h)) i
    ∷ texts_more bytes more end ends last is (ends_behind from end ends (length bytes) h) i

-- ## A table

pub table_none : (bytes ends hashes : List ℕ) → bytes ≡ [] → ends ≡ [] → hashes ≡ [] → IsTable bytes ends hashes
unfolding texts_in
table_none bytes ends hashes no_bytes no_ends no_hashes =
    let empty : IsTable [] [] [] = record {
      ascending = record { ascend = λ k below. absurd (omega arith); last = refl };
      apart = λ i j below also same. absurd (omega arith);
      hashed = refl;
    } in
    subst (λ (l : List ℕ). IsTable l ends hashes) (sym no_bytes)
    (subst (λ (l : List ℕ). IsTable [] l hashes) (sym no_ends)
    (subst (IsTable [] []) (sym no_hashes) empty))

-- one name more
module _ (bytes ends hashes : List ℕ) (h : IsTable bytes ends hashes) (names : List (List ℕ)) (are : texts_in bytes 0 ends ≡ names) (name : List ℕ) (new : place_of names name ≡ None) (last : ℕ) (is : last ≡ length bytes + length name) (bytes' ends' : List ℕ) (more : bytes' ≡ bytes ++ name) (also : ends' ≡ ends ++ last ∷ []) where
  pub names_pushed : texts_in bytes' 0 ends' ≡ names ++ name ∷ []
  names_pushed = (λ i. texts_in (more i) 0 (also i)) ∙ texts_more bytes name 0 ends last is h.ascending ∙ ap (λ ns. ns ++ name ∷ []) are

  pub table_pushed : (hashes' : List ℕ) (hash : ℕ) → hash ≡ text_hash name → hashes' ≡ hashes ++ hash ∷ [] → IsTable bytes' ends' hashes'
  table_pushed hashes' hash hashed too = record {
    ascending = subst (λ (l : List ℕ). AreEnds 0 l (length bytes')) (sym also)
        (subst (AreEnds 0 (ends ++ last ∷ [])) (is ∙ sym (length-append bytes name) ∙ ap length (sym more)) (ends_more 0 ends (length bytes) last (omega arith) h.ascending));
    apart = subst AreApart (sym names_pushed) (apart_more names name new (subst AreApart are h.apart));
    hashed = too ∙ (λ i. h.hashed i ++ hashed i ∷ []) ∙ ap (λ ns. map text_hash ns ++ text_hash name ∷ []) are ∙ sym (ap (map text_hash) names_pushed ∙ map-append text_hash names (name ∷ []));
  }
