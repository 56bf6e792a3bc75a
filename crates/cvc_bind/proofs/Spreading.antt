-- Rows put from the last on: what each net is declared at by those that are put.
use Rattle.std.proofs.Common.{◌≡◌, ◌≢◌, ℕ, ◌+◌, ◌<◌, Bool, true, false, List, [], ◌∷◌, length, map, drop, refl, sym, ap, subst, ◌∙◌, arith, if◌then◌else◌}
use Rattle.std.specs.Prelude.{All, Option, Some, None, slice_index_or, slice_set, ◌==◌, nat_eq, ◌≤ℤ◌}
use Rattle.std.specs.List.{range_with_len}
use Rattle.std.proofs.lemmas.Grind.{common_steps}
use Rattle.std.proofs.lemmas.List.{drop_more, drop_all, same_lists, get_or-set_same, get_or-set_other}
use Rattle.std.proofs.lemmas.List.Elements.{All-head, All-tail}
use Rattle.std.proofs.lemmas.List.FromFn.{get_or-map-range_with_len, length-map-range_with_len}
use Rattle.cvc_base.specs.declared.ids.NetId.{NetId}
use Rattle.cvc_law.specs.declared.interval.Fixed.{Fixed}
use Rattle.cvc_power.specs.declared.row.PowerRow.{PowerRow}
use Rattle.cvc_power.specs.Power.{IsOrdered}
use Rattle.cvc_bind.specs.DeclaredNets.{span_of, declared, AreOrdered}

-- each net that is put has what the rows declare it at
pub record AreDeclared (nets : List NetId) (rows : List PowerRow) (fixed : List (Option Fixed)) : Type 0 where
  pub right : (n : ℕ) → n < length fixed → slice_index_or fixed n None ≡ declared nets rows n

pub none_put : (nets : List NetId) (rows : List PowerRow) (fixed : List (Option Fixed)) → length nets ≡ length rows → ((n : ℕ) → n < length fixed → slice_index_or fixed n None ≡ None) → AreDeclared (drop (length rows) nets) (drop (length rows) rows) fixed
unfolding declared
none_put nets rows fixed same none = record { right = λ n h. none n h ∙ sym (ap (λ (ns : List NetId). declared ns (drop (length rows) rows) n) (drop_all (length rows) nets (omega arith))) }

pub one_more : (nets : List NetId) (rows : List PowerRow) (i : ℕ) (net : NetId) (row : PowerRow) (fixed : List (Option Fixed)) → i < length nets → i < length rows → slice_index_or nets i net ≡ net → slice_index_or rows i row ≡ row → net.0 < length fixed
    → AreDeclared (drop (i + 1) nets) (drop (i + 1) rows) fixed → AreDeclared (drop i nets) (drop i rows) (slice_set fixed net.0 (Some (span_of row)))
unfolding declared
one_more nets rows i net row fixed in_nets in_rows net_here row_here inside later =
    rw (drop_more nets i net in_nets, drop_more rows i row in_rows, net_here, row_here) record { right = λ n h. by n (nat_eq net.0 n) refl h }
  where
    by : (n : ℕ) (b : Bool) → nat_eq net.0 n ≡ b → n < length (slice_set fixed net.0 (Some (span_of row)))
        → slice_index_or (slice_set fixed net.0 (Some (span_of row))) n None ≡ (if net.0 == n then Some (span_of row) else declared (drop (i + 1) nets) (drop (i + 1) rows) n)
    by n true e h =
        let same : n ≡ net.0 = grind (arith, common_steps) in
        rw same (get_or-set_same fixed net.0 (Some (span_of row)) None inside) ∙ sym (ap (λ b. if b then Some (span_of row) else declared (drop (i + 1) nets) (drop (i + 1) rows) n) e)
    by n false e h =
        let other : n ≢ net.0 = grind (arith, common_steps) in
        let old : n < length fixed = grind (arith, common_steps) in
        get_or-set_other fixed net.0 n (Some (span_of row)) None other ∙ later.right n old ∙ sym (ap (λ b. if b then Some (span_of row) else declared (drop (i + 1) nets) (drop (i + 1) rows) n) e)

pub whole : (nets : List NetId) (rows : List PowerRow) (fixed : List (Option Fixed)) → AreDeclared nets rows fixed → fixed ≡ map (declared nets rows) (range_with_len 0 (length fixed))
whole nets rows fixed are =
    same_lists fixed (map (declared nets rows) (range_with_len 0 (length fixed))) (sym (length-map-range_with_len (declared nets rows) 0 (length fixed)))
    (λ n d inside. default n d inside ∙ are.right n inside ∙ sym (get_or-map-range_with_len (declared nets rows) 0 (length fixed) n n d inside (grind arith)))
  where
    default : (n : ℕ) (d : Option Fixed) → n < length fixed → slice_index_or fixed n d ≡ slice_index_or fixed n None
    default n d inside = grind (arith, common_steps)

-- rows in order declare nets in order
spans_ordered : (nets : List NetId) (rows : List PowerRow) (n : ℕ) (w : Fixed) → All IsOrdered rows → declared nets rows n ≡ Some w → w.low ≤ℤ w.high
unfolding declared
spans_ordered [] rows n w spans e = cc
spans_ordered (net ∷ nets) [] n w spans e = cc
spans_ordered (net ∷ nets) (row ∷ rows) n w spans e = by (net.0 == n) (spans_ordered nets rows n w (All-tail IsOrdered row rows spans)) e
  where
    by : (b : Bool) → (declared nets rows n ≡ Some w → w.low ≤ℤ w.high) → (if b then Some (span_of row) else declared nets rows n) ≡ Some w → w.low ≤ℤ w.high
    by true later h = let same : span_of row ≡ w = cc in subst (λ (v : Fixed). v.low ≤ℤ v.high) same (All-head IsOrdered row rows spans)
    by false later h = later h

pub ordered_nets : (nets : List NetId) (rows : List PowerRow) (fixed : List (Option Fixed)) → All IsOrdered rows → AreDeclared nets rows fixed → AreOrdered fixed
ordered_nets nets rows fixed spans are n w e = spans_ordered nets rows n w spans (sym (are.right n inside) ∙ e)
  where
    inside : n < length fixed
    inside = grind (arith, common_steps)
