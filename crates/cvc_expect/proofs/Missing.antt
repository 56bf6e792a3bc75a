-- What rows miss, one row more at a time, and that it can be told.
use Rattle.std.proofs.Common.{◌≡◌, ℕ, ◌+◌, ◌<◌, ◌≤◌, suc, Bool, true, false, List, [], ◌∷◌, ◌++◌, length, drop, refl, sym, ap, subst, ◌∙◌, if◌then◌else◌}
use Rattle.std.specs.Prelude.{All, ℤ, Option, Some, None, slice_index_or}
use Rattle.std.proofs.lemmas.List.{drop_more, drop_all}
use Rattle.std.proofs.lemmas.List.Elements.{All-append, All-cons, All-nil}
use Rattle.cvc_base.specs.declared.ids.NetId.{NetId}
use Rattle.cvc_base.specs.declared.ids.Side.{Side}
use Rattle.cvc_base.specs.declared.ids.Side.TheVariants.{Low, High}
use Rattle.cvc_law.specs.declared.interval.Interval.{Interval}
use Rattle.cvc_law.specs.Family.{interval_at}
use Rattle.cvc_expect.specs.declared.row.Bound.{Bound}
use Rattle.cvc_expect.specs.declared.row.Bound.TheVariants.{Any, Unknown, At}
use Rattle.cvc_expect.specs.declared.row.ExpectRow.{ExpectRow}
use Rattle.cvc_expect.specs.Misses.{misses, missed_bound, missed_from, missed_row}
use Rattle.cvc_expect.specs.Text.{IsSaid, IsTellable, expected_on, row_at}

-- ## One more row

module _ (family : List Interval) (nets : List NetId) (rows : List ExpectRow) (k : ℕ) where
  pub one_more : (net : NetId) (row : ExpectRow) → k < length nets → k < length rows → slice_index_or nets k net ≡ net → slice_index_or rows k row ≡ row
      → missed_from family k (drop k nets) (drop k rows) ≡ missed_row k row (interval_at family net.0) ++ missed_from family (k + 1) (drop (k + 1) nets) (drop (k + 1) rows)
  unfolding missed_from
  one_more net row in_nets in_rows net_here row_here = rw (drop_more nets k net in_nets, drop_more rows k row in_rows, net_here, row_here) refl

  pub none_left : length nets ≤ k → missed_from family k (drop k nets) (drop k rows) ≡ []
  unfolding missed_from
  none_left done = ap (λ (l : List NetId). missed_from family k l (drop k rows)) (drop_all k nets done)

-- ## What can be told

said : (bound : Bound) (found : Option ℤ) → misses bound found ≡ true → IsSaid bound
said Any found e = cc
said Unknown found e = tt
said (At v) found e = tt

module _ (rows : List ExpectRow) (k : ℕ) (inside : k < length rows) where
  bound_tellable : (side : Side) (bound : Bound) (found : Option ℤ) → expected_on side (row_at rows k) ≡ bound → All (IsTellable rows) (missed_bound k side bound found)
  bound_tellable side bound found is = by (misses bound found) refl
    where
      by : (b : Bool) → misses bound found ≡ b → All (IsTellable rows) (if b then record { row = k; side = side; found = found } ∷ [] else [])
      by true e = All-cons (IsTellable rows) _ [] (record { inside = inside; said = subst IsSaid (sym is) (said bound found e) }) (All-nil (IsTellable rows))
      by false e = All-nil (IsTellable rows)

  pub row_tellable : (row : ExpectRow) → row_at rows k ≡ row → (i : Interval) → All (IsTellable rows) (missed_row k row i)
  row_tellable row is i = All-append (IsTellable rows) (missed_bound k Low row.low i.low) (missed_bound k High row.high i.high)
      (bound_tellable Low row.low i.low (ap (λ (r : ExpectRow). r.low) is)) (bound_tellable High row.high i.high (ap (λ (r : ExpectRow). r.high) is))
