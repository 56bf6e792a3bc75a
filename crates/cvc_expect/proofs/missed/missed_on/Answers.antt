use Rattle.std.proofs.Common.{◌≡◌, ◌+◌, ◌<◌, ◌≤◌, ◌++◌, List, length, drop, refl, sym, ap, ◌∙◌, append_assoc, arith, slice_index_or}
use Rattle.std.proofs.lemmas.Grind.{common_steps}
use Rattle.std.proofs.lemmas.List.{append-nil}
use Rattle.std.proofs.lemmas.List.Elements.{All-append, All-same}
use Rattle.cvc_base.specs.declared.ids.NetId.{NetId}
use Rattle.cvc_law.specs.declared.interval.Interval.{Interval}
use Rattle.cvc_law.specs.Family.{interval_at}
use Rattle.cvc_expect.specs.declared.missed.Missed.{Missed}
use Rattle.cvc_expect.specs.Misses.{missed_from, missed_row}
use Rattle.cvc_expect.specs.Text.{IsTellable, row_at}
use Rattle.cvc_expect.proofs.Missing.{one_more, none_left, row_tellable}
use Rattle.cvc_expect.proofs.missed.missed_on.Goals as goal

pub loop-place-preserved : goal.loop-place-preserved
loop-place-preserved c =
    let nets = c.args.nets.now in
    let rows = c.args.rows.now in
    let family = c.args.family.now in
    let list = c.loop-place.list in
    let i = c.loop-place.place in
    let row = c.index-rows-place.result in
    let net : NetId = slice_index_or nets i (record { 0 = 0 }) in
    let in_rows : i < length rows = omega (arith, c.loop-place-test.true) in
    let in_nets : i < length nets = omega (arith, in_rows, c.requires.each) in
    let net_here : slice_index_or nets i net ≡ net = grind (arith, common_steps) in
    let row_here : slice_index_or rows i row ≡ row = sym c.index-rows-place.is in
    let row_there : row_at rows i ≡ row = grind (arith, common_steps) in
    let found : c.interval-found.result ≡ interval_at family net.0 = grind (arith, common_steps) in
    let noted : c.note_row.new.list ≡ list ++ missed_row i row c.interval-found.result = c.in_ok-note_row.ensures in
    let later = missed_from family (i + 1) (drop (i + 1) nets) (drop (i + 1) rows) in
    record {
      so_far = ap (λ (l : List Missed). l ++ later) noted ∙ append_assoc list (missed_row i row c.interval-found.result) later
          ∙ ap (λ (x : Interval). list ++ (missed_row i row x ++ later)) found
          ∙ ap (λ (l : List Missed). list ++ l) (sym (one_more family nets rows i net row in_nets in_rows net_here row_here)) ∙ c.loop-place.invariant.so_far;
      tellable = All-same (IsTellable rows) c.note_row.new.list (list ++ missed_row i row c.interval-found.result) noted
          (All-append (IsTellable rows) list (missed_row i row c.interval-found.result) c.loop-place.invariant.tellable (row_tellable rows i in_rows row row_there c.interval-found.result));
      ending = refl;
    }

pub returns-clause-missed : goal.returns-clause-missed
returns-clause-missed c =
    let list = c.loop-place.list in
    let done : length c.args.nets.now ≤ c.loop-place.place = omega (arith, c.loop-place-test.false, c.requires.each) in
    sym (append-nil list) ∙ ap (λ (l : List Missed). list ++ l) (sym (none_left c.args.family.now c.args.nets.now c.args.rows.now c.loop-place.place done)) ∙ c.loop-place.invariant.so_far
