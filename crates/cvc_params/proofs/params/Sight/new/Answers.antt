use Rattle.std.proofs.Common.{◌≡◌, ℕ, List, [], ◌∷◌, ◌++◌, length, sym, ap, subst, ◌∙◌}
use Rattle.cvc_params.specs.declared.known.Known.{Known}
use Rattle.cvc_params.specs.declared.pair_index.PairIndex.{PairIndex}
use Rattle.cvc_params.specs.PairIndexes.{IsIndexOf, IsListed}
use Rattle.cvc_params.proofs.Answering.{knowing_new}
use Rattle.cvc_params.proofs.Sighted.{sight_new}
use Rattle.cvc_params.proofs.params.Sight.new.Goals as goal

pub returns-clause-sight : goal.returns-clause-sight
returns-clause-sight c =
    let none : c.in_ok-add.field-0 ≡ 0 = c.in_ok-add.ensures.number ∙ ap length c.in_ok-indexes.ensures.lists in
    let main = subst (λ (i : PairIndex). IsIndexOf i c.args.netlist.now.params) (sym c.in_ok-add.ensures.main) (subst (IsIndexOf c.in_ok-indexes.indexes.main) c.as_slice.ensures c.in_ok-indexes.ensures.main) in
    let list = subst (λ (k : ℕ). IsListed c.add.new.self k c.args.top.now.pairs) none (subst (IsListed c.add.new.self c.in_ok-add.field-0) c.as_slice-2.ensures c.in_ok-add.ensures.listed) in
    knowing_new _ c.new-2.result (sight_new _ main c.requires list c.new-3.ensures.items c.new-4.ensures.items) c.new-3.ensures.items c.new-5.ensures
    (c.in_ok-push.ensures.items ∙ ap (λ (ks : List Known). ks ++ c.new-2.result ∷ []) c.new-known.ensures.items) c.new-2.ensures
