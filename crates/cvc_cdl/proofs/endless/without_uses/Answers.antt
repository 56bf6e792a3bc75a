use Rattle.std.proofs.Common.{◌+◌, arith, ap, sym, subst, take, ◌∙◌, List, ℕ}
use Rattle.cvc_cdl.specs.Peeling.{AreListed}
use Rattle.cvc_cdl.proofs.Peels.{listed_next, listed_skip}
use Rattle.cvc_cdl.proofs.endless.without_uses.Goals as goal
use Rattle.cvc_cdl.proofs.endless.without_uses.Goals.{then-count-eq0+in_ok-push, else-count-eq0}

pub loop-cell-preserved : goal.loop-cell-preserved
loop-cell-preserved c = elim c.if-count-eq0.branch [
  | then-count-eq0+in_ok-push w ↦
      subst (λ (xs : List ℕ). AreListed (take (c.loop-cell.cell + 1) c.args.left.now) xs) (sym (ap (λ v. v.items) w.finite-is ∙ w.in_ok-push.ensures.items))
      (listed_next c.args.left.now c.loop-cell.finite.items c.loop-cell.cell c.loop-cell-test.true c.loop-cell.invariant w.if-count-eq0.true)
  | else-count-eq0 w ↦
      subst (λ (xs : List ℕ). AreListed (take (c.loop-cell.cell + 1) c.args.left.now) xs) (sym (ap (λ v. v.items) w.finite-is))
      (listed_skip c.args.left.now c.loop-cell.finite.items c.loop-cell.cell c.loop-cell-test.true c.loop-cell.invariant (omega (arith, w.if-count-eq0.false)))
]
