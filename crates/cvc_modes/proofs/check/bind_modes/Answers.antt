use Rattle.std.proofs.Common.{[], ap, ◌+◌, ℕ, refl}
use Rattle.std.proofs.lemmas.List.Elements.{All-nil, All-same}
use Rattle.cvc_modes.specs.Checked.{IsBoundFrom}
use Rattle.cvc_modes.proofs.Binding.{all_bound, bound_more, none_bound, one_refused, so_far_more}
use Rattle.cvc_modes.proofs.check.bind_modes.Goals as goal

pub returns-in-Err-At-clause-circuits : goal.returns-in-Err-At-clause-circuits
returns-in-Err-At-clause-circuits c =
    rw c.loop-power.invariant.count
    (rw c.in-Err-At.fault-is (one_refused c.args.flat.now.list c.args.models.now c.args.powers.now c.loop-power.tasks.items c.loop-power.power-index c.power-item.result
    (rw c.as_slice-power-items.ensures at c.loop-power-test.true) (rw c.as_slice-power-items.ensures at c.power-item.is) c.loop-power.invariant.so_far _ (rw c.in-Err-At.field-0-is at c.in-Err-At.ensures.circuit)))

pub loop-power-preserved : goal.loop-power-preserved
loop-power-preserved c = record {
  count = ap (λ (n : ℕ). n + 1) c.loop-power.invariant.count;
  so_far = so_far_more c.args.flat.now.list c.args.models.now c.args.powers.now c.loop-power.tasks.items c.loop-power.power-index c.power-item.result
      (rw c.as_slice-power-items.ensures at c.loop-power-test.true) (rw c.as_slice-power-items.ensures at c.power-item.is) c.loop-power.invariant.so_far
      _ c.put_task.new.tasks.items c.in_ok-put_task-in-Ok.ensures c.in-Ok.ensures.circuit;
  bound = bound_more c.args.flat.now.list c.loop-power.tasks.items _ c.put_task.new.tasks.items c.in_ok-put_task-in-Ok.ensures c.loop-power.invariant.bound c.in-Ok.ensures.bound;
}

pub returns-clause-circuits : goal.returns-clause-circuits
returns-clause-circuits c =
    all_bound c.args.flat.now.list c.args.models.now c.args.powers.now c.loop-power.tasks.items c.loop-power.power-index (rw c.as_slice-power-items.ensures at c.loop-power-test.false) c.loop-power.invariant.so_far

pub loop-power-init : goal.loop-power-init
loop-power-init c = record {
  count = refl;
  so_far = none_bound c.args.flat.now.list c.args.models.now c.args.powers.now _ c.new-tasks.ensures.items;
  bound = All-same (λ t. IsBoundFrom c.args.flat.now.list t.circuit) _ [] c.new-tasks.ensures.items (All-nil (λ t. IsBoundFrom c.args.flat.now.list t.circuit));
}
