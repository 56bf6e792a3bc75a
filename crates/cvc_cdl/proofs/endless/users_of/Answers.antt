use Rattle.std.proofs.Common.{◌≡◌, length, ap, ◌∙◌, List, Vec, ℕ}
use Rattle.std.specs.declared.alloc.Global.{Global}
use Rattle.std.specs.Vec.{with_items}
use Rattle.std.proofs.lemmas.List.{with_items_is}
use Rattle.cvc_cdl.specs.Chains.{all_numbers, numbers_of, used_at}
use Rattle.cvc_cdl.specs.Peeling.{times}
use Rattle.cvc_cdl.proofs.Peels.{used_below, users_more, are_users}
use Rattle.cvc_cdl.proofs.endless.users_of.Goals as goal

pub add_user-requires : goal.add_user-requires
add_user-requires c = used_below c.args.uses.now c.loop-user.user c.index-uses-user.result c.deref.result.now c.deref_mut.result.now c.loop-user-test.true c.requires (c.deref.ensures.value ∙ ap numbers_of c.index-uses-user.is) (ap length c.deref_mut.ensures.value ∙ c.loop-user.invariant.sized)

pub loop-user-preserved : goal.loop-user-preserved
loop-user-preserved c =
    let sized : length c.add_user.new.users ≡ c.loop-user.users.len = c.add_user.auto.users ∙ c.deref_mut.ensures.len in
    let put : (with_items c.loop-user.users c.add_user.new.users).items ≡ c.add_user.new.users = with_items_is c.loop-user.users c.add_user.new.users sized in
    record {
      sized = ap length put ∙ (c.add_user.auto.users ∙ (ap length c.deref_mut.ensures.value ∙ c.loop-user.invariant.sized));
      each = users_more c.args.uses.now c.deref_mut.result.now c.add_user.new.users (with_items c.loop-user.users c.add_user.new.users).items c.loop-user.user c.index-uses-user.result c.deref.result.now c.loop-user-test.true put
          (ap length c.deref_mut.ensures.value ∙ c.loop-user.invariant.sized) (c.deref.ensures.value ∙ ap numbers_of c.index-uses-user.is) c.in_ok-add_user.ensures
          (λ i j inside. ap (λ (xs : List (Vec ℕ Global)). times i (used_at (all_numbers xs) j)) c.deref_mut.ensures.value ∙ c.loop-user.invariant.each i j inside);
    }

pub returns : goal.returns
returns c = are_users c.args.uses.now c.loop-user.users.items c.loop-user.user c.loop-user-test.false c.loop-user.invariant.sized c.loop-user.invariant.each
