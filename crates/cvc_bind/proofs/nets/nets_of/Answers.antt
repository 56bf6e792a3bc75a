use Rattle.std.proofs.Common.{◌≡◌, ℕ, ◌+◌, ◌<◌, ◌++◌, List, [], ◌∷◌, length, map, drop, sym, ap, subst, ◌∙◌, arith}
use Rattle.std.specs.Prelude.{All, Bool}
use Rattle.std.proofs.lemmas.Grind.{common_steps}
use Rattle.std.proofs.lemmas.List.{take_at}
use Rattle.std.proofs.lemmas.List.Elements.{All-push}
use Rattle.cvc_base.specs.declared.ids.NetId.{NetId}
use Rattle.cvc_flat.specs.FindNet.{find_net}
use Rattle.cvc_bind.specs.Nets.{AreMarked, next_net, nets_behind}
use Rattle.cvc_bind.proofs.Naming.{refused, taken, ended}
use Rattle.cvc_bind.proofs.nets.nets_of.Goals as goal

pub returns-in-Err-clause-nets : goal.returns-in-Err-clause-nets
returns-in-Err-clause-nets g c =
    let f = c.args.flat.now.list in
    let nets = c.loop-row.nets.items in
    let e = c.in-Err.ensures.net ∙ ap (λ (l : List NetId). next_net l (find_net f c.net_name.result.now)) c.deref.ensures.value ∙ ap (λ (x : List ℕ). next_net nets (find_net f x)) c.net_name.ensures in
    sym c.loop-row.invariant.so_far ∙ refused g.R.Named.net_name f c.args.rows.now c.loop-row.row-index c.row-item.result nets c.loop-row-test.true c.row-item.is c.in-Err.bad e

pub returns-in-Err-clause-place : goal.returns-in-Err-clause-place
returns-in-Err-clause-place g c = omega (arith, c.in-Err.ensures.place, ap length c.deref.ensures.value, c.loop-row.invariant.each)

pub loop-row-preserved : goal.loop-row-preserved
loop-row-preserved g c =
    let f = c.args.flat.now.list in
    let nets = c.loop-row.nets.items in
    let net = c.in-Ok.net in
    let new = c.next_net.new.marks in
    let pushed = c.in_ok-push-in-Ok.ensures.items in
    let e = c.in-Ok.ensures.net ∙ ap (λ (l : List NetId). next_net l (find_net f c.net_name.result.now)) c.deref.ensures.value ∙ ap (λ (x : List ℕ). next_net nets (find_net f x)) c.net_name.ensures in
    let long : length new ≡ c.loop-row.marks.len = omega (arith, c.next_net.auto.marks, ap length c.deref_mut.ensures.value, c.loop-row.marks.ok.0) in
    let whole = take_at new (drop (length new) c.loop-row.marks.items) c.loop-row.marks.len long in
    record {
      sized = omega (arith, ap length whole, c.next_net.auto.marks, ap length c.deref_mut.ensures.value, c.loop-row.invariant.sized);
      marked = subst (λ (m : List Bool). AreMarked m c.push.new.self.items) (sym whole) (subst (AreMarked new) (ap (λ (l : List NetId). l ++ net ∷ []) c.deref.ensures.value ∙ sym pushed) c.in-Ok.ensures.marked);
      so_far = ap (λ (l : List NetId). nets_behind f l (map g.R.Named.net_name (drop (c.loop-row.row-index + 1) c.args.rows.now))) pushed
          ∙ taken g.R.Named.net_name f c.args.rows.now c.loop-row.row-index c.row-item.result nets c.loop-row-test.true c.row-item.is net e ∙ c.loop-row.invariant.so_far;
      each = grind (arith, common_steps);
      inside = subst (All (λ (n : NetId). n.0 < length f.nets)) (sym pushed) (All-push (λ (n : NetId). n.0 < length f.nets) nets net c.loop-row.invariant.inside c.in-Ok.ensures.inside);
    }

pub returns-clause-nets : goal.returns-clause-nets
returns-clause-nets g c = sym c.loop-row.invariant.so_far ∙ ended g.R.Named.net_name c.args.flat.now.list c.args.rows.now c.loop-row.row-index c.loop-row.nets.items c.loop-row-test.false
