use Rattle.std.proofs.Common.{◌≡◌, rules, sym, subst}
use Rattle.std.specs.Prelude.{◌≤ℤ◌}
use Rattle.cvc_delta.specs.Found.{IsFound}
use Rattle.cvc_delta.proofs.Holding.{session_set}
use Rattle.cvc_delta.proofs.session.Session.set.Goals as goal

pub invariant_of-self-2 : goal.invariant_of-self-2
invariant_of-self-2 c =
    let s = c.self.inside in
    let flat = s.flat.now.list in
    let models = s.models.now in
    let set = c.in_ok-wider.ensures in
    let fits : c.args.low ≤ℤ c.args.high = search rules in
    session_set flat models s.rows c.set_row.new.rows s.found c.self.invariant c.args.name.now c.args.low c.args.high c.behind_set.result set.rows fits set.few
    (c.behind_set.ensures.held flat models s.rows c.set_row.new.rows c.self.invariant.are.ordered set.wider (subst (IsFound flat models s.rows) (sym c.replace-found.ensures.value) c.self.invariant.held))
