use Rattle.std.proofs.Common.{◌≡◌, subst}
use Rattle.cvc_names.proofs.Repeats.{when}
use Rattle.cvc_delta.specs.Edits.{unset_row as rows_left}
use Rattle.cvc_delta.specs.Session.{SessionView}
use Rattle.cvc_delta.proofs.Holding.{session_unset}
use Rattle.cvc_delta.proofs.Rowing.{unset_none}
use Rattle.cvc_delta.proofs.session.Session.unset.Goals as goal

pub invariant_of-self-2 : goal.invariant_of-self-2
invariant_of-self-2 c =
    let s = c.self.inside in
    session_unset s.flat.now.list s.models.now s.rows c.unset_row.new.rows s.found c.self.invariant c.args.name.now
    (when c.unset_row.result (c.unset_row.new.rows ≡ rows_left s.rows c.args.name.now) c.if-not-unset_row.false c.unset_row.ensures.left)

pub returns-then-not-unset_row-clause-left : goal.returns-then-not-unset_row-clause-left
returns-then-not-unset_row-clause-left c =
    let s = c.self.inside in
    subst (λ (v : SessionView). c.unset_row.new.rows ≡ rows_left v.rows c.args.name.now) c.self.view_is
    (unset_none s.rows c.unset_row.new.rows c.args.name.now c.unset_row.result c.self.invariant.are c.unset_row.ensures.there c.if-not-unset_row.true c.unset_row.ensures.same)
