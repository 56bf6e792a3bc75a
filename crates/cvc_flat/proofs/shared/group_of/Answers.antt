use Rattle.std.proofs.Common.{ℕ, subst}
use Rattle.std.specs.Prelude.{IfSome, Option}
use Rattle.cvc_params.specs.Levels.{instance_of}
use Rattle.cvc_flat.specs.Sharing.{IsGroupOf}
use Rattle.cvc_flat.proofs.Sharing.{no_loop, takes_known}
use Rattle.cvc_flat.proofs.shared.group_of.Goals as goal

pub returns-in-Some-clause-looped : goal.returns-in-Some-clause-looped
returns-in-Some-clause-looped c =
    let s = c.args.sight.now in
    let groups = c.args.groups.now in
    let pairs = c.args.pairs.now in
    no_loop s.netlist.now (instance_of s.levels.items) groups pairs c.args.model c.in-Some.group
    (subst (λ (o : Option ℕ). IfSome o (IsGroupOf groups pairs c.args.model)) c.in-Some.is c.requires.shared)

pub returns-in-Some-clause-group : goal.returns-in-Some-clause-group
returns-in-Some-clause-group c =
    let s = c.args.sight.now in
    let groups = c.args.groups.now in
    let pairs = c.args.pairs.now in
    takes_known s.netlist.now (instance_of s.levels.items) groups pairs c.args.model c.in-Some.group
    (subst (λ (o : Option ℕ). IfSome o (IsGroupOf groups pairs c.args.model)) c.in-Some.is c.requires.shared)
