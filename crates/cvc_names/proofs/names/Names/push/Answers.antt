use Rattle.std.proofs.Common.{rules, ◌≡◌, ◌+◌, ◌∷◌, ◌++◌, [], length}
use Rattle.cvc_names.proofs.Lying.{names_pushed, table_pushed}
use Rattle.cvc_names.proofs.names.Names.push.Goals as goal

pub invariant_of-self-2 : goal.invariant_of-self-2
invariant_of-self-2 c =
    let end : c.in-Ok.end ≡ length c.self.inside.bytes.items + length c.args.name.now = search rules in
    let bytes : c.extend_from_slice.new.self.items ≡ c.self.inside.bytes.items ++ c.args.name.now = search rules in
    let ends : c.push_reserved.new.self.items ≡ c.self.inside.ends.items ++ c.in-Ok.end ∷ [] = search rules in
    let hashes : c.push.new.self ≡ c.self.inside.chains ++ c.args.hash ∷ [] = search rules in
    table_pushed c.self.inside.bytes.items c.self.inside.ends.items c.self.inside.chains c.self.invariant c.args.self.now c.self.view_is c.args.name.now c.requires.new c.in-Ok.end end
    c.extend_from_slice.new.self.items c.push_reserved.new.self.items bytes ends c.push.new.self c.args.hash c.requires.hash hashes

pub returns-clause-ok : goal.returns-clause-ok
returns-clause-ok c =
    let end : c.in-Ok.end ≡ length c.self.inside.bytes.items + length c.args.name.now = search rules in
    let bytes : c.extend_from_slice.new.self.items ≡ c.self.inside.bytes.items ++ c.args.name.now = search rules in
    let ends : c.push_reserved.new.self.items ≡ c.self.inside.ends.items ++ c.in-Ok.end ∷ [] = search rules in
    names_pushed c.self.inside.bytes.items c.self.inside.ends.items c.self.inside.chains c.self.invariant c.args.self.now c.self.view_is c.args.name.now c.requires.new c.in-Ok.end end
    c.extend_from_slice.new.self.items c.push_reserved.new.self.items bytes ends
