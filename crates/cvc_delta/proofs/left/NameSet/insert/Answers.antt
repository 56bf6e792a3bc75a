use Rattle.std.proofs.Common.{◌≡◌, ◌<◌, ◌∙◌, Result, Ok, Err, OnOk, subst, sym, ap}
use Rattle.cvc_base.specs.declared.ids.NoMemory.{NoMemory}
use Rattle.cvc_delta.proofs.Marked.{inserted}
use Rattle.cvc_delta.proofs.left.NameSet.insert.Goals as goal

then : {P Q : Type 0} (r : Result (Unit {0}) NoMemory) → OnOk r P → (P → Q) → OnOk r Q
then (Ok x) p f = f p
then (Err e) p f = tt

pub returns : goal.returns
returns c =
    let are = c.in_ok-place.ensures in
    let count = c.len.ensures.count in
    then c.mark.result c.mark.ensures (λ marked. inserted c.args.self.now.names c.number.new.self c.args.self.now.marks.items c.mark.new.marks.items c.args.name.now c.in_ok-place.place are.names c.len.ensures.apart are.within are.name
    (λ j below. marked j (subst (λ n. j < n) (sym count) below)))
