use Rattle.std.proofs.Common.{◌≡◌, true, false, sym, ap, ◌∙◌}
use Rattle.std.proofs.lemmas.List.{take_all}
use Rattle.cvc_io.specs.MemFiles.{place_of}
use Rattle.std.specs.Str.{bytes_eq}
use Rattle.cvc_io.proofs.Places.{found_more, if_found}
use Rattle.cvc_io.proofs.held.find.Goals as goal
use Rattle.cvc_io.proofs.held.find.Goals.{then-eq, else-eq}

pub loop-i-preserved : goal.loop-i-preserved
loop-i-preserved c =
    found_more c.args.files.now c.args.name.now c.loop-i.i c.index-files-i.result c.loop-i.place c.if-eq.place c.loop-i-test.true c.index-files-i.is c.loop-i.invariant
    (elim c.if-eq.branch [
      | then-eq w ↦ let t : bytes_eq c.index-files-i.result.name c.args.name.now ≡ true = rw (← c.bytes.ensures) (sym c.eq.ensures ∙ w.if-eq.true) in rw t w.place-is
      | else-eq w ↦ let t : bytes_eq c.index-files-i.result.name c.args.name.now ≡ false = rw (← c.bytes.ensures) (sym c.eq.ensures ∙ w.if-eq.false) in rw t w.place-is
    ])

pub returns-clause-found : goal.returns-clause-found
returns-clause-found c = if_found c.args.files.now c.args.name.now c.loop-i.place
    (c.loop-i.invariant ∙ ap (λ fs. place_of fs c.args.name.now) (take_all c.loop-i.i c.args.files.now c.loop-i-test.false))
