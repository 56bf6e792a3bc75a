use Rattle.std.proofs.Common.{◌≡◌, Some, None, refl, sym, ap, ◌∙◌, arith}
use Rattle.cvc_io.specs.MemFiles.{place_of}
use Rattle.cvc_io.proofs.Places.{found}
use Rattle.cvc_io.proofs.Counting.{held_at, failed_with, missed_with, written}
use Rattle.cvc_io.proofs.mem_shelf.MemShelfShelf.open_file.Goals as goal

pub returns-in-Some-2-clause-moves : goal.returns-in-Some-2-clause-moves
returns-in-Some-2-clause-moves c =
    let files = c.args.self.now.files.items in
    let e : place_of files c.args.name.now ≡ Some c.in-Some.place = sym (c.in-Some.ensures.place ∙ ap (λ fs. place_of fs c.args.name.now) c.deref-2.ensures.value) in
    failed_with files c.args.self.now.failures.items c.args.self.now.all c.args.name.now c.in-Some.place _ _ e
    (omega (arith, (found files c.args.name.now c.in-Some.place e).inside, c.args.self.now.counted))
    (written c.args.self.now.failures c.deref_mut.result.now c.count_failure.new.failures c.in-Some.place c.deref_mut.ensures.value c.count_failure.ensures.own)
    c.count_failure.ensures.all

pub returns-in-None-clause-fails : goal.returns-in-None-clause-fails
returns-in-None-clause-fails c =
    let files = c.args.self.now.files.items in
    let e : place_of files c.args.name.now ≡ None = sym (c.in-None.ensures.place ∙ ap (λ fs. place_of fs c.args.name.now) c.deref-2.ensures.value) in
    rw (held_at files c.args.name.now None e) refl

pub returns-in-None-clause-moves : goal.returns-in-None-clause-moves
returns-in-None-clause-moves c =
    let files = c.args.self.now.files.items in
    let e : place_of files c.args.name.now ≡ None = sym (c.in-None.ensures.place ∙ ap (λ fs. place_of fs c.args.name.now) c.deref-2.ensures.value) in
    missed_with files c.args.self.now.failures.items c.args.self.now.all c.args.name.now _ e c.count-in-None.ensures.one
