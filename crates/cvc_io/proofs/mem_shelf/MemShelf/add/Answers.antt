use Rattle.std.proofs.Common.{◌≡◌, ◌<◌, [], ◌∷◌, ◌++◌, length, Some, None, ap, sym, ◌∙◌, arith}
use Rattle.std.proofs.lemmas.List.{get_or_read}
use Rattle.cvc_io.specs.MemFiles.{place_of}
use Rattle.cvc_io.proofs.Places.{found}
use Rattle.cvc_io.proofs.Counting.{own_count, added_with}
use Rattle.cvc_io.proofs.mem_shelf.MemShelf.add.Goals as goal
use Rattle.cvc_io.proofs.mem_shelf.MemShelf.add.Goals.{in-Some, in-None}

pub returns-clause-counts : goal.returns-clause-counts
returns-clause-counts c =
    let files = c.args.self.now.files.items in
    let failures = c.args.self.now.failures.items in
    let own : c.match-find.failures ≡ own_count failures (place_of files c.args.name.now) = elim c.match-find.branch [
      | in-Some w ↦
          let e : place_of files c.args.name.now ≡ Some w.in-Some.place = sym (w.in-Some.ensures.place ∙ ap (λ fs. place_of fs c.args.name.now) c.deref.ensures.value) in
          let lt : w.in-Some.place < length failures = omega (arith, (found files c.args.name.now w.in-Some.place e).inside, c.args.self.now.counted) in
          rw e (w.failures-is ∙ get_or_read failures w.in-Some.place _ lt w.index.ensures 0)
      | in-None w ↦
          let e : place_of files c.args.name.now ≡ None = sym (w.in-None.ensures.place ∙ ap (λ fs. place_of fs c.args.name.now) c.deref.ensures.value) in
          rw e w.failures-is
    ] in
    added_with files failures c.args.self.now.all c.match-find.failures _ c.args.name.now _ _ c.args.self.now.counted own c.in_ok-of.ensures c.in_ok-push.ensures.items
    (c.push_reserved.ensures.items ∙ ap (λ ns. ns ++ c.match-find.failures ∷ []) c.in_ok-reserve.ensures.items)
