use Rattle.cvc_io.proofs.Counting.{read_failed, written}
use Rattle.cvc_io.proofs.mem_shelf.MemShelfShelf.read.Goals as goal

pub returns-then-contains-clause-moves : goal.returns-then-contains-clause-moves
returns-then-contains-clause-moves c =
    read_failed c.args.self.now.files.items c.args.self.now.failures.items c.args.self.now.all c.args.self.now.reading c.in-Some.open _ _ c.in-Some.is c.args.self.now.opened c.args.self.now.counted
    (written c.args.self.now.failures c.deref_mut.result.now c.count_failure.new.failures c.in-Some.open.place c.deref_mut.ensures.value c.count_failure.ensures.own)
    c.count_failure.ensures.all
