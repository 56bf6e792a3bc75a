use Rattle.cvc_rows.proofs.Walking.{at_end, at_refusal, at_row, fine_more, few_more}
use Rattle.cvc_rows.proofs.reading.judge_lines.Goals as goal

pub returns-in-Err-clause-rows : goal.returns-in-Err-clause-rows
returns-in-Err-clause-rows g c =
    let at = c.loop-line.invariant in
    rw c.at.ensures (at_refusal _ _ c.loop-line.rows c.loop-line.lexer.waiting at.rest c.in-Some.line c.next_line.new.self.waiting c.in-Some.ensures.taken c.in-Err.refused (c.in-Err.ensures.verdict _ at.knows))

pub loop-line-preserved : goal.loop-line-preserved
loop-line-preserved g c =
    let at = c.loop-line.invariant in
    let more = c.in_ok-push-in-Ok.ensures.ok in
    record {
      knows = rw more (c.in-Ok.ensures.knows c.loop-line.rows at.knows);
      rest = at_row _ (g.J.Judge.verdict c.loop-line.judge) c.loop-line.rows c.loop-line.lexer.waiting at.rest c.in-Some.line c.next_line.new.self.waiting c.in-Some.ensures.taken c.in-Ok.row (c.in-Ok.ensures.verdict c.loop-line.rows at.knows) c.push.new.self more (g.J.Judge.verdict c.judge.new.self) c.in-Ok.ensures.same;
      fine = fine_more g.J.Judge.fine c.loop-line.rows c.in-Ok.row c.push.new.self more at.fine c.in-Ok.ensures.fine;
      few = few_more c.loop-line.rows c.in-Ok.row c.push.new.self more c.in-Some.line c.next_line.new.self.waiting c.loop-line.lexer.waiting c.in-Some.ensures.taken _ at.few;
    }

pub returns-clause-rows : goal.returns-clause-rows
returns-clause-rows g c = let at = c.loop-line.invariant in at_end _ _ c.loop-line.rows c.loop-line.lexer.waiting at.rest c.in_default.ensures.taken.0
