use Rattle.std.proofs.lemmas.Result.{err_from_is_err_and}
use Rattle.cvc_run.proofs.Feeding.{fed_tokens, feed_stopped, feed_answers}
use Rattle.cvc_run.proofs.netlist.NetlistReader.feed.Goals as goal

pub feed-fed-requires : goal.feed-fed-requires
feed-fed-requires c = c.requires.1.going

pub pass_lines-requires : goal.pass_lines-requires
pass_lines-requires c = fed_tokens c.args.self.now c.requires.0 c.args.piece.now c.requires.1 c.feed-fed.new.self c.feed-fed.ensures.stands c.feed-fed.ensures.same

pub returns-in_err-pass_lines-clause-decided : goal.returns-in_err-pass_lines-clause-decided
returns-in_err-pass_lines-clause-decided c = λ stream h.
    let p = err_from_is_err_and c.from_residual.result c.from_residual.ensures.1 in
    rw (p.1, p.2) (feed_stopped c.args.self.now stream c.args.piece.now h c.feed-fed.new.self c.feed-fed.ensures.stands c.feed-fed.ensures.same c.in_err-pass_lines.field-0.0 c.in_err-pass_lines.ensures.fault)

pub returns-clause-read : goal.returns-clause-read
returns-clause-read c = λ stream h.
    (feed_answers c.args.self.now stream c.args.piece.now h c.feed-fed.new.self c.feed-fed.ensures.stands c.feed-fed.ensures.same
    (record { alloc = c.args.self.now.alloc; lexer = c.pass_lines.new.lexer; builder = c.pass_lines.new.builder })
    c.in_ok-pass_lines.ensures.handed c.in_ok-pass_lines.ensures.passed c.feed-fed.result c.feed-fed.ensures.refused (c.feed-fed.ensures.sure stream _ h.lines)).0

pub returns-clause-decided : goal.returns-clause-decided
returns-clause-decided c = λ stream h.
    (feed_answers c.args.self.now stream c.args.piece.now h c.feed-fed.new.self c.feed-fed.ensures.stands c.feed-fed.ensures.same
    (record { alloc = c.args.self.now.alloc; lexer = c.pass_lines.new.lexer; builder = c.pass_lines.new.builder })
    c.in_ok-pass_lines.ensures.handed c.in_ok-pass_lines.ensures.passed c.feed-fed.result c.feed-fed.ensures.refused (c.feed-fed.ensures.sure stream _ h.lines)).1
