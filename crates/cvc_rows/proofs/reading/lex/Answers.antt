use Rattle.std.proofs.Common.{◌∙◌}
use Rattle.cvc_rows.proofs.Files.{lexed}
use Rattle.cvc_rows.proofs.reading.lex.Goals as goal

pub returns : goal.returns
returns c =
    let fed = c.feed.ensures.stands _ _ c.in_ok-lexer.ensures.stands in
    let fed_file = c.feed.ensures.same.0 ∙ c.in_ok-lexer.ensures.fresh.0 in
    lexed c.args.file _ fed_file c.finish.new.self c.args.bytes.now (c.finish.ensures.stands _ _ fed) (c.finish.ensures.same.0 ∙ fed_file) c.finish.ensures.same.1
    c.finish.result c.finish.ensures.refused (c.finish.ensures.refuses _ _ fed) c.in_ok-fault.fault c.in_ok-fault.ensures (c.lines_are_few.ensures c.args.file c.args.bytes.now)
