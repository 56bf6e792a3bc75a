use Rattle.std.proofs.Common.{◌+◌, ◌∷◌, [], take, length, length-append, length-drop, arith, refl, sym, ap, ◌∙◌}
use Rattle.std.specs.List.{slice_split}
use Rattle.std.proofs.lemmas.List.{length-take-le}
use Rattle.cvc_chain.specs.Reading.{is_line_feed, log_behind, log_of}
use Rattle.cvc_chain.proofs.Cuts.{all_read, end_stops, line_more, line_stops, rest_whole}
use Rattle.cvc_chain.proofs.reading.read_log.Goals as goal

pub loop-length-init : goal.loop-length-init
unfolding log_of
loop-length-init c = record {
  read = ap (λ log. log_behind log 0 (slice_split is_line_feed c.args.bytes.now)) c.new-log.ensures;
  whole = omega arith;
  few = omega (arith, ap length c.new-log.ensures);
  within = omega arith;
}

pub loop-length-preserved : goal.loop-length-preserved
loop-length-preserved c =
    let rest = c.loop-length.rest.now in
    let i = c.in-Some.length in
    let pushed = c.in_ok-push-in-Ok.ensures.ok in
    let long = length-take-le i rest (omega (arith, c.in-Some.ensures.inside)) in
    record {
      read = rw pushed (line_more c.loop-length.log c.loop-length.start i rest (take i rest) (sym c.first_line_feed.ensures.place ∙ c.in-Some.is) refl long c.in-Ok.line (log_of c.args.bytes.now) (sym c.judged.ensures.line ∙ c.in-Ok.is) c.loop-length.invariant.read);
      whole = omega (arith, c.loop-length.invariant.whole, ap length (rest_whole (i + 1) rest), length-drop (i + 1) rest, c.in-Some.ensures.inside);
      few = omega (arith, ap length pushed, length-append c.loop-length.log (c.in-Ok.line ∷ []), c.loop-length.invariant.few);
      within = c.in-Ok.ensures.within;
    }

pub returns-in-Err-clause-log : goal.returns-in-Err-clause-log
returns-in-Err-clause-log c =
    let rest = c.loop-length.rest.now in
    let i = c.in-Some.length in
    let long = length-take-le i rest (omega (arith, c.in-Some.ensures.inside)) in
    rw c.fault_behind.ensures (line_stops c.loop-length.log c.loop-length.start i rest (take i rest) (sym c.first_line_feed.ensures.place ∙ c.in-Some.is) refl long c.in-Err.cause (log_of c.args.bytes.now) (sym c.judged.ensures.line ∙ c.in-Err.is) c.loop-length.invariant.read)

pub returns-in-Ok-unended-clause-log : goal.returns-in-Ok-unended-clause-log
returns-in-Ok-unended-clause-log c =
    all_read c.loop-length.log c.loop-length.start (length c.args.bytes.now) c.loop-length.rest.now (sym c.first_line_feed.ensures.place ∙ c.in_default.is) c.loop-length.invariant.whole c.in-Ok-unended.field-0 (log_of c.args.bytes.now) (sym c.unended.ensures ∙ c.in-Ok-unended.is) c.loop-length.invariant.read

pub returns-in-Err-unended-clause-log : goal.returns-in-Err-unended-clause-log
returns-in-Err-unended-clause-log c =
    rw c.fault_behind-in-Err-unended.ensures (end_stops c.loop-length.log c.loop-length.start (length c.args.bytes.now) c.loop-length.rest.now (sym c.first_line_feed.ensures.place ∙ c.in_default.is) c.loop-length.invariant.whole c.in-Err-unended.cause (log_of c.args.bytes.now) (sym c.unended.ensures ∙ c.in-Err-unended.is) c.loop-length.invariant.read)
