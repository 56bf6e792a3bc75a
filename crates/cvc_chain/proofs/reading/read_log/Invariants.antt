use Rattle.std.proofs.Common.{◌≡◌, ◌+◌, ◌≤◌, length}
use Rattle.std.specs.List.{slice_split}
use Rattle.cvc_chain.specs.Reading.{is_line_feed, limit, log_behind, log_of}
use Rattle.cvc_chain.proofs.reading.read_log.Given as goal

abbrev pub invariant-loop-length : goal.invariant-loop-length
invariant-loop-length l = record {
  read : log_behind l.log l.start (slice_split is_line_feed l.rest) ≡ log_of l.bytes;
  whole : l.start + length l.rest ≡ length l.bytes;
  few : length l.log ≤ l.start;
  within : l.start ≤ limit;
}

abbrev pub decreases-loop-length : goal.decreases-loop-length
decreases-loop-length l = length l.rest
