use Rattle.std.proofs.Common.{◌≡◌, ℕ, List, ◌++◌, length}
use Rattle.cvc_run.specs.Reader.{HasRead}
use Rattle.cvc_run.proofs.netlist.feed_text.Given as goal

-- a front of the text has been read
abbrev pub invariant-pieces : goal.invariant-pieces
invariant-pieces l = record {
  fed : List ℕ;
  split : l.fn.text ≡ fed ++ l.rest;
  read : HasRead l.reader fed;
}

abbrev pub decreases-pieces : goal.decreases-pieces
decreases-pieces l = length l.rest
