use Rattle.std.proofs.Common.{◌≡◌, take}
use Rattle.cvc_io.specs.MemFiles.{place_of}
use Rattle.cvc_io.proofs.held.find.Given as goal

abbrev pub invariant-loop-i : goal.invariant-loop-i
invariant-loop-i l = l.place ≡ place_of (take l.i l.files) l.name
