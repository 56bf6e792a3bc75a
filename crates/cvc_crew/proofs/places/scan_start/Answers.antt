use Rattle.std.proofs.Math.Nat.{add-mod-mod}
use Rattle.cvc_crew.proofs.places.scan_start.Goals as goal

pub returns : goal.returns
returns c = rw (c.from-devices.ensures, c.from-own.ensures, c.share_start.ensures, add-mod-mod)
