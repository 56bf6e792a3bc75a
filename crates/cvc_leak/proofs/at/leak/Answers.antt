use Rattle.std.proofs.Common.{sym, rules}
use Rattle.cvc_law.specs.Network.{gate, end_a, end_b}
use Rattle.cvc_law.specs.Family.{interval_at}
use Rattle.cvc_leak.proofs.Leaks.{only_mos_leaks}
use Rattle.cvc_leak.proofs.at.leak.Goals as goal

pub returns-then-not-is_mos : goal.returns-then-not-is_mos
returns-then-not-is_mos c =
    let d = c.args.device.now in
    let f = c.args.family.now in
    sym (only_mos_leaks d c.args.threshold (interval_at f (gate d)) (interval_at f (end_a d)) (interval_at f (end_b d)) (search rules))
