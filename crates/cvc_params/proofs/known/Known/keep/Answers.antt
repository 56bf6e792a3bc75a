use Rattle.std.proofs.Common.{List, ℕ, Bor, ap, ◌∙◌}
use Rattle.std.specs.Option.{option_map}
use Rattle.std.specs.Map.{lookup}
use Rattle.cvc_params.specs.PairIndexes.{is_key}
use Rattle.cvc_params.proofs.Indexing.{mapped-insert}
use Rattle.cvc_params.proofs.known.Known.keep.Goals as goal

pub returns : goal.returns
returns c = λ name.
    ap (λ es. option_map (λ (t : Bor (List ℕ)). t.now) (lookup (is_key name) es)) c.in_ok-insert.ensures.entries
    ∙ mapped-insert (λ (t : Bor (List ℕ)). t.now) name c.args.low c.args.end c.args.self.now.ends.entries
