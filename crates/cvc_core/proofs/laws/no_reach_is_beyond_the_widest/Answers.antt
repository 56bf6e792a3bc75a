use Rattle.cvc_core.proofs.laws.no_reach_is_beyond_the_widest.Goals as goal

pub returns : goal.returns
returns c = record {
  bounds = λ network s b ok. ok.in_range.bounds.in_range b;
  loaded = λ network s k ok. ok.in_range.reads k;
}
