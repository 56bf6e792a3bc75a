use Rattle.cvc_law.proofs.ReachGiving.{gives_in_range}
use Rattle.cvc_law.proofs.ReachBoth.{reach_of_given, given_of_reach}
use Rattle.cvc_law.proofs.laws.a_slot_gives_the_same_in_both_forms.Goals as goal

pub returns : goal.returns
returns c = record {
  reach = λ network d slot r lt drop most. reach_of_given network r most d slot lt drop;
  value = λ network d slot r lt drop most. given_of_reach network r most d slot lt drop;
  most = gives_in_range;
}
