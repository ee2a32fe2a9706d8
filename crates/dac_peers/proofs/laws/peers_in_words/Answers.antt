use Rattle.dac_peers.specs.laws.Least.{all_have_the_least}
use Rattle.dac_peers.specs.laws.Onward.{got_goes_onward}
use Rattle.dac_peers.specs.laws.Acked.{acked_is_greatest}
use Rattle.dac_peers.specs.laws.Owed.{heard_are_owed, shipped_are_not_owed}
use Rattle.dac_peers.specs.laws.Shipping.{nothing_is_kept, begins_where_acked, acks_are_got, up_to_date_have_all}
use Rattle.dac_peers.specs.laws.Within.{acks_are_within}
use Rattle.dac_peers.proofs.laws.peers_in_words.Goals as goal

pub returns : goal.returns
returns c = record {
  new = nothing_is_kept;
  begins = begins_where_acked;
  acks = acks_are_got;
  up_to_date = up_to_date_have_all;
  all = all_have_the_least;
  kept = got_goes_onward;
  acked = acked_is_greatest;
  owed = heard_are_owed;
  shipped = shipped_are_not_owed;
  within = acks_are_within;
}
