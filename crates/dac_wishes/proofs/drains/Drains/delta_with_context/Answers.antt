use Rattle.std.proofs.Common.{◌∙◌, ap}
use Rattle.dac_origins.specs.laws.Dots.{origins_total, exact_origins}
use Rattle.dac_wishes.specs.StoredDrains.{drains_of}
use Rattle.dac_wishes.specs.DrainMeaning.{over_of, vote_of}
use Rattle.dac_wishes.proofs.VoteStoring.{vote_held_by, votes_value_of-delta}
use Rattle.dac_wishes.proofs.drains.Drains.delta_with_context.Goals as goal

pub stored_delta-requires : goal.stored_delta-requires
stored_delta-requires c = rw (c.vote.ensures, c.requires) (vote_held_by c.args.dot (vote_of c.args.act.now) (over_of c.args.act.now))

pub returns : goal.returns
returns c = rw (c.vote.ensures, c.requires) at (ap drains_of c.in_ok-causal.ensures) ∙ votes_value_of-delta origins_total exact_origins over_of vote_of c.args.dot c.args.act.now
