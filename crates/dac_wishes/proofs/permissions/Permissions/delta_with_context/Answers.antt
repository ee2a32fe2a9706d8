use Rattle.std.proofs.Common.{◌∙◌, ap}
use Rattle.dac_wishes.specs.laws.Keys.{keys_total, exact_keys}
use Rattle.dac_wishes.specs.StoredPermits.{permissions_of}
use Rattle.dac_wishes.specs.PermitMeaning.{over_of, vote_of}
use Rattle.dac_wishes.proofs.VoteStoring.{vote_held_by, votes_value_of-delta}
use Rattle.dac_wishes.proofs.permissions.Permissions.delta_with_context.Goals as goal

pub stored_delta-requires : goal.stored_delta-requires
stored_delta-requires c = rw (c.vote.ensures, c.requires) (vote_held_by c.args.dot (vote_of c.args.act.now) (over_of c.args.act.now))

pub returns : goal.returns
returns c = rw (c.vote.ensures, c.requires) at (ap permissions_of c.in_ok-causal.ensures) ∙ votes_value_of-delta keys_total exact_keys over_of vote_of c.args.dot c.args.act.now
