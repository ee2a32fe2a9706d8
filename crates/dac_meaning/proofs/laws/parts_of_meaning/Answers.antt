use Rattle.dac_meaning.specs.laws.Joins.{meaning-state}
use Rattle.dac_meaning.proofs.Membership.{heard_are_dots, known_are_named, permits_are_unreplaced, starts_are_unreplaced, lives_are_greatest, down_stays_down, claims_are_greatest, drains_are_unreplaced}
use Rattle.dac_meaning.proofs.Nothing.{nothing_means_bottom}
use Rattle.dac_meaning.proofs.laws.parts_of_meaning.Goals as goal

pub returns-clause-heard : goal.returns-clause-heard
returns-clause-heard c = heard_are_dots

pub returns-clause-known : goal.returns-clause-known
returns-clause-known c = known_are_named

pub returns-clause-permits : goal.returns-clause-permits
returns-clause-permits c = permits_are_unreplaced

pub returns-clause-starts : goal.returns-clause-starts
returns-clause-starts c = starts_are_unreplaced

pub returns-clause-lives : goal.returns-clause-lives
returns-clause-lives c = lives_are_greatest

pub returns-clause-down : goal.returns-clause-down
returns-clause-down c = down_stays_down

pub returns-clause-claims : goal.returns-clause-claims
returns-clause-claims c = claims_are_greatest

pub returns-clause-state : goal.returns-clause-state
returns-clause-state c = meaning-state

pub returns-clause-nothing : goal.returns-clause-nothing
returns-clause-nothing c = nothing_means_bottom

pub returns-clause-drains : goal.returns-clause-drains
returns-clause-drains c = drains_are_unreplaced
