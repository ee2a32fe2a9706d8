use Rattle.dac_meaning.proofs.PieceParts.{permits_are_joined, wishes_are_joined, lives_are_joined, claims_are_joined, drains_are_joined}
use Rattle.dac_meaning.proofs.laws.pieces_are_parts.Goals as goal

pub returns-clause-permits : goal.returns-clause-permits
returns-clause-permits c = permits_are_joined

pub returns-clause-starts : goal.returns-clause-starts
returns-clause-starts c = wishes_are_joined

pub returns-clause-lives : goal.returns-clause-lives
returns-clause-lives c = lives_are_joined

pub returns-clause-claims : goal.returns-clause-claims
returns-clause-claims c = claims_are_joined

pub returns-clause-drains : goal.returns-clause-drains
returns-clause-drains c = drains_are_joined
