use Rattle.dac_meaning.proofs.Alone.{one_is_heard, permit_delta_is_meaning, wish_delta_is_meaning, life_delta_is_meaning, claim_delta_is_meaning, drain_delta_is_meaning}
use Rattle.dac_meaning.proofs.laws.delta_is_meaning.Goals as goal

pub returns-clause-heard : goal.returns-clause-heard
returns-clause-heard c = one_is_heard

pub returns-clause-permits : goal.returns-clause-permits
returns-clause-permits c = permit_delta_is_meaning

pub returns-clause-starts : goal.returns-clause-starts
returns-clause-starts c = wish_delta_is_meaning

pub returns-clause-lives : goal.returns-clause-lives
returns-clause-lives c = life_delta_is_meaning

pub returns-clause-claims : goal.returns-clause-claims
returns-clause-claims c = claim_delta_is_meaning

pub returns-clause-drains : goal.returns-clause-drains
returns-clause-drains c = drain_delta_is_meaning
