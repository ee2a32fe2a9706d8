use Rattle.dac_chains.specs.laws.InWords.{claims_in_words, lives_in_words}
use Rattle.dac_chains.proofs.laws.orders_in_words.Goals as goal

pub returns-clause-claims : goal.returns-clause-claims
returns-clause-claims c = claims_in_words

pub returns-clause-lives : goal.returns-clause-lives
returns-clause-lives c = lives_in_words
