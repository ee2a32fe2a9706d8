use Rattle.dac_wishes.specs.laws.Stores.{subset_right}
use Rattle.dac_state.proofs.heard.Heard.is_all_with.Goals as goal

pub returns-in-All : goal.returns-in-All
returns-in-All c = λ _. rw c.in-All.is (subset_right _ _)
