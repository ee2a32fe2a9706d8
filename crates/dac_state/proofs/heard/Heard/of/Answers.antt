use Rattle.dac_wishes.specs.laws.Stores.{same_context}
use Rattle.dac_state.proofs.heard.Heard.of.Goals as goal

pub returns-then-is_subset : goal.returns-then-is_subset
returns-then-is_subset c = same_context _ _ (c.is_subset.ensures.0 c.if-is_subset.true) c.requires
