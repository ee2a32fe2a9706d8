use Rattle.dac_meaning.specs.laws.StateLaws.{bottom_value}
use Rattle.dac_state.proofs.Making.{is_state}
use Rattle.dac_state.proofs.state.StateBottom.bottom.Goals as goal

pub new-parts-requires : goal.new-parts-requires
new-parts-requires c = is_state (record { heard = c.empty.ensures; standing = c.nothing.ensures; lives = c.bottom.ensures; claims = c.bottom-2.ensures }) bottom_value
