use Rattle.std.proofs.Common.{ap, ◌∙◌}
use Rattle.std.specs.Option.{is_some}
use Rattle.dac_play.proofs.Shares.{is_some_copied}
use Rattle.dac_play.proofs.sharing.runs.Goals as goal

pub returns : goal.returns
returns c = c.is_some.ensures ∙ is_some_copied c.state_at.result ∙ ap is_some c.state_at.ensures
