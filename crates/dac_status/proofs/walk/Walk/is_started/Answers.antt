use Rattle.std.proofs.Common.{◌∙◌, ap, is_some}
use Rattle.dac_status.proofs.Common.{is_started_at, WalkValue}
use Rattle.dac_status.proofs.Passing.{before_inside, is_some-copied, started_left}
use Rattle.dac_status.proofs.walk.Walk.is_started.Goals as goal

pub returns-clause-value : goal.returns-clause-value
returns-clause-value c =
    let key = c.args.key in
    let inside = c.self.inside in
    let was = before_inside key inside.state.now inside.permits inside.starts c.args.self.now c.self.view_is c.requires.before in
    c.is_some.ensures ∙ is_some-copied c.seek.result ∙ ap is_some c.seek.ensures.found
    ∙ started_left key inside.state.now inside.starts was.starts
    ∙ ap (λ (v : WalkValue). is_started_at v.state key) c.self.view_is
