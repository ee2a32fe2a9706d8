use Rattle.std.proofs.Common.{Some, None, ◌∙◌, ap}
use Rattle.dac_status.proofs.Common.{is_permitted_by, is_permitted_at, WalkValue}
use Rattle.dac_status.proofs.Passing.{before_inside, before_passed, permitted_left}
use Rattle.dac_status.proofs.walk.Walk.is_permitted.Goals as goal
use Rattle.dac_status.proofs.walk.Walk.is_permitted.Goals.{in-Some, in-None}

pub returns-clause-value : goal.returns-clause-value
returns-clause-value c =
    let t = c.args.config.now in
    let key = c.args.key in
    let inside = c.self.inside in
    let was = before_inside key inside.state.now inside.permits inside.starts c.args.self.now c.self.view_is c.requires.before in
    elim c.match-seek.branch [
      | in-Some w ↦
          w.result-is ∙ w.permitted_by.ensures
          ∙ (λ i. is_permitted_by (c.default_permission-default.ensures i) (w.entries.ensures i))
          ∙ permitted_left t key inside.state.now inside.permits (Some w.in-Some.permits.now) w.in-Some.ensures.found was.permits
          ∙ ap (λ (v : WalkValue). is_permitted_at t v.state key) c.self.view_is
      | in-None w ↦
          w.result-is ∙ c.default_permission-default.ensures
          ∙ permitted_left t key inside.state.now inside.permits None w.in-None.ensures.found was.permits
          ∙ ap (λ (v : WalkValue). is_permitted_at t v.state key) c.self.view_is
    ]

pub returns-clause-before : goal.returns-clause-before
returns-clause-before c =
    let inside = c.self.inside in
    before_passed c.args.key inside.state.now inside.permits inside.starts c.args.self.now c.self.view_is c.seek.new.self c.seek.ensures.same c.requires.before
