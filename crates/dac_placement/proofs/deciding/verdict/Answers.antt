use Rattle.std.proofs.Common.{◌≡◌, refl, sym, subst, ◌∙◌}
use Rattle.dac_placement.specs.Placement.{IsVerdict, rank_of, verdict_of}
use Rattle.dac_placement.specs.laws.Judged.{judged_same, verdict_in_words}
use Rattle.dac_placement.proofs.deciding.verdict.Goals as goal

pub returns : goal.returns
returns c =
    let t = c.args.config.now in
    let s = c.args.state.now in
    let app = c.args.app in
    let value : c.verdict_for.result ≡ verdict_of t s app =
    c.verdict_for.ensures ∙ judged_same t s app (rank_of t s app) c.standing_of-standing.result c.group_held-late.result c.standing_of-standing.ensures c.group_held-late.ensures (λ k lt. refl) in
    record { value = value; cases = subst (IsVerdict t s app) (sym value) (verdict_in_words t s app) }
