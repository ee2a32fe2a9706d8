use Rattle.std.proofs.Common.{◌≡◌, sym, ◌∙◌}
use Rattle.dac_status.proofs.Common.{standing_of}
use Rattle.dac_placement.specs.laws.Judged.{judged_same}
use Rattle.dac_status.proofs.Running.{rank_by_marks, rank_seen}
use Rattle.dac_status.proofs.kept.verdict_seen.Goals as goal
use Rattle.dac_status.proofs.kept.verdict_seen.Goals.{in-Some, in-None}

pub returns : goal.returns
returns c =
    let t = c.args.config.now in
    let s = c.args.state.now in
    let app = c.args.app in
    let standing : c.match-upheld_at.standing ≡ standing_of t s app = elim c.match-upheld_at.branch [
      | in-Some w ↦ w.standing-is ∙ sym (w.in-Some.ensures s app c.requires.claim c.requires.lives c.requires.marks)
      | in-None w ↦ w.standing-is ∙ w.standing_of-standing.ensures
    ] in
    c.verdict_for.ensures ∙ judged_same t s app (rank_seen t s app c.args.runners.now c.args.marks.now) c.match-upheld_at.standing c.group_held-late.result standing c.group_held-late.ensures (rank_by_marks t s app c.args.runners.now c.args.marks.now c.requires.runners c.requires.marks)
