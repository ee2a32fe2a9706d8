use Rattle.std.proofs.Common.{◌+◌, ◌≤◌, ◌∷◌, ◌++◌, [], ap, ◌∙◌, arith}
use Rattle.dac_base.specs.declared.limits.TheConstants.{MAX_COUNTER}
use Rattle.dac_deltas.proofs.Joining.{joined_push}
use Rattle.dac_deltas.proofs.Keeping.{kept_added, joined_end}
use Rattle.dac_deltas.proofs.staged.Staged.commit.Goals as goal

pub invariant_of-result : goal.invariant_of-result
invariant_of-result g c =
    let is_value = g.L.Lattice.is_value in
    let join = g.L.Lattice.join in
    let count = c.self.inside.count in
    let es = c.self.inside.kept.items in
    let delta = c.self.inside.delta in
    let mid = c.push_back_reserved.new.self.items in
    let staged = c.self.invariant.0 in
    let added = c.push_back_reserved.ensures.items ∙ ap (λ e. es ++ e ∷ []) c.new.ensures in
    let one = joined_end is_value join es mid (delta, []) (joined_push is_value join es delta staged.held.kept.joined staged.value) added in
    let room : count + 1 ≤ MAX_COUNTER = let below = staged.countable in omega arith in
    record { kept = kept_added is_value join count es staged.held.kept mid c.keep_newest.new.kept.items (delta ∷ []) room one.0 one.1 c.keep_newest.ensures; ready = tt }
