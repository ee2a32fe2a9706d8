use Rattle.std.proofs.Common.{◌+◌, ◌≤◌, ◌∷◌, [], ap, arith}
use Rattle.dac_base.specs.declared.limits.TheConstants.{MAX_COUNTER}
use Rattle.dac_deltas.specs.KeptDeltas.{KeptDeltas}
use Rattle.dac_deltas.proofs.Keeping.{kept_added, kept_same, joined_end}
use Rattle.dac_deltas.proofs.buffer.Buffer.push.Goals as goal

pub invariant_of-self-2 : goal.invariant_of-self-2
invariant_of-self-2 g c =
    let is_value = g.L.Lattice.is_value in
    let join = g.L.Lattice.join in
    let count = c.self.inside.count in
    let es = c.next_end.new.kept.items in
    let mid = c.push_back_reserved.new.self.items in
    let h = kept_same is_value join count c.self.inside.kept.items c.self.invariant.kept es c.in-Some.ensures.joined c.in-Some.ensures.same in
    let one = joined_end is_value join es mid c.in-Some.end c.in-Some.ensures.end c.push_back_reserved.ensures.items in
    let room : count + 1 ≤ MAX_COUNTER = let shown = ap (λ (k : KeptDeltas g.row.L.Denot). k.count) c.self.view_is in omega arith in
    record { kept = kept_added is_value join count es h mid c.keep_newest.new.kept.items (c.in-Some.end.0 ∷ []) room one.0 one.1 c.keep_newest.ensures; ready = tt }
