use Rattle.std.proofs.Common.{◌≡◌, ◌+◌, ◌≤◌, fold, length, take, sym, ap, subst, ◌∙◌, arith}
use Rattle.dac_base.specs.declared.limits.TheConstants.{MAX_COUNTER}
use Rattle.dac_deltas.specs.KeptDeltas.{KeptDeltas, newest, pushed}
use Rattle.dac_deltas.specs.BlockEnds.{IsKept, IsHeld, deltas_of}
use Rattle.dac_deltas.proofs.Keeping.{kept_added, shown_added}
use Rattle.dac_deltas.proofs.buffer.Buffer.push_all.Goals as goal

pub add_all-requires : goal.add_all-requires
add_all-requires g c = record { joined = c.self.invariant.kept.joined }

pub invariant_of-self-2 : goal.invariant_of-self-2
invariant_of-self-2 g c =
    let is_value = g.L.Lattice.is_value in
    let join = g.L.Lattice.join in
    let count = c.self.inside.count in
    let es = c.self.inside.kept.items in
    let mid = c.add_all.new.kept.items in
    let new = c.keep_newest.new.kept.items in
    let ds = c.args.deltas.items in
    let long : length ds ≡ c.len-added.result = sym (c.len-added.ensures ∙ c.args.deltas.ok.0) in
    let room : count + length ds ≤ MAX_COUNTER = let shown = ap (λ (k : KeptDeltas g.row.L.Denot). k.count) c.self.view_is in omega arith in
    record { kept = subst (λ n. IsKept is_value join (count + n) new) long (kept_added is_value join count es c.self.invariant.kept mid new ds room c.in_default.ensures.joined c.in_default.ensures.added c.keep_newest.ensures); ready = tt }

pub returns-clause-ok : goal.returns-clause-ok
returns-clause-ok g c =
    let is_value = g.L.Lattice.is_value in
    let join = g.L.Lattice.join in
    let count = c.self.inside.count in
    let es = c.self.inside.kept.items in
    let new = c.keep_newest.new.kept.items in
    let ds = c.args.deltas.items in
    let long : c.len-added.result ≡ length ds = c.len-added.ensures ∙ c.args.deltas.ok.0 in
    ap (λ n. newest (count + n) (deltas_of new)) long
    ∙ (shown_added is_value join count es c.self.invariant.kept c.add_all.new.kept.items new ds c.in_default.ensures.added c.keep_newest.ensures
    ∙ ap (λ k. fold pushed k ds) c.self.view_is)

pub invariant_of-self : goal.invariant_of-self
invariant_of-self g c =
    subst (λ es. IsHeld g.L.Lattice.is_value g.L.Lattice.join g.L.Bottom.bottom c.self.inside.count es c.self.inside.ready)
    (sym (c.truncate.ensures.items ∙ (ap (λ n. take n c.add_all.new.kept.items) (c.len-before.ensures ∙ c.self.inside.kept.ok.0) ∙ c.in-Err.ensures.before))) c.self.invariant

pub returns-in-Err-clause-err : goal.returns-in-Err-clause-err
returns-in-Err-clause-err g c =
    ap (λ es. newest c.self.inside.count (deltas_of es)) (c.truncate.ensures.items ∙ (ap (λ n. take n c.add_all.new.kept.items) (c.len-before.ensures ∙ c.self.inside.kept.ok.0) ∙ c.in-Err.ensures.before))
    ∙ c.self.view_is

pub overflow_add-self : goal.overflow_add-self
overflow_add-self g c =
    let long = c.args.deltas.ok.0 in
    let shown = ap (λ (k : KeptDeltas g.row.L.Denot). k.count) c.self.view_is in
    omega arith
