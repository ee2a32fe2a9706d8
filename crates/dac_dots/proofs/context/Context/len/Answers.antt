use Rattle.std.proofs.Common.{◌∙◌, ap, arith, subst, sym}
use Rattle.dac_dots.specs.Entries.{AreRows, counted, dots_of}
use Rattle.dac_dots.proofs.SetLemmas.{counted_is, no_count}
use Rattle.dac_dots.proofs.context.Context.len.Goals as goal

pub returns-then-len-eq0 : goal.returns-then-len-eq0
returns-then-len-eq0 c =
    let none = c.if-len-eq0.true in
    let long = c.len.ensures.value in
    let counts = no_count c.self.inside.rows (omega (arith, none, long)) in
    sym counts ∙ counted_is c.self.inside.rows c.args.self.now c.self.view_is c.self.invariant

pub returns : goal.returns
returns c =
    let none = ap counted c.in_default.ensures.0 in
    let so_far = c.loop-counters.invariant.so_far in
    let all = counted_is c.entries-entries.result c.args.self.now (ap dots_of c.entries-entries.ensures ∙ c.self.view_is) (subst AreRows (sym c.entries-entries.ensures) c.self.invariant) in
    omega (arith, none, so_far, all)
