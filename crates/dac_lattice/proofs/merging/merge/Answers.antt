use Rattle.std.proofs.Common.{◌+◌, ◌≤◌, ◌++◌, inl, inr, length, refl, ap, ◌∙◌, arith}
use Rattle.std.specs.Int.{from_bool}
use Rattle.std.specs.Option.{is_some, option_copied}
use Rattle.dac_lattice.specs.Entries.{merge_entries}
use Rattle.dac_lattice.proofs.MergeLemmas.{IsStep, step, fewer_left, merged_more, merged_whole}
use Rattle.dac_lattice.proofs.merging.merge.Given.{Over}
use Rattle.dac_lattice.proofs.merging.merge.Goals as goal
use Rattle.dac_lattice.proofs.merging.merge.Goals.{After-from-j, then-i-mine, else-i-mine+then-j-theirs}

pub both-init : goal.both-init
both-init g c = record {
  so_far = ap (λ l. l ++ merge_entries g.K.Ord.cmp (g.C.Combine.combined c.args.how.now) c.args.mine.now c.args.theirs.now) c.in_ok-merged.ensures.items;
  first = omega arith;
  second = omega arith;
}

taken : (g : Over) (c : After-from-j g) → IsStep g.K.Ord.cmp (g.C.Combine.combined c.args.how.now) c.args.mine.now c.args.theirs.now c.both.i c.both.j c.from-i.result c.from-j.result (option_copied c.lowest.result.0) (option_copied c.lowest.result.1)
taken g c = step g.K.Ord.cmp (g.C.Combine.combined c.args.how.now) c.args.mine.now c.args.theirs.now c.both.i c.both.j c.get.result c.get-in-both.result c.get.ensures.lookup c.get-in-both.ensures.lookup
    c.both.invariant.first c.both.invariant.second c.lowest.result.0 c.lowest.result.1 c.lowest.ensures c.from-i.result c.from-j.result
    (c.from-i.ensures ∙ ap from_bool c.is_some.ensures) (c.from-j.ensures ∙ ap from_bool c.is_some-in-both.ensures)

pub both-preserved : goal.both-preserved
both-preserved g c =
    let taken = taken g c in
    record {
      so_far = merged_more g.K.Ord.cmp (g.C.Combine.combined c.args.how.now) c.args.mine.now c.args.theirs.now c.both.i c.both.j c.from-i.result c.from-j.result _ _ taken
          c.both.merged.items c.push_lowest.new.merged.items _ c.both.invariant.so_far c.in_ok-push_lowest.ensures;
      first = taken.first;
      second = taken.second;
    }

pub both-smaller : goal.both-smaller
both-smaller g c =
    let taken = taken g c in
    let more : 1 ≤ c.from-i.result + c.from-j.result = elim c.if-i-mine.branch [
      | then-i-mine w ↦ taken.further (inl w.if-i-mine.true)
      | else-i-mine+then-j-theirs w ↦ taken.further (inr w.if-j-theirs.true)
    ] in
    fewer_left (length c.args.mine.now) (length c.args.theirs.now) c.both.i c.both.j c.from-i.result c.from-j.result taken.first taken.second more

pub overflow_add-i : goal.overflow_add-i
overflow_add-i g c =
    let within = (step g.K.Ord.cmp (g.C.Combine.combined c.args.how.now) c.args.mine.now c.args.theirs.now c.both.i c.both.j c.get.result c.get-in-both.result c.get.ensures.lookup c.get-in-both.ensures.lookup
    c.both.invariant.first c.both.invariant.second c.lowest.result.0 c.lowest.result.1 c.lowest.ensures c.from-i.result (from_bool (is_some c.lowest.result.1))
    (c.from-i.ensures ∙ ap from_bool c.is_some.ensures) refl).first in
    let fits = c.well_formed.1.1.0.0 in
    omega (arith, within, fits)

pub overflow_add-j : goal.overflow_add-j
overflow_add-j g c = let within = (taken g c).second in let fits = c.well_formed.1.1.1.0.0 in omega (arith, within, fits)

pub returns : goal.returns
returns g c = merged_whole g.K.Ord.cmp (g.C.Combine.combined c.args.how.now) c.args.mine.now c.args.theirs.now c.both.i c.both.j c.if-i-mine.false c.if-j-theirs.false c.both.merged.items _ c.both.invariant.so_far
