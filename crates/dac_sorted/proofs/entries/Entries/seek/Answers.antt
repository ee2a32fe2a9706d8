use Rattle.std.proofs.Common.{◌∙◌, refl, sym}
use Rattle.dac_sorted.proofs.SeekLemmas.{found_at, found_end, found_none, same_past, sorted_past}
use Rattle.dac_sorted.specs.laws.Parted.{shorter}
use Rattle.dac_sorted.proofs.entries.Entries.seek.Goals as goal

pub loop-other-init : goal.loop-other-init
loop-other-init g c = record { in_order = c.requires; same = λ k e. refl }

pub loop-other-preserved : goal.loop-other-preserved
loop-other-preserved g c =
    let e = c.in-Some.field-0.now in
    record {
      in_order = sorted_past g.met.K.Ord.total g.met.K.MapKey.exact c.loop-other.self c.pass.new.self e c.in-Some.ensures c.pass.ensures c.loop-other.invariant.in_order;
      same = same_past g.met.K.Ord.total g.met.K.MapKey.exact c.args.key c.args.self.now c.loop-other.self c.pass.new.self e c.in-Some.ensures c.pass.ensures (sym c.cmp.ensures ∙ c.in-Less.is) c.loop-other.invariant.same;
    }

pub loop-other-smaller : goal.loop-other-smaller
loop-other-smaller g c = rw c.pass.ensures (shorter c.loop-other.self _ c.in-Some.field-0.now c.in-Some.ensures)

pub returns-in-Equal : goal.returns-in-Equal
returns-in-Equal g c = record {
  found = found_at g.met.K.Ord.total g.met.K.MapKey.exact c.args.key c.args.self.now c.loop-other.self c.in-Some.field-0.now c.in-Some.ensures (sym c.cmp.ensures ∙ c.in-Equal.is) c.loop-other.invariant.same;
  in_order = c.loop-other.invariant.in_order;
  same = c.loop-other.invariant.same;
}

pub returns-in-Greater : goal.returns-in-Greater
returns-in-Greater g c = record {
  found = found_none g.met.K.Ord.total g.met.K.MapKey.exact c.args.key c.args.self.now c.loop-other.self c.in-Some.field-0.now c.in-Some.ensures (sym c.cmp.ensures ∙ c.in-Greater.is) c.loop-other.invariant.in_order c.loop-other.invariant.same;
  in_order = c.loop-other.invariant.in_order;
  same = c.loop-other.invariant.same;
}

pub returns : goal.returns
returns g c = record {
  found = found_end g.met.K.Ord.total g.met.K.MapKey.exact c.args.key c.args.self.now c.loop-other.self c.in_default.ensures c.loop-other.invariant.same;
  in_order = c.loop-other.invariant.in_order;
  same = c.loop-other.invariant.same;
}
