use Rattle.std.proofs.Common.{◌≡◌, ◌∙◌, length, sym, ap}
use Rattle.std.specs.Cmp.{Equal-is}
use Rattle.dac_sorted.specs.laws.Parted.{shorter}
use Rattle.dac_store.proofs.EntryLemmas.{same_end, same_first, still_as_many}
use Rattle.dac_store.proofs.dot_map.DotMapDotStore.is_same.Goals as goal

pub loop-key-init : goal.loop-key-init
loop-key-init g c = record {
  decides = λ same. sym c.entries-mine.ensures ∙ same ∙ c.entries-theirs.ensures;
  as_many = ap length c.entries-mine.ensures ∙ sym c.len.ensures ∙ c.if-len.false ∙ c.len-2.ensures ∙ sym (ap length c.entries-theirs.ensures);
}

pub loop-key-preserved : goal.loop-key-preserved
loop-key-preserved g c =
    let one = c.in-Some.field-0.now in
    let other = c.in-Some-next.field-0.now in
    let key : one.0 ≡ other.0 = g.met.K.MapKey.exact one.0 other.0 (sym c.cmp.ensures ∙ (Equal-is c.cmp.result).0 (sym c.is_eq.ensures ∙ c.if-not-is_eq.false)) in
    record {
      decides = λ rest. c.loop-key.invariant.decides (same_first c.loop-key.mine c.loop-key.theirs c.next.new.self c.next-in-Some.new.self one other c.in-Some.ensures c.in-Some-next.ensures (λ i. (key i, c.is_same.ensures c.if-not-is_same.false i)) rest);
      as_many = still_as_many c.loop-key.mine c.loop-key.theirs c.next.new.self c.next-in-Some.new.self one other c.in-Some.ensures c.in-Some-next.ensures c.loop-key.invariant.as_many;
    }

pub loop-key-smaller : goal.loop-key-smaller
loop-key-smaller g c = shorter c.loop-key.mine c.next.new.self c.in-Some.field-0.now c.in-Some.ensures

pub returns : goal.returns
returns g c _ = c.loop-key.invariant.decides (same_end c.loop-key.mine c.loop-key.theirs c.in_default.ensures.0 c.loop-key.invariant.as_many)
