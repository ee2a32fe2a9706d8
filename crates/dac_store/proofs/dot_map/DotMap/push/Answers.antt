use Rattle.std.proofs.Common.{◌∙◌, sym}
use Rattle.dac_sorted.specs.laws.Appending.{find_appended, sorted_appended}
use Rattle.dac_store.specs.DotMaps.{IsKept}
use Rattle.dac_store.proofs.dot_map.DotMap.push.Goals as goal

pub invariant_of-self-2 : goal.invariant_of-self-2
invariant_of-self-2 g c =
    let es = c.self.inside.map in
    let e : g.row.K.Denot × g.row.S.Denot = (c.args.key, c.args.store) in
    rw c.in_ok-push.ensures.ok (record {
      in_order = sorted_appended g.met.K.Ord.total es e c.self.invariant.in_order (sym c.ends_below.ensures ∙ c.if-not-ends_below.false);
      stores = λ q. find_appended g.met.K.Ord.total (IsKept g.S.DotStore.is_store g.S.DotStore.is_empty) es e q (c.self.invariant.stores q) (c.tells_invariant.ensures, sym c.is_empty.ensures ∙ c.if-is_empty.false);
    })
