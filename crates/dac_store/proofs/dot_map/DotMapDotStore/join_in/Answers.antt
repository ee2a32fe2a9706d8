use Rattle.std.proofs.Common.{refl}
use Rattle.dac_store.specs.laws.DotMaps.{keyed_laws}
use Rattle.dac_store.proofs.JoinLemmas.{kept_each}
use Rattle.dac_store.proofs.dot_map.DotMapDotStore.join_in.Goals as goal

pub merge-requires : goal.merge-requires
merge-requires g c = kept_each g.met.K.Ord.total g.met.K.MapKey.exact g.S.DotStore.is_store g.S.DotStore.is_empty c.self.inside.map c.self.invariant

pub invariant_of-result : goal.invariant_of-result
invariant_of-result g c =
    rw (c.in_ok-map.ensures, c.of.ensures, c.of-2.ensures)
    ((keyed_laws g.met.K.Ord.total g.met.K.MapKey.exact g.met.S.DotStore.laws).stored _ c.args.heard.now _ c.args.other_heard.now c.self.invariant c.other.invariant)

pub returns : goal.returns
returns g c = rw (c.in_ok-map.ensures, c.of.ensures, c.of-2.ensures, c.self.view_is, c.other.view_is) refl
