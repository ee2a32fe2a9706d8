use Rattle.std.proofs.Common.{nat_eq, length, IfOk, ◌≡◌, sym, ap, subst, ◌∙◌}
use Rattle.dac_lattice.specs.Maps.{join_maps}
use Rattle.dac_lattice.specs.laws.Maps.{map_laws}
use Rattle.dac_lattice.specs.laws.Joins.{join_below}
use Rattle.dac_lattice.proofs.JoinLemmas.{nothing_first}
use Rattle.dac_lattice.proofs.maps.MapOfLattice.join.Goals as goal

pub returns-then-is_empty : goal.returns-then-is_empty
returns-then-is_empty g c =
    let none = ap (λ xs. nat_eq (length xs) 0) (sym c.entries-mine.ensures) ∙ sym c.is_empty.ensures ∙ c.if-is_empty.true in
    subst (λ both. IfOk c.copy.result (λ copied. copied ≡ both)) (sym (nothing_first g.K.Ord.cmp g.L.Lattice.join c.args.self.now c.args.other.now none)) c.copy.ensures

pub returns-then-leq : goal.returns-then-leq
returns-then-leq g c =
    let laws = map_laws g.met.K.Ord.total g.met.K.MapKey.exact g.met.L.Lattice.laws in
    subst (λ both. IfOk c.copy-then-leq.result (λ copied. copied ≡ both))
    (sym (join_below laws c.args.other.now c.args.self.now c.tells_invariant-2.ensures c.tells_invariant.ensures (c.leq.ensures.0 c.if-leq.true))) c.copy-then-leq.ensures

-- by the law `closed` of maps the merge is a map
pub of-requires : goal.of-requires
of-requires g c =
    rw (c.in_ok-entries.ensures, c.entries-mine.ensures, c.entries-theirs.ensures)
    ((map_laws g.met.K.Ord.total g.met.K.MapKey.exact g.met.L.Lattice.laws).closed _ _ c.tells_invariant.ensures c.tells_invariant-2.ensures)

pub returns : goal.returns
returns g c =
    subst (λ both. IfOk c.of.result (λ joined. joined ≡ both))
    (c.in_ok-entries.ensures ∙ (λ k. join_maps g.K.Ord.cmp g.L.Lattice.join (c.entries-mine.ensures k) (c.entries-theirs.ensures k))) c.of.ensures
