use Rattle.std.proofs.Common.{◌-◌, sym, subst, arith}
use Rattle.std.proofs.lemmas.List.Elements.{All-drop}
use Rattle.dac_deltas.specs.KeptDeltas.{IsJoinOf, numbered_from}
use Rattle.dac_deltas.specs.laws.Joins.{joins_are_least}
use Rattle.dac_deltas.proofs.Intervals.{whole_interval}
use Rattle.dac_deltas.proofs.buffer.Buffer.interval.Goals as goal

pub returns-clause-value : goal.returns-clause-value
returns-clause-value g c =
    let base = c.base-base.ensures in
    whole_interval g.L.Lattice.join g.L.Bottom.bottom c.args.self.now c.args.a c.in_ok-joined.joined (omega arith) c.in_ok-joined.ensures

pub returns-clause-least : goal.returns-clause-least
returns-clause-least g c =
    let k = c.args.self.now in
    let buffer = c.tells_invariant.ensures in
    let least = joins_are_least g.met.L.Lattice.laws g.L.Bottom.bottom g.met.L.Bottom.bottom_value g.met.L.Bottom.least (numbered_from k c.args.a) (All-drop g.L.Lattice.is_value (c.args.a - k.base) k.deltas buffer.values) in
    subst (IsJoinOf g.L.Lattice.is_value g.L.Lattice.below (numbered_from k c.args.a)) (sym c.in_ok-joined.ensures) least
