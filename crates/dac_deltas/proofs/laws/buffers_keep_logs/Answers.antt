use Rattle.std.proofs.Common.{refl}
use Rattle.dac_deltas.specs.laws.Joins.{joins_are_least}
use Rattle.dac_deltas.specs.laws.Logs.{pushes_append, pushes_append_all, trims_move_the_base, intervals_are_of_the_log, dropped_have_none}
use Rattle.dac_deltas.proofs.laws.buffers_keep_logs.Goals as goal

pub returns : goal.returns
returns g c = record {
  new = refl;
  push = pushes_append;
  push_all = pushes_append_all;
  trim = trims_move_the_base;
  interval = intervals_are_of_the_log g.L.Bottom.bottom g.L.Lattice.join;
  dropped = dropped_have_none g.L.Bottom.bottom g.L.Lattice.join;
  least = joins_are_least g.met.L.Lattice.laws g.L.Bottom.bottom g.met.L.Bottom.bottom_value g.met.L.Bottom.least;
}
