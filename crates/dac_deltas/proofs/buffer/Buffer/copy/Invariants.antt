use Rattle.std.proofs.Common.{◌≡◌, ◌++◌}
use Rattle.std.specs.VecDeque.Iter.{deque_iter_rest}
use Rattle.dac_deltas.proofs.buffer.Buffer.copy.Given as goal

abbrev pub invariant-loop-ending : goal.invariant-loop-ending
invariant-loop-ending g l = l.kept.items ++ deque_iter_rest l.ending-iterator ≡ l.self-inside.kept.items
