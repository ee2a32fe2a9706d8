use Rattle.std.proofs.Common.{◌≡◌, ◌++◌, take}
use Rattle.std.specs.List.{flat_map}
use Rattle.dac_dots.specs.Rows.{rows_of}
use Rattle.dac_bytes.specs.Spelling.{row_bytes}
use Rattle.dac_bytes.proofs.context.write_rows.Given as goal

abbrev pub invariant-loop-i : goal.invariant-loop-i
invariant-loop-i l = l.writer ≡ l.initial.writer ++ flat_map (row_bytes l.version) (take l.i (rows_of l.context))
