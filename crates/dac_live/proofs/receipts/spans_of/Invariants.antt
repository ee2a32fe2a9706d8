use Rattle.std.proofs.Common.{◌≡◌, take}
use Rattle.dac_live.proofs.Common.{calls_of, receipt_after}
use Rattle.dac_live.proofs.Followed.{fronts_from}
use Rattle.dac_live.proofs.receipts.spans_of.Given as goal

abbrev pub invariant-loop-i : goal.invariant-loop-i
invariant-loop-i l = record {
  last : l.last ≡ receipt_after 0 (calls_of l.seat (take l.i l.records));
  all : l.all.items ≡ fronts_from 0 (calls_of l.seat (take l.i l.records));
}
