use Rattle.std.proofs.Common.{ℕ, ◌+◌, ◌<◌, length}
use Rattle.dac_live.proofs.Common.{calls_of, own_of, FollowsReceipts}
use Rattle.dac_live.proofs.receipts.node_follows.Given as goal

abbrev pub invariant-loop-before : goal.invariant-loop-before
invariant-loop-before l = (k : ℕ) → k < l.before → FollowsReceipts (calls_of (k + 1) l.records) (length l.records + 1) (own_of l.node.0 (k + 1) l.phases l.answers l.reads)
