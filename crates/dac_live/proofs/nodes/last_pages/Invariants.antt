use Rattle.std.proofs.Common.{◌≡◌, ℕ, ◌<◌, All, map, take}
use Rattle.dac_live.proofs.Common.{beginning_of, IsTrueOf, journal_at, records_at, IsPageOf, pages_read}
use Rattle.dac_live.specs.Nodes.{IsFirstOf, last_page_of}
use Rattle.dac_live.proofs.nodes.last_pages.Given as goal

abbrev pub invariant-loop-i : goal.invariant-loop-i
invariant-loop-i l = record {
  pages : l.all.items ≡ map (last_page_of l.config) (take l.i l.closed);
  read : l.all.items ≡ take l.i l.read;
  reads : (k : ℕ) → k < l.i → All (IsPageOf (beginning_of l.config (record { 0 = k }) 0) (records_at l.closed k)) (pages_read k l.phases l.reads);
  histories : (k : ℕ) → k < l.i → IsTrueOf l.config (journal_at l.closed k);
  nodes : (k : ℕ) → k < l.i → IsFirstOf k (journal_at l.closed k);
}
