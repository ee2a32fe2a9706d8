use Rattle.std.proofs.Common.{◌≡◌, ◌||◌, ◌&&◌, ℕ, nat_le, take}
use Rattle.std.specs.Ordering.{nat_cmp}
use Rattle.dac_origins.specs.Keys.{IsRising, has_key}
use Rattle.dac_dots.proofs.counters.Counters.of.Given as goal

-- the further counters so far are inserted
abbrev pub invariant-loop-n : goal.invariant-loop-n
invariant-loop-n l = record {
  rising : IsRising nat_cmp l.counters;
  so_far : (n : ℕ) → has_key nat_cmp l.counters n ≡ (has_key nat_cmp (take l.n-index l.further) n || (nat_le 1 n && nat_le n l.upto));
}
