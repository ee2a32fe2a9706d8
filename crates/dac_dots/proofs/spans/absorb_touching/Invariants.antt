use Rattle.std.proofs.Common.{◌≡◌, ◌<◌, ◌⊎◌, length, take, drop, vec_capacity}
use Rattle.dac_dots.specs.Spans.{absorbed}
use Rattle.dac_dots.proofs.spans.absorb_touching.Given as goal

-- joining the span so far with the remaining spans gives the whole result
abbrev pub invariant-loop-spans : goal.invariant-loop-spans
invariant-loop-spans l = record {
  front : take l.place l.spans.items ≡ take l.place l.fn.spans.items;
  value : absorbed l.fn.span (drop l.place l.fn.spans.items) ≡ absorbed l.joined (drop l.place l.spans.items);
  room : ((l.spans.items ≡ l.fn.spans.items) × (l.joined ≡ l.fn.span)) ⊎ (length l.spans.items < vec_capacity l.spans);
  capacity : vec_capacity l.spans ≡ vec_capacity l.fn.spans;
}

abbrev pub decreases-loop-spans : goal.decreases-loop-spans
decreases-loop-spans l = length l.spans.items
