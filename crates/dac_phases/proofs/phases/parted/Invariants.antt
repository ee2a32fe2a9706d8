use Rattle.std.proofs.Common.{◌≡◌, ◌<◌, ℕ, length, map, min, take}
use Rattle.dac_phases.specs.laws.Common.{AreParted, part_at}
use Rattle.dac_phases.specs.Ends.{part_length}
use Rattle.dac_phases.proofs.phases.parted.Given as goal

abbrev pub invariant-loop-i : goal.invariant-loop-i
invariant-loop-i l = record {
  parts : length l.parts.items ≡ l.i;
  rests : length l.rests.items ≡ l.i;
  parted : AreParted (map (λ j. j.now) (take l.i l.journals)) (map (λ j. j.now) l.parts.items) (map (λ j. j.now) l.rests.items);
  lengths : (n : ℕ) → n < l.i → length (part_at (map (λ p. p.now) l.parts.items) n) ≡ min (part_length l.phase (map (λ j. j.now) l.journals) n) (length (part_at (map (λ j. j.now) l.journals) n));
}
