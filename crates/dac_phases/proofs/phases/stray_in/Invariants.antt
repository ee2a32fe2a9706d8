use Rattle.std.proofs.Common.{◌<◌, ℕ, map}
use Rattle.dac_phases.specs.laws.Common.{part_at}
use Rattle.dac_phases.specs.Phases.{AskLines, UseLinks}
use Rattle.dac_phases.proofs.phases.stray_in.Given as goal

abbrev pub invariant-loop-i : goal.invariant-loop-i
invariant-loop-i l = record {
  asked : (n : ℕ) → n < l.i → AskLines l.phase n (part_at (map (λ p. p.now) l.parts) n);
  links : (n : ℕ) → n < l.i → UseLinks n (map (λ p. p.now) l.parts);
}
