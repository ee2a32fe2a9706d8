use Rattle.std.proofs.Common.{◌≡◌, ◌+◌, ◌<◌, ℕ}
use Rattle.dac_phases.specs.laws.Common.{found, event_one, ask_one}
use Rattle.dac_phases.proofs.phases.ask_lines.Given as goal

abbrev pub invariant-loop-before : goal.invariant-loop-before
invariant-loop-before l = (k : ℕ) → k < l.before → found (event_one (k + 1)) l.part ≡ found (ask_one l.node.0 (k + 1)) l.phase.lines.items
