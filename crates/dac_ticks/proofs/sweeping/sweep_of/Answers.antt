use Rattle.std.specs.Prelude.{IfSome}
use Rattle.std.specs.Option.{option_copied}
use Rattle.std.proofs.Common.{◌≡◌, ℕ, ◌+◌, ◌≤◌, List, sym, ap, subst, ◌∙◌, arith}
use Rattle.dac_ticks.specs.laws.Common.{AppId, Operation, StateValue, app_count, apps_of, waits_of, KnowsOwnBoot, greatest_counter, Sweep, sweep_from, swept, sweep_over, sweep_of, found_of}
use Rattle.dac_board.specs.Boards.{Shows}
use Rattle.dac_ticks.specs.SweepSoFar.{added, so_far}
use Rattle.dac_ticks.specs.InWords.{IsSweep}
use Rattle.dac_ticks.specs.laws.Sweeping.{numbered, apps_from, swept_is, sweep_more, swept_knows, swept_counter}
use Rattle.dac_ticks.specs.laws.Words.{sweep_in_words}
use Rattle.dac_ticks.proofs.sweeping.sweep_of.Goals as goal

one_more : (a b g k n : ℕ) → a ≡ b → b ≤ g + 1 → g ≤ k + n → a ≤ k + (n + 1)
one_more a b g k n e h i = omega arith

pub loop-number-preserved : goal.loop-number-preserved
loop-number-preserved c =
    let t = c.args.config.now in
    let own = c.args.own in
    let waits = c.args.waits.now in
    let now = c.args.now in
    let s = c.args.state.now in
    let n = c.loop-number.number in
    let before : Sweep = so_far s c.loop-number.progress in
    let after : Sweep = so_far s c.add.new.self in
    let step : after ≡ swept t own waits now before (numbered n) =
    c.in_ok-add.ensures.added s
    ∙ ap (added before (numbered n)) (c.in_ok-found.ensures ∙ ap (λ u. found_of t own waits now u (numbered n)) c.state-state.ensures)
    ∙ swept_is t own waits now before (numbered n) in
    record {
      sweep = step ∙ ap (λ sweep. swept t own waits now sweep (numbered n)) c.loop-number.invariant.sweep ∙ sym (sweep_more t own waits now (sweep_from s) n);
      knows = subst (λ (sweep : Sweep). KnowsOwnBoot own sweep.state) (sym step) (swept_knows t own waits now before (numbered n) c.loop-number.invariant.knows);
      counter = one_more _ _ (greatest_counter own before.state.known) (greatest_counter own s.known) n (ap (λ (sweep : Sweep). greatest_counter own sweep.state.known) step)
          (swept_counter t own waits now before (numbered n)) c.loop-number.invariant.counter;
      sparing = c.in_ok-add.ensures.sparing c.loop-number.invariant.sparing;
    }

pub returns-clause-words : goal.returns-clause-words
returns-clause-words c = λ notes stands.
    let t = c.args.config.now in
    let own = c.args.own in
    let now = c.args.now in
    let s = c.args.state.now in
    let up_to = c.loop-number.auto.number-end in
    let not_below = c.loop-number-test.false in
    let count = c.apps-number-end.ensures.count in
    let end : c.loop-number.number ≡ app_count t = omega arith in
    let all : so_far s c.loop-number.progress ≡ sweep_of t own (waits_of t notes) now s =
    c.loop-number.invariant.sweep ∙ (λ i. sweep_over t own (stands i) now (sweep_from s) (apps_from 0 (end i))) in
    let ops = sym (c.new-3.ensures ∙ ap (λ (sweep : Sweep). sweep.ops) all) in
    let passed = sym (c.new-4.ensures ∙ ap (λ (sweep : Sweep). sweep.passed) all) in
    subst (λ (os : List Operation). IsSweep t own notes now s (apps_of t) os c.new-4.result) ops
    (subst (λ (apps : List AppId). IsSweep t own notes now s (apps_of t) (sweep_of t own (waits_of t notes) now s).ops apps) passed (sweep_in_words t own notes now s c.requires.room))

pub found_of-requires-clause-shows : goal.found_of-requires-clause-shows
found_of-requires-clause-shows c =
    let t = c.args.config.now in
    let s = c.args.state.now in
    subst (λ (x : StateValue). IfSome (option_copied c.board-board.result) (λ b. Shows t b x)) (sym c.state-state.ensures)
    (c.board-board.ensures t s c.requires.shows)
