use Rattle.std.proofs.Common.{◌≡◌, List, length}
use Rattle.dac_decide.specs.FailoverWait.{Note, waits_of}
use Rattle.dac_decide.proofs.Places.{partly}
use Rattle.dac_decide.proofs.waits.Waits.note.Given as goal

abbrev pub invariant-loop-place : goal.invariant-loop-place
invariant-loop-place l = record {
  places : length l.self-inside.noted.items ≡ length l.initial.self-inside.noted.items;
  partly : (notes : List Note) → l.initial.self-inside.noted.items ≡ waits_of l.config notes
      → l.self-inside.noted.items ≡ partly l.config (record { state = l.state; moment = l.now }) notes l.place;
}
