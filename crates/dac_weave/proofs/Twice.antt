-- Journals of one node.
use Rattle.std.proofs.Common.{◌≡◌, ◌≢◌, ℕ, ◌<◌, List}
use Rattle.dac_weave.specs.laws.Common.{JournalValue, At}

-- no journal before k, except the i-th, belongs to its node
abbrev pub NoneBefore : List JournalValue → ℕ → ℕ → Type 0
NoneBefore js i k = (m : ℕ) → m < k → (j b : JournalValue) → At js i j → At js m b → ((m ≢ i) × (b.beginning.node ≡ j.beginning.node)) → ⊥
