-- A state that knows the operation of its own boot.
use Rattle.std.proofs.Common.{◌≡◌, Bool, true, false, ◌||◌, List, [], ◌∷◌, refl, ap, ◌∙◌}
use Rattle.dac_node.proofs.Common.{fold, StateValue, bottom, join, meaning_of, KnowsOwnBoot, up}
use Rattle.std.specs.FinSet as set
use Rattle.dac_origins.specs.declared.dot.Origin.{Origin}
use Rattle.dac_origins.specs.Dots.{dot}
use Rattle.dac_origins.specs.laws.Dots.{dots_total}
use Rattle.dac_wishes.specs.laws.KeyedWrites.{same_dot_itself}
use Rattle.dac_meaning.specs.laws.StateLaws.{known-join}
use Rattle.dac_meaning.specs.laws.Readers.{known-meaning}

-- a join keeps what is known
pub knows-join : (o : Origin) (s t : StateValue) → KnowsOwnBoot o s → KnowsOwnBoot o (join s t)
knows-join o s t h = ap (λ k. set.contains k (dot o 1)) (known-join s t) ∙ (set.contains-union dots_total s.known t.known (dot o 1) ∙ ap (λ b. b || set.contains t.known (dot o 1)) h)

-- joins one after another keep what is known
pub knows-grown : (o : Origin) (s : StateValue) (states : List StateValue) → KnowsOwnBoot o s → KnowsOwnBoot o (fold join s states)
knows-grown o s [] h = h
knows-grown o s (t ∷ states) h = knows-grown o (join s t) states (knows-join o s t h)

pub knows-boot : (o : Origin) → KnowsOwnBoot o (join bottom (meaning_of (up o ∷ [])))
knows-boot o =
    ap (λ k. set.contains k (dot o 1)) (known-join bottom (meaning_of (up o ∷ [])))
    ∙ set.contains-union dots_total bottom.known (meaning_of (up o ∷ [])).known (dot o 1)
    ∙ ap (λ b. set.contains bottom.known (dot o 1) || b) (known-meaning (up o ∷ []) (dot o 1) ∙ ap (λ b. (b || false) || false) (same_dot_itself (dot o 1)))
    ∙ or-right (set.contains bottom.known (dot o 1))
  where
    or-right : (a : Bool) → (a || true) ≡ true
    or-right true = refl
    or-right false = refl
