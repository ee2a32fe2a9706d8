-- An operation that replaces nothing makes only its own dot known, so that its incarnation's greatest counter rises by
-- one.
use Rattle.std.proofs.Common.{◌≡◌, ℕ, ◌≤◌, ◌+◌, true, false, ◌||◌, ◌⊎◌, inl, inr, [], ◌∷◌, sym, ap, ◌∙◌, arith}
use Rattle.dac_ticks.specs.laws.Common.{Origin, Dot, dot, dot_cmp, has_key, same_dot_itself, Act, over_list, StateValue, join, meaning_of, KnowsOwnBoot, greatest_counter, next_operation, counter-greatest}
use Rattle.std.specs.List.{list_any}
use Rattle.std.specs.FinSet as set
use Rattle.std.proofs.Math.Bool.{or-true}
use Rattle.std.proofs.lemmas.Bool.{or_cases, or_left}
use Rattle.dac_origins.specs.laws.Dots.{dots_total}
use Rattle.dac_wishes.specs.Writes.{same_dot}
use Rattle.dac_wishes.specs.laws.KeyedWrites.{same_dot_is}
use Rattle.dac_meaning.specs.laws.StateLaws.{known-join}
use Rattle.dac_meaning.specs.laws.Readers.{or-false, known-meaning}
use Rattle.dac_commands.specs.laws.Counters.{greatest-there}

module _ (own : Origin) (s : StateValue) (act : Act) (bare : over_list act ≡ []) where
  -- the incarnation's next dot, and the state with the operation
  abbrev next : Dot
  next = dot own (greatest_counter own s.known + 1)

  abbrev after : StateValue
  after = join s (meaning_of (next_operation s own act ∷ []))

  -- the operation makes its own dot known
  pub known_alone : (d : Dot) → set.contains (meaning_of (next_operation s own act ∷ [])).known d ≡ same_dot d next
  known_alone d =
      known-meaning (next_operation s own act ∷ []) d
      ∙ ap (λ over. (same_dot d next || has_key dot_cmp over d) || false) bare
      ∙ or-false (same_dot d next || false)
      ∙ or-false (same_dot d next)

  pub known_after : (d : Dot) → set.contains after.known d ≡ (set.contains s.known d || same_dot d next)
  known_after d =
      ap (λ k. set.contains k d) (known-join s (meaning_of (next_operation s own act ∷ [])))
      ∙ set.contains-union dots_total s.known (meaning_of (next_operation s own act ∷ [])).known d
      ∙ ap (λ b. set.contains s.known d || b) (known_alone d)

  -- known dots stay known
  pub still_known : (d : Dot) → set.contains s.known d ≡ true → set.contains after.known d ≡ true
  still_known d h = known_after d ∙ or_left (set.contains s.known d) (same_dot d next) h

  abbrev g : ℕ
  g = greatest_counter own s.known

  abbrev n : ℕ
  n = greatest_counter own after.known

  by_dot : (n ≡ 0) ⊎ (list_any (same_dot (dot own n)) (set.items after.known) ≡ true) → n ≤ g + 1
  by_dot (inl none) = omega arith
  by_dot (inr there) = elim (or_cases _ _ (sym (known_after (dot own n)) ∙ set.contains-items after.known (dot own n) ∙ there)) [
    | inl old ↦ let below = counter-greatest s.known (dot own n) old in omega (arith, below)
    | inr new ↦ let same = ap (λ (d : Dot). d.n) (same_dot_is (dot own n) next new) in omega (arith, same)
  ]

  -- the greatest counter rises by one
  pub counter_after : n ≡ g + 1
  counter_after =
      let above = counter-greatest after.known next (known_after next ∙ ap (λ b. set.contains s.known next || b) (same_dot_itself next) ∙ or-true (set.contains s.known next)) in
      let at_most = by_dot (greatest-there own (set.items after.known)) in
      omega (arith, above, at_most)

-- a state that knows the incarnation's boot still does
pub knows_after : (own : Origin) (s : StateValue) (act : Act) → over_list act ≡ [] → KnowsOwnBoot own s → KnowsOwnBoot own (join s (meaning_of (next_operation s own act ∷ [])))
knows_after own s act bare knows = still_known own s act bare (dot own 1) knows
