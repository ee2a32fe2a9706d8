-- Numbers that are left for an accepted tick.
use Rattle.std.proofs.Common.{◌≡◌, ◌≤◌, ℕ, ◌+◌, Bool, true, false, ◌||◌, None, refl, arith, true≢false}
use Rattle.dac_model_node.specs.laws.Common.{nat_lt, max, ltb-false, MAX_COUNTER, Table, app_count, greatest_counter, none_is, RunningValue, causes_to_tick, refusal_to_tick, too_few_left, too_many_deltas, needed}

neither : (a b : Bool) → (a || b) ≡ false → (a ≡ false) × (b ≡ false)
neither true b e = absurd (true≢false e)
neither false b e = (refl, e)

module _ (t : Table) (r : RunningValue) (now : ℕ) (none : refusal_to_tick t r now ≡ None) where
  abbrev left : (too_few_left t r.state r.origin ≡ false) × (too_many_deltas r (needed t) ≡ false)
  left = neither (too_few_left t r.state r.origin) (too_many_deltas r (needed t)) (none_is (causes_to_tick t r now) none).1.1.0

  -- counters are left
  pub leaves_enough : too_few_left t r.state r.origin ≡ false
  leaves_enough = left.0

  -- numbers of deltas are left
  pub leaves_numbers : r.kept.count + needed t ≤ MAX_COUNTER
  leaves_numbers = ltb-false MAX_COUNTER (r.kept.count + needed t) left.1

-- if enough counters are left, there is one for each application
pub room_left : (t : Table) (greatest : ℕ) → nat_lt MAX_COUNTER (greatest + needed t) ≡ false → greatest + app_count t ≤ MAX_COUNTER
room_left t greatest left = for_each MAX_COUNTER greatest (app_count t) (ltb-false MAX_COUNTER (greatest + needed t) left)
  where
    for_each : (m g a : ℕ) → g + max 1 a ≤ m → g + a ≤ m
    for_each m g a h = omega arith

pub leaves_room : (t : Table) (r : RunningValue) (now : ℕ) → refusal_to_tick t r now ≡ None → greatest_counter r.origin r.state.known + app_count t ≤ MAX_COUNTER
leaves_room t r now none = room_left t (greatest_counter r.origin r.state.known) (leaves_enough t r now none)
