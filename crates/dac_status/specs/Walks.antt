-- A walk through the permits and start wishes of a state, in the order of their keys.
use Rattle.std.specs.Prelude.{ℕ, List, refl}
use Rattle.std.specs.Coded.{Coded, code_by, coded×, coded_list}
use Rattle.std.specs.FinSet as set
use Rattle.dac_origins.specs.Dots.{Dots, coded_dot}
use Rattle.dac_lattice.specs.Flags.{coded_flag}
use Rattle.dac_meaning.specs.StateValue.{StateValue, coded_state}
use Rattle.dac_sorted.specs.Parts.{HasSameFrom}
use Rattle.dac_wishes.specs.declared.key.Key.{Key}
use Rattle.dac_wishes.specs.Keys.{coded_key, key_cmp}
use Rattle.dac_wishes.specs.StoredPermits.{DotFlags}
use Rattle.dac_wishes.specs.PermitsByKey.{permits_by_key}
use Rattle.dac_wishes.specs.StartsByKey.{starts_by_key}

-- a state, and the rest of its permits and start wishes
pub record WalkValue : Type 0 where
  pub state : StateValue
  pub permits : List (Key × DotFlags)
  pub starts : List (Key × Dots)

abbrev pub coded_walk : Coded WalkValue
coded_walk =
    code_by (StateValue × (List (Key × DotFlags) × List (Key × Dots)))
    (coded× coded_state (coded× (coded_list (coded× coded_key (coded_list (coded× coded_dot coded_flag)))) (coded_list (coded× coded_key (set.code coded_dot)))))
    (λ w. (w.state, (w.permits, w.starts)))
    (λ p. record { state = p.0; permits = p.1.0; starts = p.1.1 })
    (λ _. refl)

-- the rest contains all that stands at this key or a later one
pub record IsBefore (key : Key) (walk : WalkValue) : Type 0 where
  pub permits : HasSameFrom key_cmp key (permits_by_key walk.state.permits) walk.permits
  pub starts : HasSameFrom key_cmp key (starts_by_key walk.state.starts) walk.starts

-- the first key of this application and this node, both by number
abbrev pub first_key : ℕ → ℕ → Key
first_key app node = record { app = record { 0 = app }; node = record { 0 = node }; inc = 0 }
