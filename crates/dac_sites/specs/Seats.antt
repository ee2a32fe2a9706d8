-- Seats by their numbers, with their calls.
use Rattle.std.specs.Prelude.{◌≡◌, ℕ, zero, suc, List, [], ◌∷◌, ◌++◌, ◌⊎◌, refl}
use Rattle.std.specs.Coded.{Coded, code_by, coded×, coded_ℕ, coded_list}
use Rattle.dac_journal.specs.declared.record.Call.{Call}

-- the number, and the calls, oldest first
pub record SeatValue : Type 0 where
  pub number : ℕ
  pub calls : List Call

abbrev pub coded_seat : Coded Call → Coded SeatValue
coded_seat call =
    code_by (ℕ × List Call) (coded× coded_ℕ (coded_list call))
    (λ s. (s.number, s.calls))
    (λ p. record { number = p.0; calls = p.1 })
    (λ _. refl)

-- this many seats, numbered from 1, without calls
abbrev pub new_seats : ℕ → List SeatValue
new_seats zero = []
new_seats (suc n) = new_seats n ++ record { number = suc n; calls = [] } ∷ []

module _ {S : Type 0} where
  -- one of these numbers is this one
  abbrev pub IsOneOf : ℕ → (S → ℕ) → List S → Type 0
  IsOneOf n number [] = ⊥
  IsOneOf n number (s ∷ ss) = (number s ≡ n) ⊎ IsOneOf n number ss
