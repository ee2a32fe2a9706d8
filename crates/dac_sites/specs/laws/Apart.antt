-- The first place at which a journal and the seats don't match.
use Rattle.std.proofs.Common.{◌≡◌, ◌≢◌, ℕ, zero, suc, ◌+◌, ◌<◌, List, [], ◌∷◌, length, take, get_or, All, inl, inr, subst, arith}
use Rattle.dac_sites.specs.laws.Common.{Record, calls_of, DifferAt, SeatValue, IsOneOf}
use Rattle.dac_sites.specs.Behind.{SeatDiffers, FirstUnseated}

-- a seat that differs, after seats that match
pub seat_differs : (p i : ℕ) (rs : List Record) (ss : List SeatValue) (s : SeatValue) → i < length ss → s ≡ get_or ss i s → All (λ t. calls_of t.number rs ≡ t.calls) (take i ss)
    → DifferAt p (calls_of s.number rs) s.calls → SeatDiffers p rs ss
seat_differs p i rs [] s within there same apart = absurd (omega (arith, within))
seat_differs p zero rs (x ∷ xs) s within there same apart = inl (subst (λ (t : SeatValue). DifferAt p (calls_of t.number rs) t.calls) there apart)
seat_differs p (suc i) rs (x ∷ xs) s within there same apart =
    let less : i < length xs = omega (arith, within) in
    inr (same 0 x (omega arith), seat_differs p i rs xs s less there (λ k d front. same (suc k) d (omega (arith, front))) apart)

-- a record of no seat, after records of seats
pub stranger_at : (p at i : ℕ) (ss : List SeatValue) (rs : List Record) (r : Record) → i < length rs → r ≡ get_or rs i r → All (λ q. IsOneOf q.seat (λ s. s.number) ss) (take i rs)
    → All (λ s. s.number ≢ r.seat) ss → p ≡ i + at → FirstUnseated p at ss rs
stranger_at p at i ss [] r within there known none e = absurd (omega (arith, within))
stranger_at p at zero ss (x ∷ xs) r within there known none e = inl (subst (λ (q : Record). All (λ s. s.number ≢ q.seat) ss) there none, omega (arith, e))
stranger_at p at (suc i) ss (x ∷ xs) r within there known none e =
    let less : i < length xs = omega (arith, within) in
    let moved : p ≡ i + suc at = omega (arith, e) in
    inr (known 0 x (omega arith), stranger_at p (suc at) i ss xs r less there (λ k d front. known (suc k) d (omega (arith, front))) none moved)
