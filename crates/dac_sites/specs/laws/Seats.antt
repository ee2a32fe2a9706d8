-- A seat at a place is one of the seats.
use Rattle.std.proofs.Common.{◌≡◌, ℕ, zero, suc, ◌<◌, List, [], ◌∷◌, length, get_or, inl, inr, ap, sym, ◌∙◌, arith}
use Rattle.dac_sites.specs.laws.Common.{IsOneOf}

at_one : {S : Type 0} (n : ℕ) (number : S → ℕ) (ss : List S) (k : ℕ) (d : S) → k < length ss → number (get_or ss k d) ≡ n → IsOneOf n number ss
at_one n number [] k d within same = absurd (omega (arith, within))
at_one n number (s ∷ ss) zero d within same = inl same
at_one n number (s ∷ ss) (suc k) d within same = let less : k < length ss = omega (arith, within) in inr (at_one n number ss k d less same)

pub one_of : {S : Type 0} (n : ℕ) (number : S → ℕ) (ss : List S) (k : ℕ) (s : S) → k < length ss → s ≡ get_or ss k s → number s ≡ n → IsOneOf n number ss
one_of n number ss k s within there same = at_one n number ss k s within (ap number (sym there) ∙ same)
