use Rattle.std.proofs.Common.{◌≡◌, ℕ, bit_or, arith, below_more}
use Rattle.std.proofs.lemmas.Bool.{eqb-true, not-false}
use Rattle.std.proofs.lemmas.Nat.{le_or_l, le_or_r}
use Rattle.dac_dots.proofs.FilterLemmas.{apart_from}
use Rattle.dac_dots.proofs.filter.DotFilter.meets.Goals as goal

-- two numbers are 0 if their bitwise or is
both_zero : (n m : ℕ) → bit_or n m ≡ 0 → (n ≡ 0) × (m ≡ 0)
both_zero n m e = let left = le_or_l n m in let right = le_or_r n m in (omega arith, omega arith)

pub loop-word-preserved : goal.loop-word-preserved
loop-word-preserved c = λ none. let parts = both_zero _ _ none in below_more _ _ (c.loop-word.invariant parts.0) parts.1

pub returns : goal.returns
returns c = λ e. apart_from c.args.self.now.slots c.args.other.now.slots (λ j p. let end = c.loop-word-test.false in c.loop-word.invariant (eqb-true _ _ (not-false _ e)) j (omega (arith, p, end)))
