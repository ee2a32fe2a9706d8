-- Few blocks cover the stored deltas: at first each is longer than the previous one, and later each is shorter.
use Rattle.std.specs.Prelude.{◌≡◌, ℕ, ◌+◌, ◌-◌, ◌*◌, ◌%◌, ◌≤◌, ◌<◌, ◌^◌, List, [], ◌∷◌, length}
use Rattle.std.proofs.Common.{arith, sym, ap, subst, ◌∙◌, zero, suc, inl, inr, refl, true, false, leb}
use Rattle.std.proofs.Math.Nat.{pow-le-pow_right, mod-one}
use Rattle.std.proofs.lemmas.Bool.{leb-true, leb-false}
use Rattle.dac_deltas.specs.Blocks.{IsLongestBlock, AreBlocks}
use Rattle.dac_deltas.specs.declared.blocks.TheConstants.{MOST_LEVEL}
use Rattle.dac_deltas.specs.declared.buffer.TheConstants.{MAX_DELTAS}
use Rattle.dac_deltas.proofs.Levels.{next_power, aligned_below, aligned_after, aligned_more}

-- powers of two are ordered by their exponents
below_power : (i j : ℕ) → 2 ^ i < 2 ^ j → i < j
below_power i j h = elim (leb j i) as (λ b. leb j i ≡ b → i < j) [
  | true ↦ λ e. let up = pow-le-pow_right {n = 2} (omega arith) (leb-true j i e) in absurd (omega arith)
  | false ↦ λ e. leb-false j i e
] refl

-- the second block begins at the end of the first
module _ (a count : ℕ) (b : ℕ × ℕ) (w : IsLongestBlock a count b) where
  after : b.1 ≡ a + 2 ^ w.0
  after = ap (λ (p : ℕ × ℕ). p.1) w.2

-- from a multiple of 2^j on, with less than 2^j deltas left, there are at most j blocks
down : (bs : List (ℕ × ℕ)) (a count j : ℕ) → j ≤ MOST_LEVEL → a % 2 ^ j ≡ 0 → a ≤ count → count - a < 2 ^ j → AreBlocks a count bs → length bs ≤ j
down [] a count j small at in' left w = omega arith
down (b ∷ bs) a count j small at in' left w =
    let k = w.0.0 in
    let longest = w.0.1 in
    let to = after a count b w.0 in
    let fits = longest.fits in
    let lower = below_power k j (omega arith) in
    let next = aligned_below a (k + 1) j (omega arith) at in
    let twice = next_power k in
    let less : count - (a + 2 ^ k) < 2 ^ k = elim (leb (2 ^ (k + 1)) (count - a)) as (λ b. leb (2 ^ (k + 1)) (count - a) ≡ b → count - (a + 2 ^ k) < 2 ^ k) [
      | true ↦ λ e. let more = longest.longest (k + 1) (omega arith) next (leb-true _ _ e) in absurd (omega arith)
      | false ↦ λ e. let under = leb-false _ _ e in omega arith
    ] refl in
    let rest = down bs (a + 2 ^ k) count k (omega arith) (aligned_after a k (longest.aligned)) (omega arith) less (subst (λ n. AreBlocks n count bs) to w.1) in
    omega arith

-- from a multiple of 2^j on, with at most 256 deltas left, there are at most MOST_LEVEL blocks besides the growing ones
up : (f : ℕ) (bs : List (ℕ × ℕ)) (a count j : ℕ) → j + f ≡ MOST_LEVEL → a % 2 ^ j ≡ 0 → a ≤ count → count - a ≤ MAX_DELTAS → AreBlocks a count bs → length bs ≤ f + MOST_LEVEL
up f [] a count j small at in' left w = omega arith
up zero (b ∷ bs) a count j small at in' left w = elim (leb MAX_DELTAS (count - a)) as (λ t. leb MAX_DELTAS (count - a) ≡ t → length (b ∷ bs) ≤ MOST_LEVEL) [
  | true ↦ λ e.
      let all = leb-true _ _ e in
      let last : j ≡ MOST_LEVEL = omega arith in
      let aligned : a % 2 ^ MOST_LEVEL ≡ 0 = subst (λ n. a % 2 ^ n ≡ 0) last at in
      let longest = w.0.1 in
      let top = longest.longest MOST_LEVEL (omega arith) aligned (omega arith) in
      let bound = longest.small in
      let is : w.0.0 ≡ MOST_LEVEL = omega arith in
      let to = after a count b w.0 ∙ ap (λ n. a + 2 ^ n) is in
      let rest = down bs b.1 count 0 (omega arith) (mod-one b.1) (omega arith) (omega arith) w.1 in
      omega arith
  | false ↦ λ e.
      let few = leb-false _ _ e in
      let last : j ≡ MOST_LEVEL = omega arith in
      down (b ∷ bs) a count MOST_LEVEL (omega arith) (subst (λ n. a % 2 ^ n ≡ 0) last at) in' (omega arith) w
] refl
up (suc f) (b ∷ bs) a count j small at in' left w =
    let k = w.0.0 in
    let longest = w.0.1 in
    let fits = longest.fits in
    let to = after a count b w.0 in
    let more : a % 2 ^ (j + 1) ≡ 0 → length (b ∷ bs) ≤ suc f + MOST_LEVEL = λ p. let rest = up f (b ∷ bs) a count (j + 1) (omega arith) p in' left w in omega arith in
    let one : (a + 2 ^ j) % 2 ^ (j + 1) ≡ 0 → k ≡ j → length (b ∷ bs) ≤ suc f + MOST_LEVEL = λ p is.
    let to' : b.1 ≡ a + 2 ^ j = to ∙ ap (λ n. a + 2 ^ n) is in
    let same = ap (λ n. 2 ^ n) is in
    let rest = up f bs b.1 count (j + 1) (omega arith) (subst (λ n. n % 2 ^ (j + 1) ≡ 0) (sym to') p) (omega arith) (omega arith) w.1 in
    omega arith
    in
    elim (leb (2 ^ j) (count - a)) as (λ t. leb (2 ^ j) (count - a) ≡ t → length (b ∷ bs) ≤ suc f + MOST_LEVEL) [
      | true ↦ λ e.
          let least = longest.longest j (omega arith) at (leb-true _ _ e) in
          elim (leb (j + 1) k) as (λ t. leb (j + 1) k ≡ t → length (b ∷ bs) ≤ suc f + MOST_LEVEL) [
            | true ↦ λ e. more (aligned_below a (j + 1) k (leb-true _ _ e) (longest.aligned))
            | false ↦ λ e. let above = leb-false _ _ e in elim (aligned_more a j at) [ inl p ↦ more p | inr p ↦ one p (omega arith) ]
          ] refl
      | false ↦ λ e. let under = leb-false _ _ e in let rest = down (b ∷ bs) a count j (omega arith) at in' (omega arith) w in omega arith
    ] refl

-- the blocks of at most 256 deltas are at most two for each level but the lowest
pub few_blocks : (bs : List (ℕ × ℕ)) (a count : ℕ) → a ≤ count → count - a ≤ MAX_DELTAS → AreBlocks a count bs → length bs ≤ 2 * MOST_LEVEL
few_blocks bs a count in' left w = up MOST_LEVEL bs a count 0 (omega arith) (mod-one a) in' left w
