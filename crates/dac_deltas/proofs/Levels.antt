-- Multiples of powers of two.
use Rattle.std.specs.Prelude.{◌≡◌, ℕ, ◌+◌, ◌-◌, ◌*◌, ◌/◌, ◌%◌, ◌≤◌, ◌<◌, ◌^◌}
use Rattle.std.proofs.Common.{arith, sym, ap, ◌∙◌, add-one, zero, suc, ◌⊎◌, inl, inr, refl, true, false, leb}
use Rattle.std.proofs.lemmas.Bool.{leb-true, leb-false}
use Rattle.dac_deltas.specs.Blocks.{IsLongest}
use Rattle.dac_deltas.specs.declared.blocks.TheConstants.{MOST_LEVEL}
use Rattle.std.proofs.Math.Nat.{pow-le-pow_right, two-pow-succ, zero-mod, add-mod_right, mul-mod_left, mod-add-div'}
use Rattle.std.proofs.lemmas.Nat.{pow_pos, one_shl}
use Rattle.std.proofs.Math.Pow.{mod-mod-pow}

-- the next power is twice this one
pub next_power : (k : ℕ) → 2 ^ (k + 1) ≡ 2 ^ k + 2 ^ k
next_power k = rw add-one (two-pow-succ k)

-- a multiple of a power is a multiple of each lesser one
pub aligned_below : (x j k : ℕ) → j ≤ k → x % 2 ^ k ≡ 0 → x % 2 ^ j ≡ 0
aligned_below x j k h p =
    let to : (k - j) + j ≡ k = omega arith in
    sym (mod-mod-pow x (k - j) j) ∙ (ap (λ n. x % 2 ^ n % 2 ^ j) to ∙ (ap (λ n. n % 2 ^ j) p ∙ zero-mod (2 ^ j)))

-- one block further
pub aligned_after : (x k : ℕ) → x % 2 ^ k ≡ 0 → (x + 2 ^ k) % 2 ^ k ≡ 0
aligned_after x k p = add-mod_right x (2 ^ k) ∙ p

-- a multiple of p is a multiple of 2 p, or one more p makes it one
one_more : (r h p x : ℕ) → r < 2 → (r + h * 2) * p ≡ x → (x % (p + p) ≡ 0) ⊎ ((x + p) % (p + p) ≡ 0)
one_more zero h p x low is =
    let to : x ≡ h * (p + p) = omega arith in
    inl (ap (λ n. n % (p + p)) to ∙ mul-mod_left h (p + p))
one_more (suc zero) h p x low is =
    let to : x + p ≡ (h + 1) * (p + p) = omega arith in
    inr (ap (λ n. n % (p + p)) to ∙ mul-mod_left (h + 1) (p + p))
one_more (suc (suc r)) h p x low is = absurd (omega arith)

pub aligned_more : (x k : ℕ) → x % 2 ^ k ≡ 0 → (x % 2 ^ (k + 1) ≡ 0) ⊎ ((x + 2 ^ k) % 2 ^ (k + 1) ≡ 0)
aligned_more x k p =
    let q = x / 2 ^ k in
    let whole = mod-add-div' x (2 ^ k) in
    let half = mod-add-div' q 2 in
    let is : (q % 2 + q / 2 * 2) * 2 ^ k ≡ x = ap (λ n. n * 2 ^ k) half ∙ omega arith in
    rw next_power (one_more (q % 2) (q / 2) (2 ^ k) x (omega arith) is)

-- a level at which a block fits, while no block of the next level does, is that of the longest block
pub longest_level : (number most level : ℕ) → level ≤ MOST_LEVEL → number % 2 ^ level ≡ 0 → 2 ^ level ≤ most → (level < MOST_LEVEL → number % 2 ^ (level + 1) ≡ 0 → 2 ^ (level + 1) ≤ most → ⊥) → IsLongest number most level
longest_level number most level small at fits none = record {
  small = small;
  aligned = at;
  fits = fits;
  longest = λ k few p q. elim (leb k level) as (λ b. leb k level ≡ b → k ≤ level) [
    | true ↦ λ e. leb-true k level e
    | false ↦ λ e.
        let above = leb-false k level e in
        let up = pow-le-pow_right {n = 2} (omega arith) {i = level + 1} {j = k} (omega arith) in
        absurd (none (omega arith) (aligned_below number (level + 1) k (omega arith) p) (omega arith))
  ] refl;
}

-- if the level is below that of the longest block, a block of the next level fits
pub record Fits (number most level : ℕ) : Type 0 where
  pub low : level < MOST_LEVEL
  pub aligned : number % 2 ^ (level + 1) ≡ 0
  pub fits : 2 ^ (level + 1) ≤ most
  pub twice : 2 ^ (level + 1) ≡ 2 ^ level + 2 ^ level
  pub positive : 0 < 2 ^ level
  pub shifted : 1 * 2 ^ level % 2 ^ 64 ≡ 2 ^ level

pub below_longest : (number most level n : ℕ) → IsLongest number most level → n < level → Fits number most n
below_longest number most level n top less =
    let small = top.small in
    let fits = top.fits in
    let up = pow-le-pow_right {n = 2} (omega arith) {i = n + 1} {j = level} (omega arith) in
    record {
      low = omega arith;
      aligned = aligned_below number (n + 1) level (omega arith) top.aligned;
      fits = omega arith;
      twice = next_power n;
      positive = pow_pos n;
      shifted = one_shl n 64 (omega arith);
    }
