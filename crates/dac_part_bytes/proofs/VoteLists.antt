-- The codec of votes by key, as the lists that are read.
use Rattle.std.specs.Prelude.{◌≡◌, ℕ, ◌-◌, ◌^◌, ◌<◌, ◌≤◌, List, ◌++◌, length, map as list_map, Option, refl}
use Rattle.std.proofs.Common.{ap, arith}
use Rattle.dac_part_bytes.proofs.Common.{zero, suc, Ordering, IsTotalOrder, flat_map, AllByRecursion, w8, w32, Dot, Dots, dot_cmp, dots_total, IsRising, Flag, Up, Down, DotFlags, Table, node_count, u8_bytes, u32_bytes, Rest, Field, number_at, range_at, is_above, dot_bytes, Version, IsNext, u8_in_takes, u8_in_again, IsKnownDot, known_dot_at, some_at, vote_at, votes_of_key_at, keyed_votes_bytes}
use Rattle.dac_bytes.specs.Takes.{IsCodec, Passes}
use Rattle.dac_bytes.specs.laws.Ascending.{counted_codec}
use Rattle.dac_bytes.specs.laws.Codecs.{codec_both}
use Rattle.dac_bytes.specs.laws.Fields.{u32_takes, u32_again, u32_in_takes, u32_in_again}
use Rattle.dac_part_bytes.specs.Reading.{flag_of_code, keyed_votes_at, votes_by_key_at}
use Rattle.dac_part_bytes.specs.Spelling.{code_of_flag, vote_bytes, votes_of_key_bytes}
use Rattle.dac_part_bytes.proofs.KeyFields.{IsDotAbove, known_dot_takes, known_dot_again}

-- ---- the value of a vote

code_again : (truth : Flag) (n : ℕ) → n ≤ 1 → n ≡ code_of_flag truth (flag_of_code truth n)
code_again Up zero h = refl
code_again Up (suc zero) h = refl
code_again Up (suc (suc n)) h = absurd (omega arith)
code_again Down zero h = refl
code_again Down (suc zero) h = refl
code_again Down (suc (suc n)) h = absurd (omega arith)

flag_again : (truth flag : Flag) → flag_of_code truth (code_of_flag truth flag) ≡ flag
flag_again Up Up = refl
flag_again Up Down = refl
flag_again Down Up = refl
flag_again Down Down = refl

code_small : (truth flag : Flag) → (0 ≤ code_of_flag truth flag) × (code_of_flag truth flag ≤ 1)
code_small Up Up = (omega arith, omega arith)
code_small Up Down = (omega arith, omega arith)
code_small Down Up = (omega arith, omega arith)
code_small Down Down = (omega arith, omega arith)

-- ---- the votes of a key

-- at least one, and a number that fits its field
abbrev IsSome : ℕ → Type 0
IsSome n = (1 ≤ n) × (n ≤ 2 ^ 32 - 1)

abbrev dot_of : Dot × Flag → Dot
dot_of p = p.0

-- the votes of a key: at least one, with known ascending dots
abbrev pub AreVotesOfKey : Version → Table → Dots → DotFlags → Type 0
AreVotesOfKey version t known ps = IsSome (length ps) × AllByRecursion (λ (p : Dot × Flag). IsKnownDot version t known p.0) ps × IsRising dot_cmp (list_map (λ (p : Dot × Flag). p.0) ps)

abbrev pub IsKeyedVotes : {K : Type 0} → (K → Type 0) → Version → Table → Dots → K × DotFlags → Type 0
IsKeyedVotes IsKeyOf version t known e = IsKeyOf e.0 × AreVotesOfKey version t known e.1

-- ascending keys, each with its votes
abbrev pub AreVotesByKey : {K : Type 0} → (K → K → Ordering) → (K → Type 0) → Version → Table → Dots → List (K × DotFlags) → Type 0
AreVotesByKey {K = K} R IsKeyOf version t known m = (length m < 2 ^ 32) × AllByRecursion (IsKeyedVotes IsKeyOf version t known) m × IsRising R (list_map (λ (e : K × DotFlags). e.0) m)

-- the number of keys with votes, and the votes of each
abbrev pub votes_list_bytes : {K : Type 0} → (K → List ℕ) → Version → Flag → List (K × DotFlags) → List ℕ
votes_list_bytes key_text version truth m = u32_bytes (length m) ++ flat_map (keyed_votes_bytes key_text version truth) m

module _ (version : Version) (t : Table) (known : Dots) (truth : Flag) (few_nodes : node_count t ≤ 2 ^ 8) where
  abbrev nodes : ℕ
  nodes = node_count t

  -- the vote of a known dot greater than the previous one
  abbrev IsVoteAbove : Option Dot → Dot × Flag → Type 0
  IsVoteAbove = IsNext dot_cmp dot_of (λ (p : Dot × Flag). IsKnownDot version t known p.0)

  vote_codec : (before : Option Dot) → IsCodec (vote_at version nodes known truth before) (vote_bytes version truth) (IsVoteAbove before)
  unfolding vote_at vote_bytes
  vote_codec before =
      codec_both (known_dot_at version nodes known before) (dot_bytes version) (IsDotAbove version t known before)
      (record { takes = known_dot_takes version t known before; again = known_dot_again version t known few_nodes before })
      (λ _ r. range_at w8 0 1 r) (λ _. u8_bytes) (λ _ n. (0 ≤ n) × (n ≤ 1)) (λ _ _. record { takes = u8_in_takes 0 1; again = λ n is. u8_in_again 0 1 (omega arith) n is.0 is.1 })
      (λ d n. (d, flag_of_code truth n)) (vote_bytes version truth) (IsVoteAbove before)
      (λ d n is so. (ap (λ (n : ℕ). dot_bytes version d ++ u8_bytes n) (code_again truth n so.1), is))
      (λ p is. (p.0, code_of_flag truth p.1, is, code_small truth p.1, (λ i. (p.0, flag_again truth p.1 i))))

  votes_of_key_codec : IsCodec (votes_of_key_at version nodes known truth) (votes_of_key_bytes version truth) (AreVotesOfKey version t known)
  unfolding votes_of_key_at votes_of_key_bytes
  votes_of_key_codec =
      counted_codec dots_total dot_of (λ (p : Dot × Flag). IsKnownDot version t known p.0) (vote_at version nodes known truth) some_at u32_bytes (vote_bytes version truth) IsSome
      (record { takes = u32_in_takes 1 (2 ^ 32 - 1); again = λ n is. u32_in_again 1 (2 ^ 32 - 1) (omega arith) n is.0 is.1 }) vote_codec

  -- ---- by key

  module _ {K : Type 0} {R : K → K → Ordering} (total : IsTotalOrder R) (key_above : Option K → Rest → Field K) (key_text : K → List ℕ) (IsKeyOf : K → Type 0) where
    abbrev votes_at : Rest → Field DotFlags
    votes_at = votes_of_key_at version nodes known truth

    abbrev key_of : K × DotFlags → K
    key_of e = e.0

    abbrev IsKeyed : K × DotFlags → Type 0
    IsKeyed = IsKeyedVotes IsKeyOf version t known

    module _ (keys : (before : Option K) → IsCodec (key_above before) key_text (Passes IsKeyOf (is_above R before))) where
      keyed_votes_codec : (before : Option K) → IsCodec (keyed_votes_at key_above votes_at before) (keyed_votes_bytes key_text version truth) (IsNext R key_of IsKeyed before)
      unfolding keyed_votes_at keyed_votes_bytes
      keyed_votes_codec before =
          codec_both (key_above before) key_text (Passes IsKeyOf (is_above R before)) (keys before)
          (λ _. votes_at) (λ _. votes_of_key_bytes version truth) (λ _. AreVotesOfKey version t known) (λ _ _. votes_of_key_codec)
          (λ key ps. (key, ps)) (keyed_votes_bytes key_text version truth) (IsNext R key_of IsKeyed before)
          (λ key ps is so. (refl, ((is.0, so), is.1))) (λ e is. (e.0, e.1, (is.0.0, is.1), is.0.1, refl))

      pub votes_list_codec : IsCodec (votes_by_key_at key_above votes_at) (votes_list_bytes key_text version truth) (AreVotesByKey R IsKeyOf version t known)
      unfolding votes_by_key_at
      votes_list_codec =
          counted_codec total key_of IsKeyed (keyed_votes_at key_above votes_at) (number_at w32) u32_bytes (keyed_votes_bytes key_text version truth) (λ n. n < 2 ^ 32)
          (record { takes = u32_takes; again = u32_again }) keyed_votes_codec
