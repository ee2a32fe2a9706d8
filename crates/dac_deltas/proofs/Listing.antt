-- Listing blocks, one after another.
use Rattle.std.specs.Prelude.{◌≡◌, ℕ, ◌+◌, ◌-◌, ◌*◌, ◌%◌, ◌≤◌, ◌<◌, ◌^◌, List, [], ◌∷◌, ◌++◌}
use Rattle.std.proofs.Common.{arith, sym, ap, subst, ◌∙◌, append_assoc}
use Rattle.std.proofs.lemmas.List.{append-nil}
use Rattle.std.proofs.lemmas.Nat.{one_shl}
use Rattle.dac_deltas.specs.Blocks.{IsLongest, AreBlocks}

-- the blocks from a to the number are listed
pub record IsListing (a count number : ℕ) (bs : List (ℕ × ℕ)) : Type 0 where
  pub from : a ≤ number
  pub to : number ≤ count
  pub all : (rest : List (ℕ × ℕ)) → AreBlocks number count rest → AreBlocks a count (bs ++ rest)

-- the end of a block that begins before the count
pub block_end : (count number level : ℕ) → number < count → IsLongest number (count - number) level → (number + 1 * 2 ^ level % 2 ^ 64 ≡ number + 2 ^ level) × (number + 2 ^ level ≤ count)
block_end count number level before top =
    let small = top.small in
    let fits = top.fits in
    let shifted = one_shl level 64 (omega arith) in
    (omega arith, omega arith)

-- one more block
pub listing_one : (a count number end level : ℕ) (bs bs' : List (ℕ × ℕ)) → number < count → IsLongest number (count - number) level → end ≡ number + 1 * 2 ^ level % 2 ^ 64 → bs' ≡ bs ++ (number, end) ∷ [] → IsListing a count number bs → IsListing a count end bs'
listing_one a count number end level bs bs' before top is pushed h =
    let ends = block_end count number level before top in
    let from = h.from in
    let end' : end ≡ number + 2 ^ level = omega arith in
    record {
      from = omega arith;
      to = omega arith;
      all = λ rest w. subst (AreBlocks a count) (sym (ap (λ xs. xs ++ rest) pushed ∙ append_assoc bs ((number, end) ∷ []) rest)) (h.all ((number, end) ∷ rest) ((level, top, ap (λ n. (number, n)) end'), w));
    }

-- at the end all blocks are listed
pub listing_all : (a count number : ℕ) (bs : List (ℕ × ℕ)) → count ≤ number → IsListing a count number bs → AreBlocks a count bs
listing_all a count number bs done h = let to = h.to in subst (AreBlocks a count) (append-nil bs) (h.all [] (omega arith))
