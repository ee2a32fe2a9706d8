-- The journal of the least node, found by a linear search.
use Rattle.std.proofs.Common.{◌≡◌, ℕ, zero, suc, ◌+◌, ◌<◌, ◌≤◌, Bool, true, false, true≢false, inl, inr, List, [], ◌∷◌, Option, Some, None, length, refl, sym, ap, subst, ◌∙◌, arith, below_more}
use Rattle.dac_weave.specs.laws.Common.{MatchOption, IsTrue, slice_get_within, JournalValue, At, IsFirst}
use Rattle.std.specs.Prelude.{◌↔◌}
use Rattle.dac_weave.specs.Names.{IsLesser}

same_journal : (a b : JournalValue) → Some a ≡ Some b → a ≡ b
same_journal a b e = cc

pub one_at : (js : List JournalValue) (i : ℕ) (a b : JournalValue) → At js i a → At js i b → a ≡ b
one_at js i a b p q = same_journal a b (sym p ∙ q)

module _ (js : List JournalValue) (among : ℕ → JournalValue → Type 0) where
  -- k is the journal of the least node among those before i
  pub record FirstBefore (i k : ℕ) : Type 0 where
    pub journal : JournalValue
    pub there : At js k journal
    pub below : k < i
    pub is : among k journal
    pub least : (m : ℕ) → m < i → (b : JournalValue) → At js m b → among m b → journal.beginning.node.0 ≤ b.beginning.node.0

  abbrev pub SoFar : ℕ → Option ℕ → Type 0
  SoFar i least = MatchOption least ((m : ℕ) → m < i → (b : JournalValue) → At js m b → among m b → ⊥) (FirstBefore i)

  pub skipped : (i : ℕ) (least : Option ℕ) → SoFar i least → ((b : JournalValue) → At js i b → among i b → ⊥) → SoFar (i + 1) least
  skipped i None h not = below_more (λ m. (b : JournalValue) → At js m b → among m b → ⊥) i h not
  skipped i (Some k) h not = record {
    journal = h.journal;
    there = h.there;
    below = later h.below;
    is = h.is;
    least = below_more (λ m. (b : JournalValue) → At js m b → among m b → h.journal.beginning.node.0 ≤ b.beginning.node.0) i h.least (λ b at is. absurd (not b at is));
  }
    where
      later : k < i → k < i + 1
      later lt = omega arith

  taken_first : (i : ℕ) (j : JournalValue) → At js i j → among i j → ((m : ℕ) → m < i → (b : JournalValue) → At js m b → among m b → j.beginning.node.0 ≤ b.beginning.node.0) → FirstBefore (i + 1) i
  taken_first i j at is least = record {
    journal = j;
    there = at;
    below = omega arith;
    is = is;
    least = below_more (λ m. (b : JournalValue) → At js m b → among m b → j.beginning.node.0 ≤ b.beginning.node.0) i least (λ b there _. same_name b (one_at js i j b at there));
  }
    where
      same_name : (b : JournalValue) → j ≡ b → j.beginning.node.0 ≤ b.beginning.node.0
      same_name b e = let n : j.beginning.node.0 ≡ b.beginning.node.0 = ap (λ (x : JournalValue). x.beginning.node.0) e in omega arith

  pub found : (i : ℕ) (least : Option ℕ) (r : ℕ) (j : JournalValue) → At js i j → among i j → SoFar i least → MatchOption least (r ≡ i) (λ k. IsLesser js k i r) → SoFar (i + 1) (Some r)
  found i None r j at is h same = subst (FirstBefore (i + 1)) (sym same) (taken_first i j at is (λ m lt b there has. absurd (h m lt b there has)))
  found i (Some k) r j at is h lesser = elim (lesser.cases h.journal j h.there at) [
    | inl old ↦ subst (FirstBefore (i + 1)) (sym old.0) (kept old.1)
    | inr new ↦ subst (FirstBefore (i + 1)) (sym new.0) (taken_first i j at is (λ m lt b there has. below (h.least m lt b there has) new.1))
  ]
    where
      below : {a b c : ℕ} → a ≤ b → c < a → c ≤ b
      below p q = omega arith

      kept : h.journal.beginning.node.0 ≤ j.beginning.node.0 → FirstBefore (i + 1) k
      kept le = record {
        journal = h.journal;
        there = h.there;
        below = later h.below;
        is = h.is;
        least = below_more (λ m. (b : JournalValue) → At js m b → among m b → h.journal.beginning.node.0 ≤ b.beginning.node.0) i h.least (λ b there _. same_name b (one_at js i j b at there) le);
      }
        where
          later : k < i → k < i + 1
          later lt = omega arith

          same_name : (b : JournalValue) → j ≡ b → h.journal.beginning.node.0 ≤ j.beginning.node.0 → h.journal.beginning.node.0 ≤ b.beginning.node.0
          same_name b e le = let n : j.beginning.node.0 ≡ b.beginning.node.0 = ap (λ (x : JournalValue). x.beginning.node.0) e in omega arith

  pub first_of : (i : ℕ) (least : Option ℕ) → length js ≤ i → SoFar i least → MatchOption least ((k : ℕ) (b : JournalValue) → At js k b → among k b → ⊥) (λ k. (j : JournalValue) × IsFirst js among k j)
  first_of i None long h = λ k b at is. h k (below k b at) b at is
    where
      below : (k : ℕ) (b : JournalValue) → At js k b → k < i
      below k b at = let lt = slice_get_within js k b at in omega arith
  first_of i (Some k) long h = (h.journal, record { there = h.there; is = h.is; least = λ m b at is. h.least m (below m b at) b at is })
    where
      below : (k : ℕ) (b : JournalValue) → At js k b → k < i
      below k b at = let lt = slice_get_within js k b at in omega arith

pub journal_there : (js : List JournalValue) (i : ℕ) → i < length js → (j : JournalValue) × At js i j
journal_there [] i lt = absurd (omega arith)
journal_there (j ∷ js) zero lt = (j, refl)
journal_there (j ∷ js) (suc i) lt = journal_there js i (less lt)
  where
    less : suc i < suc (length js) → i < length js
    less lt = omega arith

-- ---- testing each journal
module _ (js : List JournalValue) (among : ℕ → JournalValue → Type 0) (i : ℕ) (least : Option ℕ) (lt : i < length js) (h : SoFar js among i least) (test : Bool) (tests : (j : JournalValue) → At js i j → IsTrue test ↔ among i j) where
  pub passed : test ≡ true → (r : ℕ) → MatchOption least (r ≡ i) (λ k. IsLesser js k i r) → SoFar js among (i + 1) (Some r)
  passed e r lesser = let j = journal_there js i lt in found js among i least r j.0 j.1 ((tests j.0 j.1).0 e) h lesser

  pub failed : test ≡ false → SoFar js among (i + 1) least
  failed e = skipped js among i least h (λ b at is. true≢false (sym ((tests b at).1 is) ∙ e))
