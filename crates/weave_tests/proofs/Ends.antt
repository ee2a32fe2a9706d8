-- The ends of two phases.
use Rattle.std.proofs.Common.{◌≡◌, ℕ, suc, ◌+◌, ◌<◌, ◌≤◌, List, [], ◌∷◌, ◌++◌, length, take, get_or, sym, ap, subst, ◌∙◌, arith}
use Rattle.std.proofs.lemmas.List.{length-map, map_push, take_more}
use Rattle.std.proofs.lemmas.List.Elements.{length_all_zip, AllZip-push}
use Rattle.std.specs.List.{AllZip}
use Rattle.dac_journal.specs.Journals.{JournalValue}
use Rattle.dac_weave.specs.Cut.{no_ends, lengths_of, AreEnds}

none_first : (js : List JournalValue) (row : List ℕ) → length row ≡ length js → AllZip (λ (m n : ℕ). m ≤ n) (no_ends js) row
none_first [] [] e = tt
none_first [] (n ∷ row) e = absurd (omega (arith, e))
none_first (j ∷ js) [] e = absurd (omega (arith, e))
none_first (j ∷ js) (n ∷ row) e = (omega arith, none_first js row (less e))
  where
    less : suc (length row) ≡ suc (length js) → length row ≡ length js
    less e = omega (arith, e)

-- the second phase ends at the journals' lengths
pub two_ends : (js : List JournalValue) (early whole : List ℕ) → AllZip (λ (m n : ℕ). m ≤ n) early whole → whole ≡ lengths_of js → AreEnds js (early ∷ whole ∷ [])
two_ends js early whole below is = record {
  some = omega arith;
  rise = (none_first js early long, (below, is));
}
  where
    long : length early ≡ length js
    long = length_all_zip (λ (m n : ℕ). m ≤ n) early whole below ∙ subst (λ (row : List ℕ). length row ≡ length js) (sym is) (length-map js (λ (j : JournalValue). length j.records))

-- ---- one more journal
pub more_below : (early whole early_more whole_more : List ℕ) (end count : ℕ) → AllZip (λ (m n : ℕ). m ≤ n) early whole → end ≤ count → early_more ≡ early ++ end ∷ [] → whole_more ≡ whole ++ count ∷ [] → AllZip (λ (m n : ℕ). m ≤ n) early_more whole_more
more_below early whole early_more whole_more end count below le early_is whole_is =
    subst (λ (row : List ℕ). AllZip (λ (m n : ℕ). m ≤ n) row whole_more) (sym early_is)
    (subst (λ (row : List ℕ). AllZip (λ (m n : ℕ). m ≤ n) (early ++ end ∷ []) row) (sym whole_is) (AllZip-push (λ (m n : ℕ). m ≤ n) early whole end count below le))

pub more_lengths : (js : List JournalValue) (i : ℕ) (j : JournalValue) (whole more : List ℕ) (count : ℕ) → whole ≡ lengths_of (take i js) → i < length js → j ≡ get_or js i j → count ≡ length j.records → more ≡ whole ++ count ∷ [] → more ≡ lengths_of (take (i + 1) js)
more_lengths js i j whole more count before lt at count_is is =
    is ∙ ap (λ (row : List ℕ). row ++ count ∷ []) before ∙ ap (λ (n : ℕ). lengths_of (take i js) ++ n ∷ []) count_is
    ∙ sym (map_push (λ (x : JournalValue). length x.records) (take i js) j)
    ∙ ap lengths_of (ap (λ (x : JournalValue). take i js ++ x ∷ []) at ∙ sym (take_more js i j lt))
