-- Finite maps that are read and spelled by their entries in order.
use Rattle.std.specs.Prelude.{ℕ, List, ◌++◌, length, map as list_map, Option, Ok}
use Rattle.std.proofs.Common.{ap, subst}
use Rattle.dac_part_bytes.proofs.Common.{flat_map, AllByRecursion, Ordering, IsTotalOrder, CmpEqualImpliesEq, IsRising, Rest, Field, ◌>>=◌, counted_at, TakesAs, Again, TakesAs-made, Again-made, IsNext}
use Rattle.std.specs.FinMap as map
use Rattle.dac_bytes.specs.laws.Ascending.{counted_takes, counted_again}
use Rattle.dac_part_bytes.proofs.Entries.{entries_rise, map_of_entries, entries_of_map}

module _ {K V : Type 0} {R : K → K → Ordering} (o : IsTotalOrder R) (exact : CmpEqualImpliesEq R) (Q : K × V → Type 0) where
  module _ (item : Option K → Rest → Field (K × V)) (count : Rest → Field ℕ) (count_text : ℕ → List ℕ) (text : K × V → List ℕ) (IsCount : ℕ → Type 0) where
    -- a count and that many ascending entries, as a map
    abbrev pub map_at : Rest → Field (map.FinMap R V)
    map_at r = counted_at count item (λ (e : K × V). e.0) r >>= λ es. Ok (map.from_entries es.0, es.1)

    -- the number of entries, and these
    abbrev pub entries_bytes : List (K × V) → List ℕ
    entries_bytes es = count_text (length es) ++ flat_map text es

    -- the count fits, and Q holds of each entry
    abbrev pub AreEntries : List (K × V) → Type 0
    AreEntries es = IsCount (length es) × AllByRecursion Q es

    -- A map that is read has these bytes as its spelling.
    pub map_takes : TakesAs count count_text IsCount → ((before : Option K) → TakesAs (item before) text (IsNext R (λ (e : K × V). e.0) Q before))
        → TakesAs map_at (λ m. entries_bytes (map.entries m)) (λ m. AreEntries (map.entries m))
    map_takes takes_count takes =
        TakesAs-made (counted_at count item (λ (e : K × V). e.0)) entries_bytes (λ es. IsCount (length es) × AllByRecursion Q es × IsRising R (list_map (λ (e : K × V). e.0) es))
        map.from_entries (λ m. entries_bytes (map.entries m)) (λ m. AreEntries (map.entries m))
        (counted_takes o (λ (e : K × V). e.0) Q item count count_text text IsCount takes_count takes)
        (λ es is. let same = entries_of_map o exact es is.2 in (ap entries_bytes same, subst AreEntries same (is.0, is.1)))

    -- A map is read from its spelling.
    pub map_again : (m : map.FinMap R V) → Again count (count_text (length (map.entries m))) (length (map.entries m))
        → ((before : Option K) (e : K × V) → IsNext R (λ (e : K × V). e.0) Q before e → Again (item before) (text e) e) → AllByRecursion Q (map.entries m) → Again map_at (entries_bytes (map.entries m)) m
    map_again m again_count again all =
        let es = map.entries m in
        subst (λ (n : map.FinMap R V). Again map_at (entries_bytes es) n) (map_of_entries o exact m)
        (Again-made (counted_at count item (λ (e : K × V). e.0)) map.from_entries (entries_bytes es) es
        (counted_again o (λ (e : K × V). e.0) Q item count count_text text IsCount es again_count again all (entries_rise o exact m)))
