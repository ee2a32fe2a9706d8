-- The codec of start wishes by key, as the lists that are read.
use Rattle.std.specs.Prelude.{◌≡◌, ℕ, ◌-◌, ◌^◌, ◌<◌, ◌≤◌, List, ◌++◌, length, map as list_map, Option, refl}
use Rattle.std.specs.FinSet as set
use Rattle.std.proofs.Common.{sym, ap, subst, ◌∙◌, arith, append_assoc}
use Rattle.dac_part_bytes.proofs.Common.{flat_map, AllByRecursion, w32, Dot, Dots, dot_cmp, dots_total, exact_dots, IsRising, in_order, in_order-one, in_order-same, Key, key_cmp, keys_total, Table, node_count, app_count, u32_bytes, number_at, dot_bytes, TakesAs, Again, TakesAs-both, Again-both, IsNext, key_above_at, some_at, known_dot_at, keyed_dots_at, key_bytes, keyed_dots_bytes, IsKey, IsKeyAbove, IsKnownDot, Version}
use Rattle.dac_bytes.specs.laws.Fields.{u32_takes, u32_again, u32_in_takes, u32_in_again}
use Rattle.std.proofs.lemmas.List.{map-id}
use Rattle.dac_bytes.specs.laws.Ascending.{counted_takes, counted_again}
use Rattle.dac_part_bytes.specs.Reading.{dots_of_key_at, starts_by_key_at}
use Rattle.dac_part_bytes.proofs.KeyFields.{key_takes, key_again, known_dot_takes, known_dot_again}

-- at least one, and a number that fits its field
abbrev pub IsSome : ℕ → Type 0
IsSome n = (1 ≤ n) × (n ≤ 2 ^ 32 - 1)

-- the dots of a key: at least one, known, and ascending
abbrev pub AreDotsOfKey : Version → Table → Dots → List Dot → Type 0
AreDotsOfKey version t known ds = IsSome (length ds) × AllByRecursion (IsKnownDot version t known) ds × IsRising dot_cmp (list_map (λ (d : Dot). d) ds)

abbrev pub IsKeyedDots : Version → Table → Dots → Key × Dots → Type 0
IsKeyedDots version t known e = IsKey version t e.0 × AreDotsOfKey version t known (in_order e.1)

-- ascending keys, each with its dots
abbrev pub AreStartsByKey : Version → Table → Dots → List (Key × Dots) → Type 0
AreStartsByKey version t known m = (length m < 2 ^ 32) × AllByRecursion (IsKeyedDots version t known) m × IsRising key_cmp (list_map (λ (e : Key × Dots). e.0) m)

abbrev dots_of_key_bytes : Version → List Dot → List ℕ
dots_of_key_bytes version ds = u32_bytes (length ds) ++ flat_map (dot_bytes version) ds

abbrev keyed_starts_bytes : Version → Key × Dots → List ℕ
keyed_starts_bytes version e = keyed_dots_bytes version (e.0, in_order e.1)

abbrev pub starts_list_bytes : Version → List (Key × Dots) → List ℕ
starts_list_bytes version m = u32_bytes (length m) ++ flat_map (keyed_starts_bytes version) m

dots_regroup : (version : Version) (key : Key) (ds : List Dot) → key_bytes version key ++ dots_of_key_bytes version ds ≡ keyed_dots_bytes version (key, ds)
unfolding keyed_dots_bytes
dots_regroup version key ds = sym (append_assoc (key_bytes version key) (u32_bytes (length ds)) (flat_map (dot_bytes version) ds))

-- ascending dots are those of their set, in order
pub dots_again : (ds : List Dot) → IsRising dot_cmp (list_map (λ (d : Dot). d) ds) → ds ≡ in_order (set.from_list {R = dot_cmp} ds)
dots_again ds rising = in_order-one dots_total exact_dots (set.from_list ds) ds (subst (λ (ds : List Dot). IsRising dot_cmp ds) (map-id ds) rising) refl

module _ (version : Version) (t : Table) (known : Dots) where
  abbrev nodes : ℕ
  nodes = node_count t

  dots_of_key_takes : TakesAs (dots_of_key_at version nodes known) (dots_of_key_bytes version) (AreDotsOfKey version t known)
  unfolding dots_of_key_at
  dots_of_key_takes =
      counted_takes dots_total (λ (d : Dot). d) (IsKnownDot version t known) (known_dot_at version nodes known) some_at u32_bytes (dot_bytes version) IsSome
      (u32_in_takes 1 (2 ^ 32 - 1)) (known_dot_takes version t known)

  abbrev IsDotsAbove : Option Key → Key × Dots → Type 0
  IsDotsAbove = IsNext key_cmp (λ (e : Key × Dots). e.0) (IsKeyedDots version t known)

  keyed_dots_takes : (before : Option Key) → TakesAs (keyed_dots_at version t known before) (keyed_starts_bytes version) (IsDotsAbove before)
  unfolding keyed_dots_at
  keyed_dots_takes before =
      TakesAs-both (key_above_at version t before) (key_bytes version) (IsKeyAbove version t before) (λ _ r. dots_of_key_at version nodes known r) (λ _. dots_of_key_bytes version) (λ _ ds. AreDotsOfKey version t known ds)
      (λ key ds. (key, set.from_list ds)) (keyed_starts_bytes version) (IsDotsAbove before)
      (key_takes version t before) (λ _ _. dots_of_key_takes) (λ key ds p q.
      let same = dots_again ds q.2 in
      (dots_regroup version key ds ∙ ap (λ (ds : List Dot). keyed_dots_bytes version (key, ds)) same, ((p.0, subst (AreDotsOfKey version t known) same q), p.1)))

  pub starts_list_takes : TakesAs (starts_by_key_at version t known) (starts_list_bytes version) (AreStartsByKey version t known)
  unfolding starts_by_key_at
  starts_list_takes =
      counted_takes keys_total (λ (e : Key × Dots). e.0) (IsKeyedDots version t known) (keyed_dots_at version t known) (number_at w32) u32_bytes (keyed_starts_bytes version) (λ n. n < 2 ^ 32)
      u32_takes keyed_dots_takes

  -- node numbers fit one byte, and application numbers two
  module _ (few_nodes : node_count t ≤ 2 ^ 8) (few_apps : app_count t ≤ 2 ^ 16) where
    some_again : (n : ℕ) → IsSome n → Again some_at (u32_bytes n) n
    some_again n is = u32_in_again 1 (2 ^ 32 - 1) (omega arith) n is.0 is.1

    dots_of_key_again : (ds : List Dot) → AreDotsOfKey version t known ds → Again (dots_of_key_at version nodes known) (dots_of_key_bytes version ds) ds
    unfolding dots_of_key_at
    dots_of_key_again ds is =
        counted_again dots_total (λ (d : Dot). d) (IsKnownDot version t known) (known_dot_at version nodes known) some_at u32_bytes (dot_bytes version) IsSome ds
        (some_again (length ds) is.0) (known_dot_again version t known few_nodes) is.1 is.2

    keyed_dots_again : (before : Option Key) (e : Key × Dots) → IsDotsAbove before e → Again (keyed_dots_at version t known before) (keyed_starts_bytes version e) e
    unfolding keyed_dots_at
    keyed_dots_again before e is =
        let ds = in_order e.1 in
        let read : Again (keyed_dots_at version t known before) (key_bytes version e.0 ++ dots_of_key_bytes version ds) (e.0, set.from_list ds) =
        Again-both (key_above_at version t before) (λ _ r. dots_of_key_at version nodes known r) (λ key ds. (key, set.from_list ds)) (key_bytes version e.0) (dots_of_key_bytes version ds) e.0 ds
        (key_again version t few_nodes few_apps before e.0 (is.0.0, is.1)) (dots_of_key_again ds is.0.1) in
        let spelled = subst (λ (text : List ℕ). Again (keyed_dots_at version t known before) text (e.0, set.from_list ds)) (dots_regroup version e.0 ds) read in
        subst (λ (s : Dots). Again (keyed_dots_at version t known before) (keyed_starts_bytes version e) (e.0, s)) (in_order-same dots_total exact_dots e.1) spelled

    pub starts_list_again : (m : List (Key × Dots)) → AreStartsByKey version t known m → Again (starts_by_key_at version t known) (starts_list_bytes version m) m
    unfolding starts_by_key_at
    starts_list_again m is =
        counted_again keys_total (λ (e : Key × Dots). e.0) (IsKeyedDots version t known) (keyed_dots_at version t known) (number_at w32) u32_bytes (keyed_starts_bytes version) (λ n. n < 2 ^ 32) m
        (u32_again (length m) is.0) keyed_dots_again is.1 is.2
