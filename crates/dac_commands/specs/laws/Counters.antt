-- The greatest counter of an origin in a set of dots, and the next dot.
use Rattle.std.proofs.Common.{◌≡◌, ◌↔◌, ℕ, ◌<◌, ◌≤◌, ◌+◌, ◌-◌, Bool, true, false, cond, ◌||◌, ◌⊎◌, inl, inr, List, [], ◌∷◌, Option, Some, None, refl, sym, ap, subst, ◌∙◌, arith, true≢false, max, is_eq}
use Rattle.std.specs.Prelude.{nat_le, MatchOption}
use Rattle.std.specs.Option.{is_none}
use Rattle.std.specs.List.{list_any}
use Rattle.std.specs.Ordering.{eq_by_cmp}
use Rattle.std.specs.Cmp.{Equal-is}
use Rattle.std.specs.FinSet as set
use Rattle.std.proofs.Math.Bool.{or-true}
use Rattle.std.proofs.lemmas.Cmp.{tied_itself}
use Rattle.std.proofs.lemmas.Bool.{or_cases, le-leb, leb-true, ltb-true}
use Rattle.dac_origins.specs.declared.dot.Origin.{Origin}
use Rattle.dac_origins.specs.declared.dot.Dot.{Dot}
use Rattle.dac_origins.specs.Dots.{Dots, dot, origin_cmp, IsNext, IsUsedUp}
use Rattle.dac_origins.specs.laws.Dots.{origins_total, exact_origins}
use Rattle.dac_wishes.specs.Writes.{same_dot}
use Rattle.dac_wishes.specs.laws.KeyedWrites.{same_dot_is, same_dot_itself}
use Rattle.dac_commands.specs.Commands.{greatest_among, greatest_counter}
use Rattle.std.proofs.lemmas.Bool.{false_from_ne_true}
use Rattle.dac_base.specs.declared.limits.TheConstants.{MAX_COUNTER}

abbrev counter_at : Origin → Dot → ℕ
counter_at o d = cond (eq_by_cmp origin_cmp d.origin o) d.n 0

counter-le : (o : Origin) (d : Dot) (ds : List Dot) → list_any (same_dot d) ds ≡ true → counter_at o d ≤ greatest_among o ds
counter-le o d [] h = absurd (true≢false (sym h))
counter-le o d (e ∷ ds) h =
    elim (or_cases (same_dot d e) (list_any (same_dot d) ds) h) [
      | inl t ↦ let same : counter_at o d ≡ counter_at o e = ap (counter_at o) (same_dot_is d e t) in omega arith
      | inr r ↦ let rest : counter_at o d ≤ greatest_among o ds = counter-le o d ds r in omega arith
    ]

-- a dot of the set has at most the greatest counter
pub counter-greatest : (dots : Dots) (d : Dot) → set.contains dots d ≡ true → d.n ≤ greatest_counter d.origin dots
counter-greatest dots d h =
    let least : counter_at d.origin d ≤ greatest_counter d.origin dots = counter-le d.origin d (set.items dots) (sym (set.contains-items dots d) ∙ h) in
    let here : counter_at d.origin d ≡ d.n = ap (λ b. cond b d.n 0) (ap is_eq (tied_itself origins_total d.origin)) in
    omega arith

larger_left : (a b : ℕ) → b ≤ a → max a b ≡ a
larger_left a b h = omega arith

larger_right : (a b : ℕ) → (b ≤ a → ⊥) → max a b ≡ b
larger_right a b h = omega arith

-- the counter is 0, or that of one of the dots
abbrev IsThere : Origin → List Dot → ℕ → Type 0
IsThere o ds n = (n ≡ 0) ⊎ (list_any (same_dot (dot o n)) ds ≡ true)

one_there : (o : Origin) (e : Dot) (ds : List Dot) (m : ℕ) (b : Bool) → eq_by_cmp origin_cmp e.origin o ≡ b → m ≡ cond b e.n 0 → IsThere o (e ∷ ds) m
one_there o e ds m false f is = inl is
one_there o e ds m true t is =
    let same : dot o m ≡ e = λ i. record { origin = sym (exact_origins e.origin o ((Equal-is (origin_cmp e.origin o)).0 t)) i; n = is i } in
    inr (ap (λ b. b || list_any (same_dot (dot o m)) ds) (subst (λ d. same_dot d e ≡ true) (sym same) (same_dot_itself e)))

rest_there : (o : Origin) (e : Dot) (ds : List Dot) (m k : ℕ) → m ≡ k → IsThere o ds k → IsThere o (e ∷ ds) m
rest_there o e ds m k is (inl none) = inl (is ∙ none)
rest_there o e ds m k is (inr t) = inr (ap (λ b. same_dot (dot o m) e || b) (subst (λ n. list_any (same_dot (dot o n)) ds ≡ true) (sym is) t) ∙ or-true (same_dot (dot o m) e))

-- the greatest counter is 0, or that of one of the dots
pub greatest-there : (o : Origin) (ds : List Dot) → IsThere o ds (greatest_among o ds)
greatest-there o [] = inl refl
greatest-there o (e ∷ ds) =
    let x = counter_at o e in
    let y = greatest_among o ds in
    elim (nat_le y x) as (λ b. nat_le y x ≡ b → IsThere o (e ∷ ds) (max x y)) [
      | true ↦ λ t. one_there o e ds (max x y) (eq_by_cmp origin_cmp e.origin o) refl (larger_left x y (leb-true y x t))
      | false ↦ λ f. rest_there o e ds (max x y) y (larger_right x y (λ le. true≢false (sym (le-leb y x le) ∙ f))) (greatest-there o ds)
    ] refl

-- the next dot of an origin has the greatest counter plus one
pub next-is : (dots : Dots) (o : Origin) (d : Dot) → IsNext dots o d → d ≡ dot o (greatest_counter o dots + 1)
next-is dots o d h = λ i. record { origin = h.same_origin i; n = number i }
  where
    g : ℕ
    g = greatest_counter o dots

    below : g < d.n
    below = elim (greatest-there o (set.items dots)) [
      | inl zero ↦ elim h.tight [
        | inl one ↦ omega arith
        | inr t ↦ let last : d.n - 1 < d.n = h.above (d.n - 1) t in omega arith
      ]
      | inr t ↦ h.above g (set.contains-items dots (dot o g) ∙ t)
    ]

    at_most : d.n ≤ g + 1
    at_most = elim h.tight [
      | inl one ↦ omega arith
      | inr t ↦ let last : d.n - 1 ≤ g = counter-greatest dots (dot o (d.n - 1)) t in omega arith
    ]

    number : d.n ≡ g + 1
    number = omega (arith, below, at_most)

le_through : (a b c : ℕ) → a ≤ b → b ≤ c → a ≤ c
le_through a b c h k = omega arith

past : (m g n : ℕ) → m ≤ g → n ≡ g + 1 → n ≤ m → ⊥
past m g n h e k = omega arith

-- there is no next dot exactly when the greatest counter is the last one
pub next_none : (dots : Dots) (o : Origin) (next : Option Dot) → MatchOption next (IsUsedUp dots o) (IsNext dots o) → is_none next ≡ nat_le MAX_COUNTER (greatest_counter o dots)
next_none dots o None h = sym (le-leb MAX_COUNTER (greatest_counter o dots) (let most : h.n ≤ greatest_counter o dots = counter-greatest dots (dot o h.n) h.there in let high : MAX_COUNTER ≤ h.n = h.high in le_through MAX_COUNTER h.n (greatest_counter o dots) high most))
next_none dots o (Some d) h = sym (false_from_ne_true (nat_le MAX_COUNTER (greatest_counter o dots)) (λ t.
    let high : MAX_COUNTER ≤ greatest_counter o dots = leb-true MAX_COUNTER (greatest_counter o dots) t in
    let number : d.n ≡ greatest_counter o dots + 1 = ap (λ (x : Dot). x.n) (next-is dots o d h) in
    past MAX_COUNTER (greatest_counter o dots) d.n high number h.at_most))

-- the counters of an origin are used up exactly when it has a dot that no later one can follow
pub used_up_is : (dots : Dots) (o : Origin) → (nat_le MAX_COUNTER (greatest_counter o dots) ≡ true) ↔ IsUsedUp dots o
used_up_is dots o = (
  λ e. by_greatest (leb-true MAX_COUNTER (greatest_counter o dots) e) (greatest-there o (set.items dots)),
  λ h. le-leb MAX_COUNTER (greatest_counter o dots) (le_through MAX_COUNTER h.n (greatest_counter o dots) h.high (counter-greatest dots (dot o h.n) h.there)),
)
  where
    below_none : (m g : ℕ) → m ≤ g → g ≡ 0 → 0 < m → ⊥
    below_none m g h e p = omega arith

    by_greatest : MAX_COUNTER ≤ greatest_counter o dots → (greatest_counter o dots ≡ 0) ⊎ (list_any (same_dot (dot o (greatest_counter o dots))) (set.items dots) ≡ true) → IsUsedUp dots o
    by_greatest high (inl none) = absurd (below_none MAX_COUNTER (greatest_counter o dots) high none (ltb-true 0 MAX_COUNTER refl))
    by_greatest high (inr there) = record { n = greatest_counter o dots; there = set.contains-items dots (dot o (greatest_counter o dots)) ∙ there; high = high }

-- if a counter is left, the next dot has the one after the greatest
pub next_of_is : (dots : Dots) (o : Origin) → nat_le MAX_COUNTER (greatest_counter o dots) ≡ false → IsNext dots o (dot o (greatest_counter o dots + 1))
next_of_is dots o left = record {
  same_origin = refl;
  above = λ n h. up n (greatest_counter o dots) (counter-greatest dots (dot o n) h);
  tight = elim (greatest-there o (set.items dots)) [
    | inl none ↦ inl (one (greatest_counter o dots) none)
    | inr there ↦ inr (subst (λ n. set.contains dots (dot o n) ≡ true) (before (greatest_counter o dots)) (set.contains-items dots (dot o (greatest_counter o dots)) ∙ there))
  ];
  at_most = most MAX_COUNTER (greatest_counter o dots) (λ h. true≢false (sym (le-leb MAX_COUNTER (greatest_counter o dots) h) ∙ left));
}
  where
    up : (n g : ℕ) → n ≤ g → n < g + 1
    up n g h = omega arith

    one : (g : ℕ) → g ≡ 0 → g + 1 ≡ 1
    one g h = omega arith

    before : (g : ℕ) → g ≡ g + 1 - 1
    before g = omega arith

    most : (m g : ℕ) → (m ≤ g → ⊥) → g + 1 ≤ m
    most m g h = omega arith
