-- The computed load is the load in words.
use Rattle.std.proofs.Common.{◌≡◌, ◌⊎◌, ℕ, ◌<◌, ◌≤◌, ◌+◌, Bool, true, false, cond, ◌&&◌, not, List, [], ◌∷◌, length, zero, suc, inl, inr, refl, sym, ap, subst, ◌∙◌, arith}
use Rattle.std.specs.Prelude.{◌↔◌, ◌==◌, filter, map as list_map}
use Rattle.std.specs.List.{range_with_len}
use Rattle.std.proofs.lemmas.Bool.{true≢false, and_parts, and_from, eqb-true, eq-eqb}
use Rattle.dac_base.specs.declared.NodeId.{NodeId}
use Rattle.dac_base.specs.declared.AppId.{AppId}
use Rattle.dac_config.specs.Table.{Table, app_count}
use Rattle.dac_state.specs.StateValue.{StateValue}
use Rattle.dac_placement.specs.Placement.{runs_at, load_of, IsOneOf, AreDistinct, IsLoad, IsPreferred}
use Rattle.dac_placement.specs.laws.Tests.{runs_is}

-- ---- numbers that pass a test
numbered : ℕ → AppId
numbered n = record { 0 = n }

numbered_is : (b : AppId) → numbered b.0 ≡ b
unfolding numbered
numbered_is b = refl

number_is : (n : ℕ) (b : AppId) → numbered n ≡ b → n ≡ b.0
unfolding numbered
number_is n b e = ap (λ (k : AppId). k.0) e

module _ (p : AppId → Bool) where
  passing : ℕ → ℕ → List AppId
  passing a n = filter p (list_map numbered (range_with_len a n))

  record Found (a n : ℕ) (b : AppId) : Type 0 where
    from : a ≤ b.0
    before : b.0 < a + n
    passes : p b ≡ true

  at_first : (a n : ℕ) (b : AppId) → a ≡ b.0 → p (numbered a) ≡ true → Found a (suc n) b
  at_first a n b e t = record { from = omega arith; before = omega arith; passes = subst (λ k. p k ≡ true) (ap numbered e ∙ numbered_is b) t }

  further : (a n : ℕ) (b : AppId) → Found (a + 1) n b → Found a (suc n) b
  further a n b f = let from = f.from in let before = f.before in record { from = omega arith; before = omega arith; passes = f.passes }

  found : (a n : ℕ) (b : AppId) → IsOneOf b (passing a n) → Found a n b
  unfolding passing
  found a zero b h = absurd h
  found a (suc n) b h = elim (p (numbered a)) as (λ t. p (numbered a) ≡ t → IsOneOf b (cond t (numbered a ∷ passing (a + 1) n) (passing (a + 1) n)) → Found a (suc n) b) [
    | true ↦ λ t h. elim h [ inl same ↦ at_first a n b (number_is a b same) t | inr more ↦ further a n b (found (a + 1) n b more) ]
    | false ↦ λ _ h. further a n b (found (a + 1) n b h)
  ] refl h

  finds : (a n : ℕ) (b : AppId) → a ≤ b.0 → b.0 < a + n → p b ≡ true → IsOneOf b (passing a n)
  unfolding passing
  finds a zero b from before t = absurd (nowhere a b.0 from before)
    where
      nowhere : (a m : ℕ) → a ≤ m → m < a + 0 → ⊥
      nowhere a m h k = omega arith
  finds a (suc n) b from before t = elim (p (numbered a)) as (λ s. p (numbered a) ≡ s → IsOneOf b (cond s (numbered a ∷ passing (a + 1) n) (passing (a + 1) n))) [
    | true ↦ λ _. elim (first_or_later a n b.0 from before) [
      | inl same ↦ inl (ap numbered same ∙ numbered_is b)
      | inr later ↦ inr (finds (a + 1) n b later.0 later.1 t)
    ]
    | false ↦ λ fails. elim (first_or_later a n b.0 from before) [
      | inl same ↦ absurd (true≢false (sym (subst (λ k. p k ≡ true) (sym (ap numbered same ∙ numbered_is b)) t) ∙ fails))
      | inr later ↦ finds (a + 1) n b later.0 later.1 t
    ]
  ] refl
    where
      first_or_later : (a n m : ℕ) → a ≤ m → m < a + suc n → (a ≡ m) ⊎ ((a + 1 ≤ m) × (m < a + 1 + n))
      first_or_later a n m from before = elim (m == a) as (λ b. (m == a) ≡ b → (a ≡ m) ⊎ ((a + 1 ≤ m) × (m < a + 1 + n))) [
        | true ↦ λ e. inl (sym (eqb-true m a e))
        | false ↦ λ e. let apart : m ≡ a → ⊥ = λ same. true≢false (sym (eq-eqb m a same) ∙ e) in inr (above a m from apart, omega arith)
      ] refl
        where
          above : (a m : ℕ) → a ≤ m → (m ≡ a → ⊥) → a + 1 ≤ m
          above a m h apart = omega (arith, apart)

  distinct : (a n : ℕ) → AreDistinct (passing a n)
  unfolding passing
  distinct a zero = tt
  distinct a (suc n) = elim (p (numbered a)) as (λ t. AreDistinct (cond t (numbered a ∷ passing (a + 1) n) (passing (a + 1) n))) [
    | true ↦ (λ again. not_again a (numbered a).0 (found (a + 1) n (numbered a) again).from (number_is a (numbered a) refl), distinct (a + 1) n)
    | false ↦ distinct (a + 1) n
  ]
    where
      not_again : (a m : ℕ) → a + 1 ≤ m → a ≡ m → ⊥
      not_again a m h e = omega arith

-- ---- the load
not_same : (a b : AppId) → not (a.0 == b.0) ≡ true → a ≡ b → ⊥
not_same a b t e = true≢false (sym t ∙ ap not (eq-eqb a.0 b.0 (ap (λ (k : AppId). k.0) e)))

apart : (a b : AppId) → (a ≡ b → ⊥) → not (a.0 == b.0) ≡ true
apart a b f = elim (a.0 == b.0) as (λ t. (a.0 == b.0) ≡ t → not t ≡ true) [
  | true ↦ λ e. absurd (f (ap (λ n. record { 0 = n }) (eqb-true a.0 b.0 e)))
  | false ↦ λ _. refl
] refl

plain : (m n : ℕ) → m < 0 + n → m < n
plain m n h = omega arith

wide : (m n : ℕ) → m < n → m < 0 + n
wide m n h = omega arith

from_none : (m : ℕ) → 0 ≤ m
from_none m = omega arith

pub load_is : (table : Table) (s : StateValue) (app : AppId) (node : NodeId) → IsLoad table s app node (load_of table s app node)
unfolding passing numbered
load_is table s app node =
    let p : AppId → Bool = λ other. not (other.0 == app.0) && runs_at table s other node in
    record {
      apps = passing p 0 (app_count table);
      distinct = distinct p 0 (app_count table);
      each = λ other. (
        λ h.
            let f = found p 0 (app_count table) other h in
            let both = and_parts _ _ f.passes in
            (plain other.0 (app_count table) f.before, not_same other app both.0, (runs_is table s other node).0 both.1),
        λ h. finds p 0 (app_count table) other (from_none other.0) (wide other.0 (app_count table) h.0) (and_from _ _ (apart other app h.1) ((runs_is table s other node).1 h.2)),
      );
      count = refl;
    }

-- ---- the load is unique

-- a list without one of its applications
record Split (a : AppId) (ys : List AppId) : Type 0 where
  rest : List AppId
  longer : length ys ≡ length rest + 1
  others : (b : AppId) → IsOneOf b ys → (a ≡ b → ⊥) → IsOneOf b rest

split : (a : AppId) (ys : List AppId) → IsOneOf a ys → Split a ys
split a [] h = absurd h
split a (y ∷ ys) (inl here) = record { rest = ys; longer = omega arith; others = λ b h ne. elim h [ inl same ↦ absurd (ne (sym here ∙ same)) | inr more ↦ more ] }
split a (y ∷ ys) (inr later) =
    let more = split a ys later in
    let longer = more.longer in
    record { rest = y ∷ more.rest; longer = omega (arith, longer); others = λ b h ne. elim h [ inl same ↦ inl same | inr there ↦ inr (more.others b there ne) ] }

-- a list without repeats is no longer than a list that contains all its applications
pub no_longer : (xs ys : List AppId) → AreDistinct xs → ((b : AppId) → IsOneOf b xs → IsOneOf b ys) → length xs ≤ length ys
no_longer [] ys distinct within = omega arith
no_longer (x ∷ xs) ys distinct within =
    let parts = split x ys (within x (inl refl)) in
    let longer = parts.longer in
    let rest = no_longer xs parts.rest distinct.1 (λ b h. parts.others b (within b (inr h)) (λ same. distinct.0 (subst (λ c. IsOneOf c xs) (sym same) h))) in
    omega (arith, longer, rest)

pub one_load : (table : Table) (s : StateValue) (app : AppId) (node : NodeId) (n m : ℕ) → IsLoad table s app node n → IsLoad table s app node m → n ≡ m
one_load table s app node n m x y =
    let up = no_longer x.apps y.apps x.distinct (λ b h. (y.each b).1 ((x.each b).0 h)) in
    let down = no_longer y.apps x.apps y.distinct (λ b h. (x.each b).1 ((y.each b).0 h)) in
    x.count ∙ level (length x.apps) (length y.apps) up down ∙ sym y.count
  where
    level : (n m : ℕ) → n ≤ m → m ≤ n → n ≡ m
    level n m h k = omega arith

-- `IsPreferred` by the computed loads
pub preferred_is : (table : Table) (s : StateValue) (app : AppId) (n m : NodeId)
    → IsPreferred table s app n m ↔ ((load_of table s app n < load_of table s app m) ⊎ ((load_of table s app n ≡ load_of table s app m) × (n.0 ≤ m.0)))
preferred_is table s app n m = (
  λ p. elim p.less [
    | inl less ↦ inl (less_by p.load p.other (load_of table s app n) (load_of table s app m) (mine p) (yours p) less)
    | inr level ↦ inr (sym (mine p) ∙ level.0 ∙ yours p, level.1)
  ],
  λ less. record { load = load_of table s app n; other = load_of table s app m; of_n = load_is table s app n; of_m = load_is table s app m; less = less },
)
  where
    mine : (p : IsPreferred table s app n m) → p.load ≡ load_of table s app n
    mine p = one_load table s app n p.load (load_of table s app n) p.of_n (load_is table s app n)

    yours : (p : IsPreferred table s app n m) → p.other ≡ load_of table s app m
    yours p = one_load table s app m p.other (load_of table s app m) p.of_m (load_is table s app m)

    less_by : (a b x y : ℕ) → a ≡ x → b ≡ y → a < b → x < y
    less_by a b x y e f h = omega arith
