-- Tests of causes, in words: where an application runs and in which group, and the counters that are left.
use Rattle.std.specs.Prelude.{◌≡◌, ◌⊎◌, ◌↔◌, ℕ, ◌+◌, ◌-◌, ◌<◌, ◌≤◌, Bool, true, false, not, Option, None, Some, refl}
use Rattle.std.specs.FinSet as set
use Rattle.std.proofs.Common.{sym, ap, subst, ◌∙◌, inl, inr, arith, zero, suc}
use Rattle.dac_model_node.specs.laws.Common.{max, is_some, option_map_or, false≢true, lt-ltb, ltb-true, MAX_COUNTER, NodeId, AppId, Origin, StateValue, Table, app_count, runner_of, greatest_counter, runs_earlier, used_up, used_up_is, needed, too_few_left, RunningValue}
use Rattle.dac_origins.specs.Dots.{dot}
use Rattle.dac_decide.specs.Placement.{RunsAt, IsEarlier, is_earlier}
use Rattle.dac_decide.specs.laws.Tests.{runner_is}
use Rattle.dac_decide.specs.laws.Judged.{earlier_is}
use Rattle.dac_commands.specs.laws.Counters.{counter-greatest, next_of_is}
use Rattle.dac_model_node.specs.Refused.{LeavesFewer, LacksFor}

-- ---- running at a node

module _ (t : Table) (s : StateValue) (app : AppId) where
  pub not_running_is : (not (is_some (runner_of t s app)) ≡ true) ↔ ((node : NodeId) → ¬ RunsAt t s app node)
  not_running_is = (
    λ e node runs. false≢true (ap not (sym (ap is_some ((runner_is t s app node).1 runs))) ∙ e),
    λ nowhere. by_runner (runner_of t s app) refl nowhere,
  )
    where
      by_runner : (o : Option NodeId) → runner_of t s app ≡ o → ((node : NodeId) → ¬ RunsAt t s app node) → not (is_some o) ≡ true
      by_runner None e nowhere = refl
      by_runner (Some node) e nowhere = absurd (nowhere node ((runner_is t s app node).0 e))

  abbrev RunsEarlier : NodeId → Type 0
  RunsEarlier node = (runner : NodeId) × (RunsAt t s app runner × IsEarlier t app runner node)

  pub runs_earlier_is : (node : NodeId) → (runs_earlier t s app node ≡ true) ↔ RunsEarlier node
  runs_earlier_is node = (
    λ e. by_runner (runner_of t s app) refl e,
    λ h. ap (λ o. option_map_or (λ runner. is_earlier t app runner node) o false) ((runner_is t s app h.0).1 h.1.0) ∙ (earlier_is t app h.0 node).1 h.1.1,
  )
    where
      by_runner : (o : Option NodeId) → runner_of t s app ≡ o → option_map_or (λ runner. is_earlier t app runner node) o false ≡ true → RunsEarlier node
      by_runner None is e = absurd (false≢true e)
      by_runner (Some runner) is e = (runner, ((runner_is t s app runner).0 is, (earlier_is t app runner node).0 e))

-- ---- counters

module _ (t : Table) (s : StateValue) (own : Origin) where
  abbrev greatest : ℕ
  greatest = greatest_counter own s.known

  one_at_least : (a : ℕ) → 1 ≤ max 1 a
  one_at_least a = omega arith

  fewer : (m n g k : ℕ) → n ≤ g → m < n + k → m < g + k
  fewer m n g k h e = omega arith

  high : (m n k : ℕ) → m ≤ n → 1 ≤ k → m < n + k
  high m n k h e = omega arith

  none_yet : (g : ℕ) → g + 1 ≡ 1 → g ≡ 0
  none_yet g e = omega arith

  one_less : (g : ℕ) → g + 1 - 1 ≡ g
  one_less g = omega arith

  to_fewer : (b : Bool) → used_up s own ≡ b → too_few_left t s own ≡ true → LeavesFewer s.known own (needed t)
  to_fewer true used e =
      let is = (used_up_is s.known own).0 used in
      (is.n, (inr is.there, high MAX_COUNTER is.n (needed t) is.high (one_at_least (app_count t))))
  to_fewer false left e =
      let less : MAX_COUNTER < greatest + needed t = ltb-true MAX_COUNTER (greatest + needed t) e in (
        greatest,
        (
          elim (next_of_is s.known own left).tight [
            | inl first ↦ inl (none_yet greatest first)
            | inr there ↦ inr (subst (λ n. set.contains s.known (dot own n) ≡ true) (one_less greatest) there)
          ],
          less,
        ),
      )

  at_most : (n : ℕ) → ((n ≡ 0) ⊎ (set.contains s.known (dot own n) ≡ true)) → n ≤ greatest
  at_most n h = elim h [
    | inl none ↦ omega arith
    | inr there ↦ counter-greatest s.known (dot own n) there
  ]

  pub too_few_is : (too_few_left t s own ≡ true) ↔ LeavesFewer s.known own (needed t)
  too_few_is = (
    to_fewer (used_up s own) refl,
    λ h. lt-ltb MAX_COUNTER (greatest + needed t) (fewer MAX_COUNTER h.0 greatest (needed t) (at_most h.0 h.1.0) h.1.1),
  )

-- ---- the counters that a tick needs

-- the greater of 1 and the number of applications is one of both
most_is : (a : ℕ) → (max 1 a ≡ 1) ⊎ (max 1 a ≡ a)
most_is zero = inl refl
most_is (suc n) = inr (omega arith)

lack_more : (m n a b : ℕ) → a ≤ b → m < n + a → m < n + b
lack_more m n a b le h = omega arith

-- a lack for fewer is a lack for more
lacks_more : (r : RunningValue) (a b : ℕ) → a ≤ b → LacksFor r a → LacksFor r b
lacks_more r a b le h = elim h [
  | inl few ↦ inl (few.0, (few.1.0, lack_more MAX_COUNTER few.0 a b le few.1.1))
  | inr none ↦ inr (lack_more MAX_COUNTER r.kept.count a b le none)
]

pub lacks_for_tick : (r : RunningValue) (a : ℕ) → LacksFor r (max 1 a) ↔ (LacksFor r 1 ⊎ LacksFor r a)
lacks_for_tick r a = (
  λ h. elim (most_is a) [
    | inl one ↦ inl (subst (LacksFor r) one h)
    | inr each ↦ inr (subst (LacksFor r) each h)
  ],
  λ h. elim h [
    | inl one ↦ lacks_more r 1 (max 1 a) (omega arith) one
    | inr each ↦ lacks_more r a (max 1 a) (omega arith) each
  ],
)
