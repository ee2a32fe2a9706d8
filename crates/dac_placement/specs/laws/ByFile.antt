-- Consequences for the configuration file: its permission decides if no permit stands, no eligible node of an earlier
-- group is passed over, a takeover comes from a later group, and within a group the node with the fewest wins.
use Rattle.std.proofs.Common.{◌≡◌, ◌⊎◌, ℕ, ◌<◌, ◌≤◌, true, false, length, Option, Some, None, refl, sym, ap, subst, ◌∙◌, arith, inl, inr}
use Rattle.std.specs.Prelude.{nat_lt}
use Rattle.std.proofs.lemmas.Bool.{true≢false, ltb-true, ltb-false}
use Rattle.dac_base.specs.declared.NodeId.{NodeId}
use Rattle.dac_base.specs.declared.AppId.{AppId}
use Rattle.dac_lattice.specs.declared.flags.Flag.{Flag}
use Rattle.dac_config.specs.Table.{Table, group_of, default_permission}
use Rattle.dac_chains.specs.Lives.{IsLive}
use Rattle.dac_chains.specs.laws.Live.{live_is}
use Rattle.dac_state.specs.StateValue.{StateValue, permissions_of}
use Rattle.dac_state.specs.PermissionsValue.{IsPermitted, NoneStands}
use Rattle.dac_origins.specs.declared.dot.Origin.{Origin}
use Rattle.dac_placement.specs.Placement.{key_at, IsAllowedAt, IsEligible, IsVerdict, verdict_of}
use Rattle.dac_placement.specs.InWords.{FileCounts, NoneBefore, FromLater, FewestRun, LesserNameWins}
use Rattle.dac_placement.specs.laws.Judged.{verdict_in_words}
use Rattle.dac_placement.specs.laws.Rests.{candidate_is}
use Rattle.dac_placement.specs.laws.Loads.{no_longer}

module _ (table : Table) (s : StateValue) (app : AppId) (node : NodeId) (inc : ℕ) (live : IsLive s.lives node inc) (none : NoneStands (key_at app node inc) (permissions_of s)) where
  same_inc : (a b : ℕ) (live : Option ℕ) → live ≡ Some a → live ≡ Some b → a ≡ b
  same_inc a b live e f = one (sym e ∙ f)
    where
      one : {x y : ℕ} → ◌≡◌ {A = Option ℕ} (Some x) (Some y) → x ≡ y
      one e = cc

  clash : {f : Flag} {Y : Type 0} → ◌≡◌ {A = Option Flag} None (Some f) → Y
  clash e = cc

  by_default : IsPermitted (key_at app node inc) (default_permission table app) (permissions_of s) → default_permission table app ≡ true
  by_default (inl p) = p.1
  by_default (inr p) = clash (sym (none p.0.0.0) ∙ p.0.1)

  pub forbidden : default_permission table app ≡ false → ¬ IsEligible table s app node
  forbidden barred may =
      let same = same_inc may.inc inc _ ((live_is s.lives node may.inc).1 may.live) ((live_is s.lives node inc).1 live) in
      let allowed : IsAllowedAt table s (key_at app node inc) = subst (λ i. IsAllowedAt table s (key_at app node i)) same may.allowed in
      true≢false (sym (by_default allowed.0) ∙ barred)

pub file_counts : FileCounts
file_counts table s app node inc live none = (
  λ barred may. forbidden table s app node inc live none barred may,
  λ yes listed undrained started. record { listed = listed; inc = inc; live = live; allowed = (inl (none, yes), undrained); started = started },
)

pub none_before : NoneBefore
none_before table s app holder m g h kept lt may of_m of_h =
    let is : IsVerdict table s app (verdict_of table s app) = verdict_in_words table s app in
    let stands = subst (IsVerdict table s app) kept is in
    elim (nat_lt g h) as (λ b. nat_lt g h ≡ b → h ≤ g) [
      | true ↦ λ e. absurd (stands.1 m lt may (record { early = g; late = h; first = of_m; second = of_h; less = ltb-true g h e }))
      | false ↦ λ e. ltb-false g h e
    ] refl

same_origin : {a b : Origin} → ◌≡◌ {A = Option Origin} (Some a) (Some b) → a ≡ b
same_origin e = cc

pub from_later : FromLater
from_later table s app n holder taken holds =
    let is : IsVerdict table s app (verdict_of table s app) = verdict_in_words table s app in
    let takes = subst (IsVerdict table s app) taken is in
    let before = takes.3 in
    let stands = takes.1 in
    let there : stands.0.node ≡ takes.0 = stands.2.0 in
    let own : holder.node ≡ takes.0 = ap (λ (o : Origin). o.node) (same_origin (sym holds ∙ stands.1)) ∙ there in
    (before.early, before.late, before.first, ap (group_of table app) own ∙ before.second, before.less)

pub fewest_run : FewestRun
fewest_run table s app n m here there claims lt may level distinct run all =
    let prefers = (candidate_is table s app n claims).preferred m lt may level in
    let mine = no_longer here prefers.of_n.apps distinct (λ b i. (prefers.of_n.each b).1 (run b i)) in
    let yours = no_longer prefers.of_m.apps there prefers.of_m.distinct (λ b i. let r = (prefers.of_m.each b).0 i in all b r.0 r.1 r.2) in
    fits (length here) (length prefers.of_n.apps) (length prefers.of_m.apps) (length there) prefers.load prefers.other mine yours prefers.of_n.count prefers.of_m.count (few prefers.load prefers.other prefers.less)
  where
    few : (a b : ℕ) {X : Type 0} → (a < b) ⊎ ((a ≡ b) × X) → a ≤ b
    few a b (inl less) = omega (arith, less)
    few a b (inr same) = let e = same.0 in omega (arith, e)

    fits : (a b c d x y : ℕ) → a ≤ b → c ≤ d → x ≡ b → y ≡ c → x ≤ y → a ≤ d
    fits a b c d x y p q r t u = omega arith

pub lesser_name_wins : LesserNameWins
lesser_name_wins table s app n m here there claims lt may level distinct run all short =
    let prefers = (candidate_is table s app n claims).preferred m lt may level in
    let mine = no_longer here prefers.of_n.apps distinct (λ b i. (prefers.of_n.each b).1 (run b i)) in
    let yours = no_longer prefers.of_m.apps there prefers.of_m.distinct (λ b i. let r = (prefers.of_m.each b).0 i in all b r.0 r.1 r.2) in
    by_name prefers.load prefers.other n.0 m.0 prefers.less (at_most (length here) (length prefers.of_n.apps) (length prefers.of_m.apps) (length there) prefers.load prefers.other mine yours prefers.of_n.count prefers.of_m.count short)
  where
    at_most : (a b c d x y : ℕ) → a ≤ b → c ≤ d → x ≡ b → y ≡ c → d ≤ a → y ≤ x
    at_most a b c d x y p q r t u = omega arith

    never : (x y : ℕ) → x < y → y ≤ x → ⊥
    never x y p q = omega arith

    by_name : (x y k l : ℕ) → (x < y) ⊎ ((x ≡ y) × (k ≤ l)) → y ≤ x → k ≤ l
    by_name x y k l (inl less) most = absurd (never x y less most)
    by_name x y k l (inr same) most = same.1
