-- The test of due verdicts agrees with `IsDue`.
use Rattle.std.proofs.Common.{◌≡◌, ◌↔◌, ◌⊎◌, ℕ, ◌+◌, Bool, true, false, ◌||◌, List, Option, Some, None, refl, sym, ap, ap₂, ◌∙◌, inl, inr}
use Rattle.std.specs.Prelude.{◌==◌}
use Rattle.std.specs.Option.{option_map_or}
use Rattle.std.specs.FinMap as map
use Rattle.std.proofs.lemmas.Bool.{false≢true, and_parts, and_from, leb-true, le-leb, eqb-true, eq-eqb}
use Rattle.dac_base.specs.declared.NodeId.{NodeId}
use Rattle.dac_base.specs.declared.AppId.{AppId}
use Rattle.dac_config.specs.Table.{Table, timeout_of}
use Rattle.dac_chains.specs.declared.claims.Claim.{Claim}
use Rattle.dac_placement.specs.StateValue.{StateValue}
use Rattle.dac_placement.specs.declared.verdicts.Verdict.{Verdict}
use Rattle.dac_placement.specs.declared.verdicts.Verdict.TheVariants.{Start, Failover, Halted, Move, Takeover, Kept, Nobody}
use Rattle.dac_placement.specs.Placement.{verdict_of}
use Rattle.dac_decide.specs.declared.waits.Noted.{Noted}
use Rattle.dac_decide.specs.FailoverWait.{Note, IsHeldAt, IsWaitOver, IsDueBy, IsDue, lost_in, noted_of, is_held_at, is_over_at, is_wait_over, is_due_by, is_due}
use Rattle.dac_decide.specs.laws.Lost.{same_to, same_itself, lost_to, to_lost}
use Rattle.dac_decide.specs.laws.Rows.{noted_to, to_noted}

module _ (table : Table) (notes : List Note) (s : StateValue) (app : AppId) (now : ℕ) where
  -- ---- the holder
  node_of : {a b : NodeId} → a.0 ≡ b.0 → a ≡ b
  node_of e = λ i. record { 0 = e i }

  held_by : (node : NodeId) (o : Option Claim) → map.get s.claims app ≡ o → option_map_or (λ (claim : Claim). claim.origin.node.0 == node.0) o false ≡ true → IsHeldAt s app node
  held_by node None e h = absurd (false≢true h)
  held_by node (Some claim) e h = (claim, e, node_of (eqb-true claim.origin.node.0 node.0 h))

  held_is : (node : NodeId) → (is_held_at s app node ≡ true) ↔ IsHeldAt s app node
  held_is node = (
    held_by node (map.get s.claims app) refl,
    λ held. ap (λ o. option_map_or (λ (claim : Claim). claim.origin.node.0 == node.0) o false) held.1 ∙ ap (λ (n : NodeId). n.0 == node.0) held.2 ∙ eq-eqb node.0 node.0 refl,
  )

  -- ---- the wait
  over_by : (lost : Option Claim) (n : Option Noted) → lost_in s app ≡ lost → noted_of app notes ≡ n → is_over_at (timeout_of table app) now lost n ≡ true → IsWaitOver table notes s app now
  over_by None n found kept h = absurd (false≢true h)
  over_by (Some claim) None found kept h = absurd (false≢true h)
  over_by (Some claim) (Some n) found kept h =
      let parts = and_parts _ _ h in
      record {
        claim = n.claim;
        since = n.since;
        lost = lost_to s app n.claim (found ∙ ap (λ c. Some c) (sym (same_to n.claim claim parts.0)));
        noted = noted_to app notes n kept;
        over = leb-true (n.since + timeout_of table app) now parts.1;
      }

  over_is : (is_wait_over table s app (noted_of app notes) now ≡ true) ↔ IsWaitOver table notes s app now
  over_is = (
    over_by (lost_in s app) (noted_of app notes) refl refl,
    λ w.
        ap₂ (is_over_at (timeout_of table app) now) (to_lost s app w.claim w.lost) (to_noted app notes w.claim w.since w.noted)
        ∙ and_from _ _ (same_itself w.claim) (le-leb (w.since + timeout_of table app) now w.over),
  )

  -- ---- either
  either : {X Y : Type 0} (a b : Bool) → ((a ≡ true) ↔ X) → ((b ≡ true) ↔ Y) → ((a || b) ≡ true) ↔ (X ⊎ Y)
  either true b x y = (λ e. inl (x.0 refl), λ s. refl)
  either false b x y = (λ e. inr (y.0 e), λ s. elim s [ inl first ↦ absurd (false≢true (x.1 first)) | inr second ↦ y.1 second ])

  due_by_is : (v : Verdict) → (is_due_by table (noted_of app notes) s app now v ≡ true) ↔ IsDueBy table notes s app now v
  due_by_is (Start n) = (λ e. tt, λ is. refl)
  due_by_is (Failover n) = either (is_held_at s app n) (is_wait_over table s app (noted_of app notes) now) (held_is n) over_is
  due_by_is (Halted n) = (false≢true, λ is. absurd is)
  due_by_is (Move n) = (λ e. tt, λ is. refl)
  due_by_is (Takeover n) = (λ e. tt, λ is. refl)
  due_by_is (Kept n) = (false≢true, λ is. absurd is)
  due_by_is Nobody = (false≢true, λ is. absurd is)

  pub due_to_words : (is_due table notes s app now ≡ true) ↔ IsDue table notes s app now
  due_to_words = due_by_is (verdict_of table s app)
