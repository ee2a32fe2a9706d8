-- An accepted command issues the operation that it describes.
use Rattle.std.proofs.Common.{◌≡◌, ℕ, Bool, true, false, not, List, [], ◌∷◌, Option, Some, None, refl, sym, ◌∙◌, true≢false}
use Rattle.std.specs.Prelude.{is_some, unwrap_or}
use Rattle.dac_base.specs.declared.NodeId.{NodeId}
use Rattle.dac_base.specs.declared.AppId.{AppId}
use Rattle.dac_origins.specs.declared.dot.Origin.{Origin}
use Rattle.dac_origins.specs.laws.Dots.{dots_total, exact_dots}
use Rattle.dac_origins.specs.laws.InOrder.{has_key-in_order}
use Rattle.dac_chains.specs.Lives.{IsLive}
use Rattle.dac_chains.specs.laws.Live.{live_is}
use Rattle.dac_chains.specs.declared.claims.How.TheVariants.{Takeover as TakenOver}
use Rattle.dac_wishes.specs.declared.key.Key.{Key}
use Rattle.dac_wishes.specs.Writes.{dots_at}
use Rattle.dac_wishes.specs.laws.Writes.{contains-dots_at}
use Rattle.dac_placement.specs.StateValue.{StateValue}
use Rattle.dac_config.specs.Table.{Table}
use Rattle.dac_placement.specs.Placement.{runner_of}
use Rattle.dac_placement.specs.laws.Tests.{runner_is}
use Rattle.dac_events.specs.declared.Command.{Command}
use Rattle.dac_events.specs.declared.Command.TheVariants.{Down, Permit, Start, Stop, Drain, Takeover}
use Rattle.dac_events.specs.declared.refusal.Refusal.{Refusal}
use Rattle.dac_events.specs.declared.refusal.Refusal.TheVariants.{DeclaredDown}
use Rattle.dac_commands.specs.Commands.{live, live_or_none, live_key, live_origin, standing_starts, standing_permits, standing_drains, claim_act, act_of}
use Rattle.dac_commands.specs.Causes.{first, causes_of, refusal_of_command, declared_down, not_live, terms_used_up, used_up}
use Rattle.dac_commands.specs.Written.{IsKeyAt, StartStands, PermitStands, DrainStands, AreThose, TakesOver, SaysCommand, IssuesTheCommand}
use Rattle.dac_commands.specs.laws.Counters.{next_of_is}
use Rattle.dac_commands.specs.laws.Standing.{permits_at-has, drains_at-has}
use Rattle.dac_commands.specs.laws.Terms.{next_claim_is}

-- ---- causes that don't hold
-- none of the causes holds
abbrev pub NoneIs : List (Bool × Refusal) → Type 0
NoneIs [] = Unit {0}
NoneIs (c ∷ cs) = (c.0 ≡ false) × NoneIs cs

-- if no cause holds, neither the first one nor any later one does
first-none : (b : Bool) (why : Refusal) (cs : List (Bool × Refusal)) → first ((b, why) ∷ cs) ≡ None → (b ≡ false) × (first cs ≡ None)
first-none true why cs e = cc
first-none false why cs e = (refl, e)

pub none_is : (cs : List (Bool × Refusal)) → first cs ≡ None → NoneIs cs
none_is [] e = tt
none_is (c ∷ cs) e = let h = first-none c.0 c.1 cs e in (h.0, none_is cs h.1)

-- all causes to refuse a command
abbrev pub all_causes : Table → Origin → StateValue → Command → List (Bool × Refusal)
all_causes t own s c = (declared_down own s, DeclaredDown) ∷ causes_of t own s c

module _ (t : Table) (own : Origin) (s : StateValue) where
  -- a counter is left for an accepted command
  left : (c : Command) → refusal_of_command t own s c ≡ None → used_up s own ≡ false
  left (Down node) e = (none_is (all_causes t own s (Down node)) e).1.1.1.1.0
  left (Permit app node value) e = (none_is (all_causes t own s (Permit app node value)) e).1.1.1.1.1.1.0
  left (Start app node) e = (none_is (all_causes t own s (Start app node)) e).1.1.1.1.1.1.0
  left (Stop app node) e = (none_is (all_causes t own s (Stop app node)) e).1.1.1.1.1.1.1.0
  left (Drain node value) e = (none_is (all_causes t own s (Drain node value)) e).1.1.1.1.0
  left (Takeover app) e = (none_is (all_causes t own s (Takeover app)) e).1.1.1.1.1.1.1.1.0

  -- ---- the act of a command
  -- the live incarnation of a node that is live
  pub live_there : (node : NodeId) → not_live s node ≡ false → IsLive s.lives node (live_or_none s node)
  live_there node h = by_live (live s node) refl h
    where
      by_live : (o : Option ℕ) → live s node ≡ o → not (is_some o) ≡ false → IsLive s.lives node (unwrap_or o 0)
      by_live None e p = absurd (true≢false p)
      by_live (Some i) e p = (live_is s.lives node i).0 e

  key_is : (app : AppId) (node : NodeId) → not_live s node ≡ false → IsKeyAt s app node (live_key s app node)
  key_is app node h = record { same_app = refl; same_node = refl; live = live_there node h }

  starts_are : (key : Key) → AreThose (StartStands s key) (standing_starts s key)
  starts_are key d =
      let e = has_key-in_order dots_total exact_dots (dots_at key s.starts) d ∙ contains-dots_at key s.starts d in
      (λ h. sym e ∙ h, λ h. e ∙ h)

  permits_are : (key : Key) → AreThose (PermitStands s key) (standing_permits s key)
  permits_are key d =
      let e = permits_at-has key s.permits d in
      (λ h. sym e ∙ h, λ h. e ∙ h)

  drains_are : (at : Origin) → AreThose (DrainStands s at) (standing_drains s at)
  drains_are at d =
      let e = drains_at-has at s.drains d in
      (λ h. sym e ∙ h, λ h. e ∙ h)

  takes : (app : AppId) → not (is_some (runner_of t s app)) ≡ false → terms_used_up s app ≡ false → TakesOver t s app (act_of t s (Takeover app))
  takes app running terms = by_runner (runner_of t s app) refl running
    where
      by_runner : (o : Option NodeId) → runner_of t s app ≡ o → not (is_some o) ≡ false → TakesOver t s app (claim_act s app TakenOver o)
      by_runner None e p = absurd (true≢false p)
      by_runner (Some n) e p = record { runner = n; runs = (runner_is t s app n).0 e; claims = next_claim_is s app TakenOver (Some n) terms }

  says : (c : Command) → refusal_of_command t own s c ≡ None → SaysCommand t s c (act_of t s c)
  says (Down node) e = (live_or_none s node, (refl, live_there node (none_is (all_causes t own s (Down node)) e).1.1.1.0))
  says (Permit app node value) e =
      let live = (none_is (all_causes t own s (Permit app node value)) e).1.1.1.1.0 in
      record { key = live_key s app node; over = standing_permits s (live_key s app node); is = refl; at = key_is app node live; replaces = permits_are (live_key s app node) }
  says (Start app node) e =
      let live = (none_is (all_causes t own s (Start app node)) e).1.1.1.1.0 in
      record { key = live_key s app node; over = standing_starts s (live_key s app node); is = refl; at = key_is app node live; replaces = starts_are (live_key s app node) }
  says (Stop app node) e =
      let live = (none_is (all_causes t own s (Stop app node)) e).1.1.1.1.0 in
      record { key = live_key s app node; over = standing_starts s (live_key s app node); is = refl; at = key_is app node live; replaces = starts_are (live_key s app node) }
  says (Drain node value) e =
      let live = (none_is (all_causes t own s (Drain node value)) e).1.1.0 in
      record { inc = live_or_none s node; over = standing_drains s (live_origin s node); is = refl; live = live_there node live; replaces = drains_are (live_origin s node) }
  says (Takeover app) e =
      let none = none_is (all_causes t own s (Takeover app)) e in
      takes app none.1.1.1.1.0 none.1.1.1.1.1.1.1.0

pub writes_what_is_said : IssuesTheCommand
writes_what_is_said t own s c e = record { dot = next_of_is s.known own (left t own s c e); says = says t own s c e }
