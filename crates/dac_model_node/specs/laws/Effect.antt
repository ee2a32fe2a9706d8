-- The effect of an accepted event at its node.
use Rattle.std.proofs.Common.{◌≡◌, ℕ, Bool, true, false, not, List, [], ◌∷◌, Option, Some, None, refl, sym, subst, ◌∙◌, inl, inr, true≢false}
use Rattle.dac_model_node.specs.laws.Common.{IfSome, NodeId, Origin, Act, StateValue, IsState, Table, apps_of, is_up, up_is, Opening, Shut, Opened, GiveUp, Noted, sweep_of, state_joined, Command, Down, Permit, Start, Stop, Drain, Takeover, Event, Boot, Crash, Tick, Ship, Hear, HearOp, next_operation, none_is, NodeValue, RunningValue, causes_to_tick, refusal_by, refusal_to_tick, opening_at, ticks_by, left_by, reply_by, running_by, HasEffect}
use Rattle.dac_operations.specs.declared.act.Act.TheVariants.{Claim}
use Rattle.dac_ticks.specs.Staying.{AreKeptAt, AreLaterClaims}
use Rattle.dac_ticks.specs.laws.Staying.{next_is_later, claims_stay, claims_are_later}
use Rattle.dac_ticks.specs.laws.TakesEffect.{commands_take_effect}
use Rattle.dac_messages.specs.declared.event.Event.TheVariants.{Command as Commanded}
use Rattle.dac_commands.specs.Commands.{next_term, act_of}
use Rattle.dac_model_node.specs.laws.Numbers.{obeyed}
use Rattle.dac_model_node.specs.laws.Writing.{no_off}

-- no claims
nothing_later : (s : StateValue) → AreLaterClaims s []
nothing_later s o app i = absurd i

-- a claim act has the next term
abbrev IsNext : StateValue → Act → Type 0
IsNext s (Claim app term how from) = term ≡ next_term s app
IsNext s act = Unit {0}

is_next : (t : Table) (s : StateValue) (c : Command) → IsNext s (act_of t s c)
is_next t s (Down node) = tt
is_next t s (Permit app node value) = tt
is_next t s (Start app node) = tt
is_next t s (Stop app node) = tt
is_next t s (Drain node value) = tt
is_next t s (Takeover app) = refl

-- the operation of a command
later_command : (t : Table) (own : Origin) (s : StateValue) (c : Command) → AreLaterClaims s (next_operation s own (act_of t s c) ∷ [])
later_command t own s c o app i term how from act claim there = elim i [
  | inl is ↦ next_is_later s app term claim (subst (IsNext s) ((λ k. (sym is k).act) ∙ act) (is_next t s c)) there
  | inr none ↦ absurd none
]

was_true : (b : Bool) → not b ≡ false → b ≡ true
was_true true e = refl
was_true false e = absurd (true≢false e)

module _ (t : Table) (last : ℕ) (r : RunningValue) (noted : List (Option Noted)) (is : IsState r.state) where
  abbrev before : NodeValue
  before = record { last = last; running = Some r }

  abbrev after : Option RunningValue → NodeValue
  after running = record { last = last; running = running }

  tick_effect : (now : ℕ) (opening : Opening) → refusal_to_tick t r now ≡ None
      → HasEffect t before (Tick now) (ticks_by opening t r noted now).reply (after (running_by r noted (ticks_by opening t r noted now)))
  tick_effect now Shut none = record { left = λ o app i. absurd i; later = nothing_later r.state }
  tick_effect now GiveUp none = record { left = tt; later = nothing_later r.state }
  tick_effect now Opened none =
      let live = (up_is r.state r.origin).0 (was_true (is_up r.state r.origin) (none_is (causes_to_tick t r now) none).0) in
      record {
        left = subst (λ s. AreKeptAt t s r.origin.node (sweep_of t r.origin noted now r.state).ops) (state_joined t r.origin noted now r.state) (claims_stay t r.origin noted now r.state (apps_of t) is live);
        later = claims_are_later t r.origin noted now r.state (apps_of t) is;
      }

-- an accepted event takes effect
pub takes_effect : (t : Table) (me : NodeId) (last : ℕ) (running : Option RunningValue) (noted : List (Option Noted)) (e : Event) → refusal_by t last running e ≡ None → IfSome running (λ (r : RunningValue). IsState r.state) →
    HasEffect t (record { last = last; running = running }) e (reply_by t me last running noted e) (left_by t me last running noted e)
takes_effect t me last None noted (Boot now) none is = record { left = tt; later = tt }
takes_effect t me last None noted Crash none is = no_off none
takes_effect t me last None noted (Commanded c) none is = no_off none
takes_effect t me last None noted (Tick now) none is = no_off none
takes_effect t me last None noted (Ship to) none is = no_off none
takes_effect t me last None noted (Hear m) none is = no_off none
takes_effect t me last None noted (HearOp o) none is = no_off none
takes_effect t me last (Some r) noted (Boot now) none is = record { left = tt; later = nothing_later r.state }
takes_effect t me last (Some r) noted Crash none is = record { left = tt; later = nothing_later r.state }
takes_effect t me last (Some r) noted (Commanded c) none is = record { left = commands_take_effect t r.origin r.state c is (obeyed t r c none).0; later = later_command t r.origin r.state c }
takes_effect t me last (Some r) noted (Tick now) none is = tick_effect t last r noted is now (opening_at t r now) none
takes_effect t me last (Some r) noted (Ship to) none is = record { left = tt; later = nothing_later r.state }
takes_effect t me last (Some r) noted _ none is = record { left = tt; later = nothing_later r.state }
