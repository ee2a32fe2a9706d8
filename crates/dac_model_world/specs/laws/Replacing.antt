-- An operation replaces exactly the writes of its kind that stand at its key in its issuer's state. A life that it
-- declares down is live in that state.
use Rattle.std.proofs.Common.{◌≡◌, inl, inr, None, List, [], ◌∷◌, ◌++◌, refl, sym, ap, subst, ◌∙◌, append_assoc, true≢false}
use Rattle.dac_model_world.specs.laws.Common.{MAX_COUNTER, Origin, dot, IsNext, dots_total, exact_dots, Key, Act, Down, Permit, Start, Stop, Drain, Operation, StateValue, join, meaning_of, AreOperationsOf, DotsDetermine, Within-append, In-append_left, In-append_right, join-meaning, known-meaning, Table, verdict_of, Command, next_operation, act_of, refusal_of_command, PermitStands, StartStands, DrainStands, up}
use Rattle.std.proofs.lemmas.Bool.{leb-true}
use Rattle.dac_origins.specs.laws.InOrder.{has_key-in_order}
use Rattle.dac_chains.specs.Lives.{IsLive}
use Rattle.dac_wishes.specs.DrainsValue.{origin}
use Rattle.dac_wishes.specs.Writes.{dots_at}
use Rattle.dac_wishes.specs.laws.Writes.{contains-dots_at}
use Rattle.dac_base.specs.declared.AppId.{AppId}
use Rattle.dac_decide.specs.Verdict.{Verdict}
use Rattle.dac_decide.specs.Verdict.TheVariants.{Failover, Takeover}
use Rattle.dac_events.specs.declared.Command.TheVariants.{Down as Downs, Permit as Permits, Start as Starts, Stop as Stops, Drain as Drains, Takeover as Takes}
use Rattle.dac_commands.specs.Commands.{live_key, live_origin, standing_permits, standing_starts, standing_drains}
use Rattle.dac_commands.specs.Written.{AreThose}
use Rattle.dac_commands.specs.laws.Counters.{next_of_is}
use Rattle.dac_commands.specs.laws.Standing.{permits_at-has, drains_at-has}
use Rattle.dac_commands.specs.laws.Written.{writes_what_is_said}
use Rattle.dac_model_node.specs.Ticks.{claimed_by}
use Rattle.dac_model_node.specs.laws.Claims.{AreNextClaims}
use Rattle.dac_model_world.specs.laws.Operations.{Agree-within}

-- the act replaces exactly the writes of its kind that stand at its key
abbrev pub Replaces : StateValue → Act → Type 0
Replaces s (Permit key value over) = AreThose (PermitStands s key) over
Replaces s (Start key over) = AreThose (StartStands s key) over
Replaces s (Stop key over) = AreThose (StartStands s key) over
Replaces s (Drain node inc value over) = AreThose (DrainStands s (origin node inc)) over
Replaces s _ = Unit {0}

-- a life that the act declares down is live
abbrev pub EndsLive : StateValue → Act → Type 0
EndsLive s (Down node inc) = IsLive s.lives node inc
EndsLive s _ = Unit {0}

-- the operation is its origin's next after these, replaces what stands, and ends only a life that is live
pub record IsNextAfter (before : List Operation) (o : Operation) : Type 0 where
  pub next : IsNext (meaning_of before).known o.dot.origin o.dot
  pub replaces : Replaces (meaning_of before) o.act
  pub ends : EndsLive (meaning_of before) o.act

-- each of these operations is its origin's next after those before it
abbrev pub AreNext : List Operation → List Operation → Type 0
AreNext before [] = Unit {0}
AreNext before (o ∷ os) = IsNextAfter before o × AreNext (before ++ o ∷ []) os

-- ---- commands
permits_are : (s : StateValue) (key : Key) → AreThose (PermitStands s key) (standing_permits s key)
permits_are s key d =
    let e = permits_at-has key s.permits d in
    (λ h. sym e ∙ h, λ h. e ∙ h)

starts_are : (s : StateValue) (key : Key) → AreThose (StartStands s key) (standing_starts s key)
starts_are s key d =
    let e = has_key-in_order dots_total exact_dots (dots_at key s.starts) d ∙ contains-dots_at key s.starts d in
    (λ h. sym e ∙ h, λ h. e ∙ h)

drains_are : (s : StateValue) (at : Origin) → AreThose (DrainStands s at) (standing_drains s at)
drains_are s at d =
    let e = drains_at-has at s.drains d in
    (λ h. sym e ∙ h, λ h. e ∙ h)

command_replaces : (t : Table) (s : StateValue) (c : Command) → Replaces s (act_of t s c)
command_replaces t s (Downs node) = tt
command_replaces t s (Permits app node value) = permits_are s (live_key s app node)
command_replaces t s (Starts app node) = starts_are s (live_key s app node)
command_replaces t s (Stops app node) = starts_are s (live_key s app node)
command_replaces t s (Drains node value) = drains_are s (live_origin s node)
command_replaces t s (Takes app) = tt

command_ends : (t : Table) (own : Origin) (s : StateValue) (c : Command) → refusal_of_command t own s c ≡ None → EndsLive s (act_of t s c)
command_ends t own s (Downs node) none = let says = (writes_what_is_said t own s (Downs node) none).says in subst (EndsLive s) (sym says.1.0) says.1.1
command_ends t own s (Permits app node value) none = tt
command_ends t own s _ none = tt

-- the next operation at a set's meaning
next_after : (s : StateValue) (os : List Operation) (own : Origin) (act : Act) → s ≡ meaning_of os → IsNext s.known own (next_operation s own act).dot → Replaces s act → EndsLive s act → IsNextAfter os (next_operation s own act)
next_after s os own act state next r ends = record {
  next = subst (λ (v : StateValue). IsNext v.known own (next_operation s own act).dot) state next;
  replaces = subst (λ (v : StateValue). Replaces v act) state r;
  ends = subst (λ (v : StateValue). EndsLive v act) state ends;
}

-- the operation of a boot is the next after none
pub up_next : (own : Origin) → IsNextAfter [] (up own)
up_next own = record {
  next = record { same_origin = refl; above = λ n t. absurd (true≢false (sym t ∙ known-meaning [] (dot own n))); tight = inl refl; at_most = leb-true 1 MAX_COUNTER refl };
  replaces = tt;
  ends = tt;
}

-- the operation of an accepted command
pub after_command : (t : Table) (own : Origin) (s : StateValue) (c : Command) (os : List Operation) → s ≡ meaning_of os → refusal_of_command t own s c ≡ None → IsNextAfter os (next_operation s own (act_of t s c))
after_command t own s c os state none = next_after s os own (act_of t s c) state (writes_what_is_said t own s c none).dot (command_replaces t s c) (command_ends t own s c none)

-- ---- ticks
claim_replaces : (s : StateValue) (app : AppId) (verdict : Verdict) → Replaces s (claimed_by s app verdict)
claim_replaces s app (Failover n) = tt
claim_replaces s app (Takeover n) = tt
claim_replaces s app _ = tt

claim_ends : (s : StateValue) (app : AppId) (verdict : Verdict) → EndsLive s (claimed_by s app verdict)
claim_ends s app (Failover n) = tt
claim_ends s app (Takeover n) = tt
claim_ends s app _ = tt

-- the claims of a tick, one after another
pub after_claims : (t : Table) (own : Origin) (s : StateValue) (os more : List Operation) → s ≡ meaning_of os → DotsDetermine (os ++ more) → AreNextClaims t own s more → AreNext os more
after_claims t own s os [] state agree h = tt
after_claims t own s os (o ∷ more) state agree h =
    let claim = h.0 in
    let v = verdict_of t s claim.app in
    let one : IsNextAfter os o = subst (IsNextAfter os) (sym claim.is) (next_after s os own (claimed_by s claim.app v) state (next_of_is s.known own claim.counter) (claim_replaces s claim.app v) (claim_ends s claim.app v)) in
    let inside : AreOperationsOf (os ++ o ∷ []) (os ++ o ∷ more) = Within-append os (o ∷ []) (os ++ o ∷ more) (λ x i. In-append_left x os (o ∷ more) i) (λ x i. In-append_right x os (o ∷ more) (elim i [ inl e ↦ inl e | inr none ↦ absurd none ])) in
    let next : join s (meaning_of (o ∷ [])) ≡ meaning_of (os ++ o ∷ []) = ap (λ (x : StateValue). join x (meaning_of (o ∷ []))) state ∙ join-meaning os (o ∷ []) (Agree-within (os ++ o ∷ []) (os ++ o ∷ more) inside agree) in
    (one, after_claims t own (join s (meaning_of (o ∷ []))) (os ++ o ∷ []) more next (subst DotsDetermine (sym (append_assoc os (o ∷ []) more)) agree) h.1)
