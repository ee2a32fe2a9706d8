-- The effects of changes.
use Rattle.std.proofs.Common.{◌≡◌, ◌-◌, ◌≤◌, ◌+◌, ℕ, Bool, true, false, cond, List, [], ◌∷◌, length, Option, Some, None, refl, sym, ap, subst, ◌∙◌, arith, true≢false}
use Rattle.dac_node.proofs.Common.{fold, MAX_COUNTER, Operation, StateValue, join, meaning_of, is_below, Table, pushed, Noted, content_of, Hear, Reply, none_is, RunningValue, refusal_by, brings, transition_of, IsNoting, Notes, news, noting, ChangeValue, Effect, Fits, Prepared}
use Rattle.std.specs.Prelude.{min}
use Rattle.std.specs.Option.{option_to_list}
use Rattle.dac_base.specs.declared.NodeId.{NodeId}
use Rattle.dac_meaning.specs.StateValue.{IsState}
use Rattle.dac_config.specs.Table.{node_count}
use Rattle.dac_peers.specs.Peers.{PeersValue, acked_by_all, heard_from}
use Rattle.dac_deltas.specs.KeptDeltas.{KeptDeltas, cut, trimmed}
use Rattle.dac_messages.specs.declared.message.Message.{Message}
use Rattle.dac_messages.specs.declared.event.Event.{Event}
use Rattle.dac_events.specs.declared.refusal.Refusal.TheVariants.{DotsUsedUp}
use Rattle.dac_model_node.specs.EventRefusals.{refusal_to_hear_op, overflows}
use Rattle.dac_model_node.specs.Transitions.{Transition, keeps, hears_message}
use Rattle.dac_model_node.specs.Accepted.{AreNewest, running_by}
use Rattle.dac_model_node.specs.laws.Numbers.{fits, room_to_hear}
use Rattle.dac_node.specs.declared.change.After.{After}
use Rattle.dac_node.specs.After.{running_after, adds_of, message_notes, IsAt, FitsIn}

-- trimming below number 0 drops nothing
pub trimmed_none : (k : KeptDeltas StateValue) → k ≡ trimmed k 0
trimmed_none k = (λ i. record k { base = same k.base i }) ∙ ap (cut k) (nothing k.count k.base)
  where
    same : (base : ℕ) → base ≡ base + 0
    same base = omega arith

    nothing : (count base : ℕ) → 0 ≡ min 0 count - base
    nothing count base = omega arith

module _ (t : Table) (number : ℕ) (r : RunningValue) (e : Event) where
  -- the effect of a change that follows the event's transition
  pub effect_by : (noted : List (Option Noted)) (transition : Transition) → transition_of t r noted e ≡ transition → IsNoting t r noted e
      → (after : After) (change : ChangeValue) → change ≡ record { last = number; after = after; reply = transition.reply }
      → running_after after (Some r) ≡ running_by r noted transition → adds_of after ≡ transition.adds → IsAt r after → Effect t number r e change
  effect_by noted transition is noting after change same running adds at = record {
    noted = noted;
    noting = noting;
    last = ap (λ (c : ChangeValue). c.last) same;
    running = ap (λ (c : ChangeValue). running_after c.after (Some r)) same ∙ running ∙ ap (running_by r noted) (sym is);
    adds = ap (λ (c : ChangeValue). adds_of c.after) same ∙ adds ∙ ap (λ (s : Transition). s.adds) (sym is);
    fits = subst (λ (c : ChangeValue). IsAt r c.after) (sym same) at;
    reply = ap (λ (c : ChangeValue). c.reply) same ∙ ap (λ (s : Transition). s.reply) (sym is);
  }

  -- the effect of an event that leaves this peer table
  pub noting_effect : (reply : Reply) (peers : PeersValue) (delta : Option StateValue) (adds : List StateValue) (change : ChangeValue)
      → transition_of t r [] e ≡ record (keeps r reply adds) { peers = peers } → option_to_list delta ≡ adds
      → change ≡ record { last = number; after = Notes (noting peers delta); reply = reply } → Effect t number r e change
  noting_effect reply peers delta adds change is same changes =
      effect_by [] (record (keeps r reply adds) { peers = peers }) is (λ notes. absurd (true≢false (sym notes ∙ ap (λ (s : Transition). s.notes) is))) (Notes (noting peers delta)) change changes
      (λ i. Some (record r { state = fold join r.state (same i); kept = (ap (fold pushed r.kept) same ∙ trimmed_none (fold pushed r.kept adds)) i; peers = peers })) same tt

-- a state brings the delta of its news
pub brought : (s body : StateValue) → option_to_list (news s body) ≡ brings s body
brought s body = by (is_below body s)
  where
    by : (b : Bool) → option_to_list (cond b None (Some body)) ≡ cond b [] (body ∷ [])
    by true = refl
    by false = refl

pub message_effect : (t : Table) (number : ℕ) (r : RunningValue) (m : Message) (change : ChangeValue)
    → change ≡ record { last = number; after = Notes (message_notes t r m); reply = (hears_message t r m).reply } → Effect t number r (Hear m) change
message_effect t number r m change changes =
    let peers = heard_from r.origin r.kept.count r.peers m in
    let same = brought r.state (content_of m.body) in
    effect_by t number r (Hear m) [] (hears_message t r m) refl (λ notes. absurd (true≢false (sym notes))) (Notes (message_notes t r m)) change changes
    (λ i. Some (record r {
      state = fold join r.state (same i);
      kept = trimmed (fold pushed r.kept (same i)) (acked_by_all peers (fold join r.state (same i)) (node_count t) r.origin.node);
      peers = peers;
    })) same tt

-- ---- at a node
pub effect_prepared : (t : Table) (me : NodeId) (last : ℕ) (r : RunningValue) (e : Event) (change : ChangeValue) → refusal_by t last (Some r) e ≡ None → AreNewest r.kept → IsState r.state → Effect t last r e change → Prepared t me (record { last = last; running = Some r }) e change
effect_prepared t me last r e change none newest is f = record {
  accepted = none;
  newest = newest;
  state = is;
  noted = f.noted;
  noting = f.noting;
  left = λ i. record { last = f.last i; running = f.running i };
  reply = f.reply;
}

-- numbers are left for the new deltas
pub effect_fits : (t : Table) (last : ℕ) (r : RunningValue) (e : Event) (change : ChangeValue) → refusal_by t last (Some r) e ≡ None → r.kept.count ≤ MAX_COUNTER → Effect t last r e change → Fits (record { last = last; running = Some r }) change
effect_fits t last r e change none countable f = record {
  numbers = (subst (λ (adds : List StateValue). r.kept.count + length adds ≤ MAX_COUNTER) (sym f.adds) (fits t r f.noted countable e none), f.fits);
}

-- numbers are left for the delta of an operation handed
pub hear_op_fits : (last : ℕ) (r : RunningValue) (o : Operation) (change : ChangeValue) → refusal_to_hear_op r o ≡ None → r.kept.count ≤ MAX_COUNTER → change.after ≡ Notes (noting r.peers (news r.state (meaning_of (o ∷ [])))) → Fits (record { last = last; running = Some r }) change
hear_op_fits last r o change none countable after =
    let body = meaning_of (o ∷ []) in
    let room = room_to_hear r body countable (none_is ((overflows r body, DotsUsedUp) ∷ []) none).0 in
    record {
      numbers = subst (FitsIn (Some r)) (sym after) (subst (λ (adds : List StateValue). r.kept.count + length adds ≤ MAX_COUNTER) (sym (brought r.state body)) room, tt);
    }
