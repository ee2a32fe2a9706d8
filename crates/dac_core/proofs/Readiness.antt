-- A node can apply the changes that it prepared.
use Rattle.std.proofs.Common.{◌≡◌, ◌∙◌, ◌<◌, ℕ, List, Option, Some, None, Result, Ok, Err, length, refl, sym, ap, subst}
use Rattle.dac_core.proofs.Common.{slice_get, Table, Operation, WorldEvent, What, WorldFault, Refused, Message, Reply, WorldValue, event_of, counted, IsMade, HappensAt, changed, follows_in, IsPreparedAt}
use Rattle.std.specs.Prelude.{IfOk, IfErr, IfSome, OnOk, OnErr}
use Rattle.dac_base.specs.declared.NodeId.{NodeId}
use Rattle.dac_events.specs.declared.refusal.Refusal.TheVariants.{NoMemory}
use Rattle.dac_messages.specs.declared.event.Event.{Event}
use Rattle.dac_messages.specs.Bodies.{content_of}
use Rattle.dac_messages.specs.declared.reply.Reply.TheVariants.{Crashed}
use Rattle.dac_settle.specs.dac_model_world.NodeValue.{NodeValue, state_of}
use Rattle.dac_settle.specs.dac_model_world.ModelWorld.{out_of_memory}
use Rattle.dac_settle.specs.dac_model_world.Made.{HeardDotsAreOrder, OneDotIsOrder}
use Rattle.dac_settle.specs.dac_model_world.WorldChanges.{Goes}
use Rattle.dac_settle.specs.dac_model_world.laws.Options.{some_same}
use Rattle.dac_node.specs.ByDots.{IsBelowByDots, IsBelowByDot}
use Rattle.dac_node.specs.Changes.{ChangeValue, Fits, Prepared}
use Rattle.dac_settle.specs.dac_model_world.laws.Sound.{counted_in}
use Rattle.dac_settle.specs.dac_model_world.laws.Made.{goes_made, states_mean, bodies_mean}
use Rattle.dac_settle.specs.dac_model_world.laws.Follow.{Here, crash_goes_off, happens_gone}
use Rattle.dac_core.specs.Ready.{IsReady, IsReadyAt}
use Rattle.dac_core.specs.Passing.{Passes}

-- a weaker property holds of the value, if any
if_some_weaker : {X : Type 0} {P Q : X → Type 0} (o : Option X) → ((x : X) → P x → Q x) → IfSome o P → IfSome o Q
if_some_weaker None f h = tt
if_some_weaker (Some x) f h = f x h

ready_at : (t : Table) (nodes : List NodeValue) (me : NodeId) (old : NodeValue) (e : Event) (change : ChangeValue) → slice_get nodes me.0 ≡ Some old → Prepared t me old e change → Fits old change → IsReadyAt nodes me change
ready_at t nodes me old e change there prepared fits v at =
    subst (λ (x : NodeValue). IsReady x change) (some_same old v (sym there ∙ at))
    (fits, crash_goes_off t me old e (changed old change) change.reply prepared)

-- the change that the node of this number prepared for this event
pub prepared_at : (t : Table) (v : WorldValue) (me : NodeId) (old : NodeValue) (what : Result Event WorldFault) (e : Event) (change : ChangeValue) → Here v me old → what ≡ Ok e → Prepared t me old e change → Fits old change → IsPreparedAt t v.nodes me what change
prepared_at t v me old what e change here is prepared fits = record {
  event = e;
  happens = is;
  before = old;
  there = here.there;
  prepared = prepared;
  ready = ready_at t v.nodes me old e change here.there prepared fits;
}

-- the result of applying it in the world in which it was prepared
pub gone_at : (t : Table) (v mid u : WorldValue) (me : NodeId) (what : Result Event WorldFault) (change : ChangeValue) (answer : Result Reply WorldFault) → mid ≡ v → me.0 < length v.nodes → IsPreparedAt t v.nodes me what change →
    IfOk answer (λ reply. Goes mid me (λ x. changed x change) change.reply reply u) → IfErr answer (λ fault. Err fault ≡ out_of_memory) → IfErr answer (λ _. change.reply ≡ Crashed → ⊥) → OnErr answer (u ≡ mid) → HappensAt t v me what answer u
gone_at t v mid u me what change answer same inside p goes lacked stays left =
    subst (λ x. HappensAt t v me x answer u) (sym p.happens)
    (happens_gone t v u me p.event p.before (λ x. changed x change) change.reply answer (record { inside = inside; there = p.there }) p.prepared
    (subst (λ (m : WorldValue). IfOk answer (λ reply. Goes m me (λ x. changed x change) change.reply reply u)) same goes) lacked stays (subst (λ (m : WorldValue). OnErr answer (u ≡ m)) same left))

-- the result of applying it without the reply
pub passed_at : (t : Table) (v mid u : WorldValue) (e : WorldEvent) (change : ChangeValue) (told : Result (Unit {0}) WorldFault) → mid ≡ v → e.node.0 < length v.nodes → IsPreparedAt t v.nodes e.node (event_of v.operations v.messages e.what) change →
    OnOk told (Goes mid e.node (λ x. changed x change) change.reply change.reply u) → IfErr told (λ fault. fault ≡ Refused NoMemory) → IfErr told (λ _. change.reply ≡ Crashed → ⊥) → OnErr told (u ≡ mid) → Passes t v e told u
passed_at t v mid u e change (Ok done) same inside p goes lacked stays left = record {
  answer = Ok change.reply;
  tells = refl;
  follows = follows_in t v u e (Ok change.reply) inside (gone_at t v mid u e.node (event_of v.operations v.messages e.what) change (Ok change.reply) same inside p goes tt tt tt);
}
passed_at t v mid u e change (Err fault) same inside p goes lacked stays left = record {
  answer = Err fault;
  tells = refl;
  follows = follows_in t v u e (Err fault) inside (gone_at t v mid u e.node (event_of v.operations v.messages e.what) change (Err fault) same inside p tt (ap (λ f. Err f) lacked) stays left);
}

-- the result of an event that is refused
pub stayed_at : (t : Table) (v u : WorldValue) (me : NodeId) (what : Result Event WorldFault) (fault : WorldFault) → u ≡ v → HappensAt t v me what (Err fault) v → HappensAt t v me what (Err fault) u
stayed_at t v u me what fault same h = subst (λ (x : WorldValue). HappensAt t v me what (Err fault) x) (sym same) h

-- ---- states and messages mean issued operations
-- a prepared change preserves it
made_gone : (t : Table) (v mid u : WorldValue) (me : NodeId) (what : What) (change : ChangeValue) (given : Reply) → IsMade v → mid ≡ v → me.0 < length v.nodes → IsPreparedAt t v.nodes me (event_of v.operations v.messages what) change → Goes mid me (λ x. changed x change) change.reply given u → IsMade u
made_gone t v mid u me what change given made same inside p goes =
    goes_made t v u me what p.event p.before (λ x. changed x change) change.reply given made p.happens (record { inside = inside; there = p.there }) p.prepared
    (subst (λ (m : WorldValue). Goes m me (λ x. changed x change) change.reply given u) same goes)

pub made_at : (t : Table) (v mid u : WorldValue) (me : NodeId) (what : What) (change : ChangeValue) (answer : Result Reply WorldFault) → IsMade v → mid ≡ v → me.0 < length v.nodes → IsPreparedAt t v.nodes me (event_of v.operations v.messages what) change →
    IfOk answer (λ reply. Goes mid me (λ x. changed x change) change.reply reply u) → OnErr answer (u ≡ mid) → IsMade u
made_at t v mid u me what change (Ok reply) made same inside p goes left = made_gone t v mid u me what change reply made same inside p goes
made_at t v mid u me what change (Err fault) made same inside p goes left = subst IsMade (sym (left ∙ same)) made

-- a prepared change preserves it without the reply
pub made_past : (t : Table) (v mid u : WorldValue) (me : NodeId) (what : What) (change : ChangeValue) (told : Result (Unit {0}) WorldFault) → IsMade v → mid ≡ v → me.0 < length v.nodes → IsPreparedAt t v.nodes me (event_of v.operations v.messages what) change →
    OnOk told (Goes mid me (λ x. changed x change) change.reply change.reply u) → OnErr told (u ≡ mid) → IsMade u
made_past t v mid u me what change (Ok done) made same inside p goes left = made_gone t v mid u me what change change.reply made same inside p goes
made_past t v mid u me what change (Err fault) made same inside p goes left = subst IsMade (sym (left ∙ same)) made

-- heard dots decide whether a node's state is above an incoming message
pub message_by_dots : (v : WorldValue) (me : NodeId) (x : NodeValue) (k : ℕ) (m : Message) → HeardDotsAreOrder → IsMade v → Here v me x → counted v.messages k ≡ Some m → IfSome (state_of x) (IsBelowByDots (content_of m.body))
message_by_dots v me x k m law made here there =
    if_some_weaker (state_of x) (λ s means. law v.operations (content_of m.body) s made.distinct (bodies_mean v k m made there) means) (states_mean v me.0 x made here.there)

-- a heard dot decides whether a node's state is above an incoming operation
pub operation_by_dot : (v : WorldValue) (me : NodeId) (x : NodeValue) (k : ℕ) (o : Operation) → OneDotIsOrder → IsMade v → Here v me x → counted v.operations k ≡ Some o → IfSome (state_of x) (IsBelowByDot o)
operation_by_dot v me x k o law made here there =
    if_some_weaker (state_of x) (λ s means. law v.operations o s made.distinct (counted_in v.operations k o there) means) (states_mean v me.0 x made here.there)
