-- The model world never returns `NoMemory`.
use Rattle.std.proofs.Common.{◌≡◌, true, false, cond, List, Option, Some, None, Result, Ok, Err, refl, ap, ◌∙◌}
use Rattle.dac_model_world.specs.laws.Common.{nat_lt, NodeId, Operation, Table, WorldEvent, What, Deliver, Hand, Message, Event, Reply, Refusal, NoMemory, WorldFault, NoSuchNode, Refused, ModelRunning, shown, refusal_of, step_by, accepted, ModelWorld, happens, happens_by, answered_by, event_of, handed_by, out_of_memory}
use Rattle.dac_events.specs.declared.world_fault.WorldFault.TheVariants.{NoSuchMessage, NoSuchOperation}
use Rattle.dac_model_node.specs.laws.Refused.{never_memory}
use Rattle.dac_model_world.specs.ModelWorld.{heard_by, counted}

abbrev Answer : Type 0
Answer = Result Reply WorldFault

-- the result isn't `NoMemory`
abbrev Enough : Answer → Type 0
Enough a = a ≡ out_of_memory → ⊥

enough_ok : (reply : Reply) → Enough (Ok reply)
enough_ok reply e = cc

enough_fault : (fault : WorldFault) → (fault ≡ Refused NoMemory → ⊥) → Enough (Err fault)
enough_fault fault other e = other (fault_same fault (Refused NoMemory) e)
  where
    fault_of : WorldFault → Answer → WorldFault
    fault_of f (Ok reply) = f
    fault_of f (Err fault) = fault

    fault_same : (f g : WorldFault) → ◌≡◌ {A = Answer} (Err f) (Err g) → f ≡ g
    fault_same f g e = ap (fault_of f) e

enough_refused : (why : Refusal) → (why ≡ NoMemory → ⊥) → Enough (Err (Refused why))
enough_refused why other = enough_fault (Refused why) (λ e. other (why_same why NoMemory e))
  where
    why_of : Refusal → WorldFault → Refusal
    why_of w NoSuchNode = w
    why_of w NoSuchMessage = w
    why_of w NoSuchOperation = w
    why_of w (Refused v) = v

    why_same : (v u : Refusal) → Refused v ≡ Refused u → v ≡ u
    why_same v u e = ap (why_of v) e

module _ (t : Table) (w : ModelWorld) (n : NodeId) where
  enough_accepted : (e : Event) (running : Option ModelRunning) → let st = accepted t n (w.node n).last running e in Enough (answered_by w n st.node st.answer).answer
  enough_accepted e None = enough_ok _
  enough_accepted e (Some r) = enough_ok _

  enough_by : (r : Result Event WorldFault) → ((fault : WorldFault) → r ≡ Err fault → fault ≡ Refused NoMemory → ⊥) → Enough (happens_by t w n r).answer
  enough_by (Err fault) other = enough_fault fault (other fault refl)
  enough_by (Ok e) other = elim (refusal_of t (shown t (w.node n)) e) as (λ r. refusal_of t (shown t (w.node n)) e ≡ r → let st = step_by r t n (w.node n) e in Enough (answered_by w n st.node st.answer).answer) [
    | None ↦ λ _. enough_accepted e (w.node n).running
    | Some why ↦ λ is. enough_refused why (λ p. never_memory t (shown t (w.node n)) e (is ∙ ap (λ x. Some x) p))
  ] refl

no_message : (m : Option Message) (fault : WorldFault) → heard_by m ≡ Err fault → fault ≡ Refused NoMemory → ⊥
no_message None fault e p = cc
no_message (Some m) fault e p = cc

no_operation : (o : Option Operation) (fault : WorldFault) → handed_by o ≡ Err fault → fault ≡ Refused NoMemory → ⊥
no_operation None fault e p = cc
no_operation (Some o) fault e p = cc

event_fault : (os : List Operation) (ms : List Message) (what : What) (fault : WorldFault) → event_of os ms what ≡ Err fault → fault ≡ Refused NoMemory → ⊥
event_fault os ms (Deliver k) fault e p = no_message (counted ms k) fault e p
event_fault os ms (Hand k) fault e p = no_operation (counted os k) fault e p
event_fault os ms _ fault e p = cc

-- no event has this result
pub enough_memory : (t : Table) (w : ModelWorld) (e : WorldEvent) → (happens t w e).answer ≡ out_of_memory → ⊥
enough_memory t w e =
    elim (nat_lt e.node.0 w.count) as (λ b. Enough (cond b (happens_by t w e.node (event_of w.operations w.messages e.what)) (record { world = w; answer = Err NoSuchNode })).answer) [
      | true ↦ enough_by t w e.node (event_of w.operations w.messages e.what) (event_fault w.operations w.messages e.what)
      | false ↦ enough_fault NoSuchNode (λ p. no p)
    ]
  where
    no : NoSuchNode ≡ Refused NoMemory → ⊥
    no p = cc
