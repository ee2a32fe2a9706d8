-- Histories of one node.
use Rattle.std.proofs.Common.{◌≡◌, List, [], ◌∷◌, ◌++◌, Option, Some, None, Result, Ok, Err, refl, sym, ap, ◌∙◌}
use Rattle.dac_model_world.specs.laws.Common.{NodeId, Table, Event, Reply, Refusal, ModelNode, ModelRunning, shown, refusal_of, model_step, step_by, accepted, Entry, IsHistory}

ok_err : {P : Type 0} (reply : Reply) (why : Refusal) → ◌≡◌ {A = Result Reply Refusal} (Ok reply) (Err why) → P
ok_err reply why e = cc

-- the result of an accepted event is a reply
accepted_ok : {P : Type 0} (t : Table) (me : NodeId) (d : ModelNode) (running : Option ModelRunning) (e : Event) (why : Refusal) → (accepted t me d.last running e).answer ≡ Err why → P
accepted_ok t me d None e why is = ok_err _ why is
accepted_ok t me d (Some r) e why is = ok_err _ why is

-- a refused event leaves the node as it is
pub refused_stays : (t : Table) (me : NodeId) (d : ModelNode) (e : Event) (why : Refusal) → (model_step t me d e).answer ≡ Err why → (model_step t me d e).node ≡ d
refused_stays t me d e why is = stays (refusal_of t (shown t d) e) is
  where
    stays : (r : Option Refusal) → (step_by r t me d e).answer ≡ Err why → (step_by r t me d e).node ≡ d
    stays (Some least) h = refl
    stays None h = accepted_ok t me d d.running e why h

-- a history grows by one event
pub IsHistory-push : (t : Table) (me : NodeId) (d : ModelNode) (xs : List Entry) (mid : ModelNode) (x : Entry) → IsHistory t me d xs mid → (model_step t me mid x.event).answer ≡ x.answer
    → IsHistory t me d (xs ++ x ∷ []) (model_step t me mid x.event).node
IsHistory-push t me d [] mid x h is = (ap (λ m. (model_step t me m x.event).answer) (sym h) ∙ is, ap (λ m. (model_step t me m x.event).node) h)
IsHistory-push t me d (y ∷ xs) mid x h is = (h.0, IsHistory-push t me (model_step t me d y.event).node xs mid x h.1 is)
