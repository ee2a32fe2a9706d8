-- The node repeats the next record of a journal.
use Rattle.std.proofs.Common.{◌≡◌, ◌≢◌, Result, Ok, Err, IfOk, IfErr, ℕ, ◌+◌, ◌<◌, List, [], ◌∷◌, ◌++◌, length, take, get_or, refl, sym, ap, subst, ◌∙◌}
use Rattle.dac_live.proofs.Common.{take_more, Reply, Refusal, NodeValue, Steps, Record}
use Rattle.dac_base.specs.declared.NodeId.{NodeId}
use Rattle.dac_config.specs.Table.{Table}
use Rattle.dac_messages.specs.declared.event.Event.{Event}
use Rattle.dac_events.specs.declared.refusal.Refusal.TheVariants.{NoMemory}
use Rattle.dac_journal.specs.NodeValue.{off}
use Rattle.dac_journal.specs.Histories.{off_after}
use Rattle.dac_journal.specs.laws.Going.{goes_on}
use Rattle.dac_journal.specs.Journals.{Beginning, EndsAt}

-- the node's step is one with this result
stepped : (t : Table) (me : NodeId) (old new : NodeValue) (e : Event) (a : Result Reply Refusal) → IfOk a (λ reply. Steps t me old e new (Ok reply))
    → IfErr a (λ why. (why ≡ NoMemory → ⊥) → Steps t me old e new (Err why)) → IfErr a (λ why. why ≢ NoMemory) → Steps t me old e new a
stepped t me old new e (Ok reply) ok refused told = ok
stepped t me old new e (Err why) ok refused told = refused told

-- if the results are equal, it is a step with the record's result
pub repeated : (t : Table) (me : NodeId) (old new : NodeValue) (e asked : Event) (a said : Result Reply Refusal) → IfOk a (λ reply. Steps t me old e new (Ok reply))
    → IfErr a (λ why. (why ≡ NoMemory → ⊥) → Steps t me old e new (Err why)) → IfErr a (λ why. why ≢ NoMemory) → e ≡ asked → a ≡ said → Steps t me old asked new said
repeated t me old new e asked a said ok refused told is same =
    subst (λ (x : Event). Steps t me old x new said) is (subst (λ (b : Result Reply Refusal). Steps t me old e new b) same (stepped t me old new e a ok refused told))

-- a step from the node where some records end leads to the node where one more ends
pub ends_on : (o : Beginning) (rs : List Record) (i : ℕ) (r : Record) (old new : NodeValue) → i < length rs → r ≡ get_or rs i r → EndsAt o (take i rs) old → Steps o.table o.node old r.event new r.answer → EndsAt o (take (i + 1) rs) new
ends_on o rs i r old new within at ends step =
    let more : take (i + 1) rs ≡ take i rs ++ r ∷ [] = take_more rs i r within ∙ ap (λ (x : Record). take i rs ++ x ∷ []) (sym at) in
    subst (λ (xs : List Record). EndsAt o xs new) (sym more) (goes_on o (take i rs) old new r.seat r.event r.answer ends step)

-- no records end at a node that is off
pub ends_off : (o : Beginning) (v : NodeValue) → v ≡ off o.last → EndsAt o [] v
ends_off o v is = record { final = off_after o.last; history = refl; shows = sym is }
