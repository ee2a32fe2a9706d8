-- The worked runs before their rounds: one more accepted event, and handed operations.
use Rattle.std.proofs.Common.{◌≡◌, ℕ, ◌+◌, ◌≤◌, Bool, true, false, not, cond, ◌&&◌, List, [], ◌∷◌, ◌++◌, length, Some, None, Ok, refl, sym, ap, ◌∙◌, arith, inl}
use Rattle.dac_settle.specs.laws.Common.{nat_lt, leb-true, le-ltb, NodeId, MAX_COUNTER, Operation, StateValue, meaning_of, is_below, Note, WorldEvent, HearOp, Reply, Heard, DotsUsedUp, no_peers, WorldFault, ModelNode, ModelRunning, joined, shown, base_after, refusal_of, ModelWorld, WorldStepped, start, happens, answered_by, NodeSet, SetWorld, Sound, held_at, worked_table, first_of}
use Rattle.std.specs.Prelude.{Result}
use Rattle.std.proofs.lemmas.List.{length-append}
use Rattle.dac_commands.specs.Causes.{first}
use Rattle.dac_model_world.specs.Transitions.{brings}
use Rattle.dac_model_world.specs.ModelWorld.{Run}
use Rattle.dac_model_world.specs.laws.Runs.{Run-push}
use Rattle.dac_settle.specs.laws.AnyPlacement.{one}

abbrev pub Answer : Type 0
Answer = Result Reply WorldFault

-- ---- events
-- the world at the start
abbrev pub w0 : ModelWorld
w0 = start worked_table

-- one more event, which is accepted
pub pushed : (w : ModelWorld) (es : List WorldEvent) (answers : List Answer) (e : WorldEvent) (d : ModelNode) (reply : Reply) → Run worked_table w0 es answers w → happens worked_table w e ≡ answered_by w e.node d (Ok reply) →
    Run worked_table w0 (es ++ e ∷ []) (answers ++ Ok reply ∷ []) (answered_by w e.node d (Ok reply)).world
pushed w es answers e d reply run is = Run-push worked_table w0 es answers w e (Ok reply) (answered_by w e.node d (Ok reply)).world run (inl (record { answered = sym (ap (λ (by : WorldStepped). by.answer) is); went_on = sym (ap (λ (by : WorldStepped). by.world) is) }))

-- a node's state is the meaning of its set
pub known_there : (w : ModelWorld) (s : SetWorld) (n : NodeId) (r : ModelRunning) (set : NodeSet) → Sound w s → (w.node n).running ≡ Some r → s.node n ≡ Some set → joined r.log ≡ meaning_of set.operations
known_there w s n r set h runs holds =
    let held = held_at w s n r h runs in
    let same : set ≡ held.set = one (sym holds ∙ held.is) in
    held.state ∙ sym (ap (λ (x : NodeSet). meaning_of x.operations) same)

-- ---- handed operations
abbrev pub run_of : NodeId → Bool → List Note → List StateValue → ℕ → ModelRunning
run_of n opened notes log base = record { origin = first_of n; moments = record { booted = 0; last = 0 }; is_open = opened; notes = notes; log = log; base = base; peers = no_peers }

-- a node with this running state
abbrev pub running_so : NodeId → Bool → List Note → List StateValue → ℕ → ModelNode
running_so n opened notes log base = record { last = 1; running = Some (run_of n opened notes log base) }

-- a node that booted and hasn't ticked
abbrev pub waiting : NodeId → List StateValue → ℕ → ModelNode
waiting n log base = running_so n false [] log base

-- its log after it is handed an operation
abbrev pub with_op : List StateValue → Operation → List StateValue
with_op log o = log ++ brings (joined log) (meaning_of (o ∷ []))

abbrev pub base_with : ℕ → List StateValue → Operation → ℕ
base_with base log o = base_after base (length (with_op log o)) 0

abbrev pub hearing : List StateValue → Operation → Reply
hearing log o = Heard (not (is_below (meaning_of (o ∷ [])) (joined log)))

-- numbers of deltas are left for anything new
has_room : (b : Bool) → first ((b && false, DotsUsedUp) ∷ []) ≡ None
has_room true = refl
has_room false = refl

pub few_by : (l : ℕ) → l ≤ 9 → nat_lt MAX_COUNTER (l + 1) ≡ false
few_by l h = le-ltb MAX_COUNTER (l + 1) (omega (arith, leb-true 10 MAX_COUNTER refl))

pub longer : (log : List StateValue) (o : Operation) → length (with_op log o) ≤ length log + 1
longer log o = by_test (is_below (meaning_of (o ∷ [])) (joined log))
  where
    by_test : (b : Bool) → length (log ++ cond b [] (meaning_of (o ∷ []) ∷ [])) ≤ length log + 1
    by_test true = let l = length-append log [] in omega arith
    by_test false = let l = length-append log (meaning_of (o ∷ []) ∷ []) in omega arith

pub hears_op : (n : NodeId) (opened : Bool) (notes : List Note) (log : List StateValue) (base : ℕ) (o : Operation) → length log ≤ 9 → refusal_of worked_table (shown worked_table (running_so n opened notes log base)) (HearOp o) ≡ None
hears_op n opened notes log base o short =
    let fresh = not (is_below (meaning_of (o ∷ [])) (joined log)) in
    (λ i. first ((fresh && few_by (length log) short i, DotsUsedUp) ∷ [])) ∙ has_room fresh

pub wide : (l k : ℕ) → l ≤ k → k ≤ 9 → l ≤ 9
wide l k h small = omega arith
