-- A share, pair by pair.
use Rattle.std.proofs.Common.{◌≡◌, ℕ, ◌+◌, ◌<◌, ◌≤◌, Bool, true, false, cond, List, [], ◌∷◌, ◌++◌, length, get_or, take, zero, suc, Option, Some, None, Result, Ok, Err, refl, sym, ap, ap₂, subst, ◌∙◌, arith, ⊎_elim, add-one, append-nil, true≢false}
use Rattle.dac_play.proofs.Common.{◌≢◌, fold, IfOk, OnOk, is_ok, take_all, NodeId, Table, WorldEvent, StateValue, Reply, WorldValue, Shows, Done, Lacked, out_of_memory, numbered, pairs, TellsEachOther, state_at, HasState, having_state, shipping, delivery, after_telling, Leads}
use Rattle.std.specs.Borrow.{Bor}
use Rattle.std.specs.Option.{is_some, option_copied}
use Rattle.std.proofs.lemmas.List.Sums.{fold_more}
use Rattle.std.proofs.lemmas.List.FromFn.{filter_of_map_range_with_len_more}
use Rattle.dac_core.specs.WorldFault.{WorldFault}
use Rattle.dac_core.specs.WorldFault.TheVariants.{Refused}
use Rattle.dac_events.specs.declared.refusal.Refusal.TheVariants.{NoMemory}
use Rattle.dac_core.specs.ModelWorld.{ModelWorld, happens}
use Rattle.dac_core.specs.Passing.{Passes, TellsFault}
use Rattle.dac_play.specs.Play.{IsShared}
use Rattle.dac_play.specs.Sharing.{state_in, shared, IsAnswered}
use Rattle.dac_play.proofs.EachOther.{tell_each_other}
use Rattle.dac_play.proofs.Playing.{state_shown}

-- ---- one event
-- a result without its reply is Ok if and only if the result is
tells_ok : (answer : Result Reply WorldFault) (told : Result (Unit {0}) WorldFault) → TellsFault answer told → is_ok told ≡ is_ok answer
tells_ok answer (Ok done) is = sym is
tells_ok answer (Err fault) is = sym (ap is_ok is)

abbrev without_reply : Result Reply WorldFault → Result (Unit {0}) WorldFault
without_reply (Ok reply) = Ok tt
without_reply (Err fault) = Err fault

-- a failed allocation is reported
tells_lack : (answer : Result Reply WorldFault) (told : Result (Unit {0}) WorldFault) → TellsFault answer told → answer ≡ out_of_memory → told ≡ Err (Refused NoMemory)
tells_lack answer (Ok done) is lacks = absurd (true≢false (sym is ∙ ap is_ok lacks))
tells_lack answer (Err fault) is lacks = ap without_reply (sym is ∙ lacks)

accepts : (table : Table) (old new : WorldValue) (event : WorldEvent) (told : Result (Unit {0}) WorldFault) → Passes table old event told new → told ≢ Err (Refused NoMemory) → IsAnswered table old event (is_ok told) new
accepts table old new event told passes enough = record {
  each = λ w shows.
      let p = passes.follows.each w shows in
      ⊎_elim (λ (done : Done (happens table w event) passes.answer p.0). (tells_ok passes.answer told passes.tells ∙ ap is_ok done.answered, subst (λ x. Shows table x new) done.went_on p.1.1))
      (λ (lacked : Lacked w (happens table w event) passes.answer p.0). absurd (enough (tells_lack passes.answer told passes.tells lacked.answered)))
      p.1.0;
}

-- an event that can fail for lack of memory
pub accepts_if : {E : Type 0} (r : Result Bool E) (table : Table) (old new : WorldValue) (event : WorldEvent) (told : Result (Unit {0}) WorldFault) → Passes table old event told new → IfOk r (λ a. a ≡ is_ok told) → OnOk r (told ≢ Err (Refused NoMemory))
    → IfOk r (λ a. IsAnswered table old event a new)
accepts_if (Ok a) table old new event told passes known enough = subst (λ b. IsAnswered table old event b new) (sym known) (accepts table old new event told passes enough)
accepts_if (Err e) table old new event told passes known enough = tt

-- ---- one pair
pub told_nothing : (table : Table) (old new : WorldValue) (pair : NodeId × NodeId) → IsAnswered table old (shipping pair) false new → Leads table old (λ w. after_telling table w pair) new
told_nothing table old new pair shipped = record {
  each = λ w shows.
      let ship = shipped.each w shows in
      let by = happens table w (shipping pair) in
      subst (λ (b : Bool). Shows table (cond b (happens table by.world (delivery (length by.world.messages) pair.1)).world by.world) new) ship.0 ship.1;
}

pub told_one : (table : Table) (old mid new : WorldValue) (pair : NodeId × NodeId) (heard : Bool) → IsAnswered table old (shipping pair) true mid → IsAnswered table mid (delivery (length mid.messages) pair.1) heard new → Leads table old (λ w. after_telling table w pair) new
told_one table old mid new pair heard shipped delivered = record {
  each = λ w shows.
      let ship = shipped.each w shows in
      let by = happens table w (shipping pair) in
      let hears = delivered.each by.world ship.1 in
      let counted = subst (λ (n : ℕ). Shows table (happens table by.world (delivery n pair.1)).world new) (ap length ship.1.messages) hears.1 in
      subst (λ (b : Bool). Shows table (cond b (happens table by.world (delivery (length by.world.messages) pair.1)).world by.world) new) ship.0 counted;
}

-- ---- all pairs
pub share_more : (table : Table) (old mid new : WorldValue) (all : List (NodeId × NodeId)) (i : ℕ) (pair d : NodeId × NodeId) → i < length all → pair ≡ get_or all i d
    → Leads table old (λ w. fold (after_telling table) w (take i all)) mid → Leads table mid (λ w. after_telling table w pair) new → Leads table old (λ w. fold (after_telling table) w (take (i + 1) all)) new
share_more table old mid new all i pair d lt here before more = record {
  each = λ w shows.
      let more_is = fold_more (after_telling table) w all i d lt ∙ ap (after_telling table (fold (after_telling table) w (take i all))) (sym here) in
      subst (λ x. Shows table x new) (sym more_is) (more.each (fold (after_telling table) w (take i all)) (before.each w shows));
}

-- ---- running nodes
pub is_some_copied : {X : Type 0} (o : Option (Bor X)) → is_some o ≡ is_some (option_copied o)
is_some_copied None = refl
is_some_copied (Some x) = refl

having_more : (state : NodeId → Option StateValue) (n : ℕ) → having_state state (n + 1) ≡ having_state state n ++ cond (is_some (state (numbered n))) (numbered n ∷ []) []
having_more state n = filter_of_map_range_with_len_more (λ node. is_some (state node)) numbered 0 n n (omega arith)

pub having_with : (state : NodeId → Option StateValue) (n : ℕ) (nodes : List NodeId) → is_some (state (numbered n)) ≡ true → nodes ≡ having_state state n → nodes ++ numbered n ∷ [] ≡ having_state state (n + 1)
having_with state n nodes has is = ap (λ l. l ++ numbered n ∷ []) is ∙ sym (having_more state n ∙ ap (λ b. having_state state n ++ cond b (numbered n ∷ []) []) has)

pub having_without : (state : NodeId → Option StateValue) (n : ℕ) (nodes : List NodeId) → is_some (state (numbered n)) ≡ false → nodes ≡ having_state state n → nodes ≡ having_state state (n + 1)
having_without state n nodes lacks is = is ∙ sym (having_more state n ∙ ap (λ b. having_state state n ++ cond b (numbered n ∷ []) []) lacks ∙ append-nil (having_state state n))

same_having : (f g : NodeId → Option StateValue) (n : ℕ) → ((k : ℕ) → k < n → f (numbered k) ≡ g (numbered k)) → having_state f n ≡ having_state g n
same_having f g zero same = refl
same_having f g (suc n) same =
    ap (having_state f) (sym (add-one n)) ∙ having_more f n
    ∙ ap₂ (λ l b. l ++ cond b (numbered n ∷ []) []) (same_having f g n (λ k lt. same k (omega arith))) (ap is_some (same n (omega arith)))
    ∙ sym (having_more g n) ∙ ap (having_state g) (add-one n)

-- the same nodes run in the program's world and in the model world
runs_shown : (table : Table) (w : ModelWorld) (v : WorldValue) → Shows table w v → having_state (state_at v) (length v.nodes) ≡ having_state (state_in w) w.count
runs_shown table w v shows = same_having (state_at v) (state_in w) (length v.nodes) (λ k lt. state_shown table w v (numbered k) shows lt) ∙ ap (having_state (state_in w)) shows.count

pub share_all : (table : Table) (old new : WorldValue) (all : List (NodeId × NodeId)) (i count : ℕ) → length all ≤ i → length old.nodes ≡ count → all ≡ pairs (having_state (state_at old) count)
    → Leads table old (λ w. fold (after_telling table) w (take i all)) new → Leads table old (shared table) new
share_all table old new all i count le is_count is_all leads = record {
  each = λ w shows.
      let all_is = is_all ∙ ap (λ n. pairs (having_state (state_at old) n)) (sym is_count) ∙ ap pairs (runs_shown table w old shows) in
      subst (λ l. Shows table (fold (after_telling table) w l) new) (take_all i all le ∙ all_is) (leads.each w shows);
}

-- after the last pair the share is complete
pub shares_all : (table : Table) (old new : WorldValue) (all : List (NodeId × NodeId)) (i count : ℕ) → length all ≤ i → length old.nodes ≡ count → all ≡ pairs (having_state (state_at old) count)
    → Leads table old (λ w. fold (after_telling table) w (take i all)) new → IsShared table old new
shares_all table old new all i count le is_count is_all leads = record {
  pairs = all;
  each_other = subst (TellsEachOther (HasState (state_at old) (length old.nodes))) (sym (is_all ∙ ap (λ n. pairs (having_state (state_at old) n)) (sym is_count))) (tell_each_other (λ node. is_some (state_at old node)) (length old.nodes));
  leads = record { each = λ w shows. subst (λ l. Shows table (fold (after_telling table) w l) new) (take_all i all le) (leads.each w shows) };
}
