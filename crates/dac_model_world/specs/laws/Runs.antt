-- Runs by their steps: the first event and the rest, and one more event at the end.
use Rattle.std.proofs.Common.{◌≡◌, ℕ, zero, suc, ◌<◌, ◌+◌, Bool, true, false, Some, None, List, [], ◌∷◌, ◌++◌, length, get_or, take, drop, Result, Err, inl, inr, refl, ap, sym, subst, ◌∙◌}
use Rattle.dac_model_world.specs.laws.Common.{nat_lt, slice_get, Table, WorldEvent, Reply, NoMemory, WorldFault, Refused, NodeValue, shown, some_same, WorldValue, ModelWorld, Step, IsAnswer, AnsweredAs, Run, RanAs, Follows, Shows, happens, start, went, world_after, numbered, out_of_memory}
use Rattle.std.specs.Prelude.{cond}
use Rattle.std.proofs.lemmas.List.{take_more}
use Rattle.dac_model_world.specs.laws.Memory.{enough_memory}

-- ---- one event
-- unless an allocation failed, the world goes on as the rules say
pub went_by_rules : (t : Table) (w : ModelWorld) (e : WorldEvent) (a : Result Reply WorldFault) → (a ≡ out_of_memory → ⊥) → went t w e a ≡ (happens t w e).world
went_by_rules t w e (Err (Refused NoMemory)) enough = absurd (enough refl)
went_by_rules t w e _ enough = refl

-- the result of the rules leads to the world of the rules
pub went_as_answered : (t : Table) (w : ModelWorld) (e : WorldEvent) (a : Result Reply WorldFault) → a ≡ (happens t w e).answer → went t w e a ≡ (happens t w e).world
went_as_answered t w e a is = went_by_rules t w e a (λ no. enough_memory t w e (sym is ∙ no))

-- a possible result is that of a step to the world after the event
pub step_to : (t : Table) (w : ModelWorld) (e : WorldEvent) (a : Result Reply WorldFault) → IsAnswer (happens t w e) a → Step w (happens t w e) a (went t w e a)
step_to t w e a (inl is) = inl (record { answered = is; went_on = went_as_answered t w e a is })
step_to t w e a (inr lacked) = inr (record { answered = lacked.0; accepted = lacked.1.accepted; wants = lacked.1.wants; stayed = ap (went t w e) lacked.0 })

-- a step has a possible result, and leads to no other world
pub step_answers : (t : Table) (w : ModelWorld) (e : WorldEvent) (a : Result Reply WorldFault) (next : ModelWorld) → Step w (happens t w e) a next → IsAnswer (happens t w e) a × (next ≡ went t w e a)
step_answers t w e a next (inl done) = (inl done.answered, done.went_on ∙ sym (went_as_answered t w e a done.answered))
step_answers t w e a next (inr lacked) = (inr (lacked.answered, record { accepted = lacked.accepted; wants = lacked.wants }), lacked.stayed ∙ sym (ap (went t w e) lacked.answered))

-- ---- the first event and the rest
pub run_first : (t : Table) (w : ModelWorld) (e : WorldEvent) (es : List WorldEvent) (a : Result Reply WorldFault) (answers : List (Result Reply WorldFault)) (final : ModelWorld) →
    Run t w (e ∷ es) (a ∷ answers) final → (next : ModelWorld) × (Step w (happens t w e) a next × Run t next es answers final)
run_first t w e es a answers final r = (went t w e a, (step_to t w e a r.0.0, (r.0.1, r.1)))

pub run_from_first : (t : Table) (w : ModelWorld) (e : WorldEvent) (es : List WorldEvent) (a : Result Reply WorldFault) (answers : List (Result Reply WorldFault)) (next final : ModelWorld) →
    Step w (happens t w e) a next → Run t next es answers final → Run t w (e ∷ es) (a ∷ answers) final
run_from_first t w e es a answers next final s r =
    let by = step_answers t w e a next s in
    let rest : Run t (went t w e a) es answers final = subst (λ (v : ModelWorld). Run t v es answers final) by.1 r in
    ((by.0, rest.0), rest.1)

-- ---- the first k events and the rest
pub answered_take : (t : Table) (w : ModelWorld) (es : List WorldEvent) (answers : List (Result Reply WorldFault)) (k : ℕ) → AnsweredAs t w es answers → AnsweredAs t w (take k es) (take k answers)
answered_take t w es answers zero h = tt
answered_take t w [] [] (suc k) h = tt
answered_take t w [] (a ∷ answers) (suc k) h = absurd h
answered_take t w (e ∷ es) [] (suc k) h = absurd h
answered_take t w (e ∷ es) (a ∷ answers) (suc k) h = (h.0, answered_take t (went t w e a) es answers k h.1)

pub answered_drop : (t : Table) (w : ModelWorld) (es : List WorldEvent) (answers : List (Result Reply WorldFault)) (k : ℕ) → AnsweredAs t w es answers → AnsweredAs t (world_after t w (take k es) (take k answers)) (drop k es) (drop k answers)
answered_drop t w es answers zero h = h
answered_drop t w [] [] (suc k) h = tt
answered_drop t w [] (a ∷ answers) (suc k) h = absurd h
answered_drop t w (e ∷ es) [] (suc k) h = absurd h
answered_drop t w (e ∷ es) (a ∷ answers) (suc k) h = answered_drop t (went t w e a) es answers k h.1

-- ---- one more event
pub Run-push : (t : Table) (w : ModelWorld) (es : List WorldEvent) (bs : List (Result Reply WorldFault)) (mid : ModelWorld) (e : WorldEvent) (a : Result Reply WorldFault) (next : ModelWorld) →
    Run t w es bs mid → Step mid (happens t mid e) a next → Run t w (es ++ e ∷ []) (bs ++ a ∷ []) next
Run-push t w [] [] mid e a next r s = run_from_first t w e [] a [] next next (subst (λ (m : ModelWorld). Step m (happens t m e) a next) r.1 s) (tt, refl)
Run-push t w [] (b ∷ bs) mid e a next r s = absurd r.0
Run-push t w (x ∷ es) [] mid e a next r s = absurd r.0
Run-push t w (x ∷ es) (b ∷ bs) mid e a next r s = let more = Run-push t (went t w x b) es bs mid e a next (r.0.1, r.1) s in ((r.0.0, more.0), more.1)

pub ran_more : (t : Table) (es : List WorldEvent) (bs : List (Result Reply WorldFault)) (v : WorldValue) (e : WorldEvent) (a : Result Reply WorldFault) (u : WorldValue) →
    RanAs t es bs v → Follows t v (λ w. happens t w e) a u → RanAs t (es ++ e ∷ []) (bs ++ a ∷ []) u
ran_more t es bs v e a u r f =
    let next = f.each r.final r.shows in
    record { final = next.0; run = Run-push t (start t) es bs r.final e a next.0 r.run next.1.0; shows = next.1.1 }

-- one iteration of the loop over the events
pub ran_next : (t : Table) (es : List WorldEvent) (i : ℕ) (bs : List (Result Reply WorldFault)) (v u : WorldValue) (e : WorldEvent) (a : Result Reply WorldFault) →
    Follows t v (λ w. happens t w e) a u → i < length es → e ≡ get_or es i e → RanAs t (take i es) bs v → RanAs t (take (i + 1) es) (bs ++ a ∷ []) u
ran_next t es i bs v u e a f lt read r =
    subst (λ all. RanAs t all (bs ++ a ∷ []) u) (sym (take_more es i e lt ∙ ap (λ x. take i es ++ (x ∷ [])) (sym read)))
    (ran_more t (take i es) bs v e a u r f)

-- ---- the program's world
-- the node at a place of the program's world
pub node_there : (t : Table) (w : ModelWorld) (v : WorldValue) → Shows t w v → (n : ℕ) (x : NodeValue) → slice_get v.nodes n ≡ Some x → x ≡ shown t (w.node (numbered n))
node_there t w v h n x e = there (nat_lt n w.count) (sym (h.nodes n) ∙ e)
  where
    there : (b : Bool) → cond b (Some (shown t (w.node (numbered n)))) None ≡ Some x → x ≡ shown t (w.node (numbered n))
    there true p = sym (some_same (shown t (w.node (numbered n))) x p)
    there false p = absurd (no p)
      where
        no : None ≡ Some x → ⊥
        no q = cc
