-- Laws of meanings for runs.
use Rattle.std.proofs.Common.{◌≡◌, Bool, true, false, inl, inr, List, [], ◌∷◌, ◌++◌, cond, refl, sym, ap, subst, ◌∙◌}
use Rattle.dac_model_world.specs.laws.Common.{same_dot_is, same_dot_itself, Operation, bottom, join, state_laws, meaning_of, IsOperationOf, AreOperationsOf, DotsDetermine, has_dot, heard-meaning, In-append_left, Within-append, found, finds, meaning-same, join-meaning, heard_among}
use Rattle.std.specs.List.{filter}
use Rattle.std.specs.FinSet as set
use Rattle.dac_meaning.specs.StateValue.{IsBelow}
use Rattle.dac_meaning.specs.laws.StateLaws.{bottom_value, bottom_least}
use Rattle.dac_meaning.specs.laws.Joins.{meaning-state}
use Rattle.dac_model_world.specs.laws.Operations.{Agree-within}

-- the join of a state with bottom is the state
pub join-bottom : (os : List Operation) → join bottom (meaning_of os) ≡ meaning_of os
join-bottom os =
    let s = meaning_of os in
    let u = meaning-state os in
    state_laws.antisymm (join bottom s) s (state_laws.closed bottom s bottom_value u) u
    (state_laws.least bottom s s bottom_value u u (bottom_least s u) (state_laws.refl s u))
    (state_laws.right bottom s bottom_value u)

-- an operation of a set is heard in its meaning, and each dot heard is one's
pub heard_in : (os : List Operation) (o : Operation) → IsOperationOf o os → set.contains (meaning_of os).heard o.dot ≡ true
heard_in os o h = heard-meaning os o.dot ∙ finds (has_dot o.dot) os o h (same_dot_itself o.dot)

in_heard : (os ops : List Operation) → AreOperationsOf os ops → DotsDetermine ops → (o : Operation) → IsOperationOf o ops → set.contains (meaning_of os).heard o.dot ≡ true → IsOperationOf o os
in_heard os ops w agree o h t =
    let f = found (has_dot o.dot) os (sym (heard-meaning os o.dot) ∙ t) in
    subst (λ (p : Operation). IsOperationOf p os) (sym (agree o f.0 h (w f.0 f.1.0) (same_dot_is o.dot f.0.dot f.1.1))) f.1.0

-- operations whose meaning is below a set's are operations of the set
pub below_in : (os ps ops : List Operation) → AreOperationsOf os ops → AreOperationsOf ps ops → DotsDetermine ops → IsBelow (meaning_of ps) (meaning_of os) → AreOperationsOf ps os
below_in os ps ops w v agree below o h = in_heard os ops w agree o (v o h) (below.heard o.dot (heard_in ps o h))

-- if each operation of ps is heard in a state, their meaning is below it
pub below_where_heard : (os ps ops : List Operation) → AreOperationsOf os ops → AreOperationsOf ps ops → DotsDetermine ops → ((o : Operation) → IsOperationOf o ps → set.contains (meaning_of os).heard o.dot ≡ true) → IsBelow (meaning_of ps) (meaning_of os)
below_where_heard os ps ops w v agree heard =
    let all : AreOperationsOf (os ++ ps) ops = Within-append os ps ops w v in
    let same : join (meaning_of os) (meaning_of ps) ≡ meaning_of os =
    join-meaning os ps (Agree-within (os ++ ps) ops all agree)
    ∙ sym (meaning-same os (os ++ ps) (λ o h. In-append_left o os ps h) (Within-append os ps os (λ o h. h) (λ o h. in_heard os ops w agree o (v o h) (heard o h)))) in
    subst (IsBelow (meaning_of ps)) same (state_laws.right (meaning_of os) (meaning_of ps) (meaning-state os) (meaning-state ps))

-- ---- the operations heard
In-filter : (p : Operation → Bool) (os : List Operation) (o : Operation) → IsOperationOf o os → p o ≡ true → IsOperationOf o (filter p os)
In-filter p [] o h t = absurd h
In-filter p (x ∷ os) o (inl e) t = subst (λ b. IsOperationOf o (cond b (x ∷ filter p os) (filter p os))) (sym (ap p (sym e) ∙ t)) (inl e)
In-filter p (x ∷ os) o (inr h) t = elim (p x) as (λ b. IsOperationOf o (cond b (x ∷ filter p os) (filter p os))) [ true ↦ inr (In-filter p os o h t) | false ↦ In-filter p os o h t ]

In-kept : (p : Operation → Bool) (x : Operation) (os : List Operation) (o : Operation) → (IsOperationOf o (filter p os) → IsOperationOf o os × (p o ≡ true)) → (b : Bool) → p x ≡ b → IsOperationOf o (cond b (x ∷ filter p os) (filter p os)) → IsOperationOf o (x ∷ os) × (p o ≡ true)
In-kept p x os o rest true t (inl e) = (inl e, ap p e ∙ t)
In-kept p x os o rest true t (inr i) = let r = rest i in (inr r.0, r.1)
In-kept p x os o rest false t i = let r = rest i in (inr r.0, r.1)

In-from_filter : (p : Operation → Bool) (os : List Operation) (o : Operation) → IsOperationOf o (filter p os) → IsOperationOf o os × (p o ≡ true)
In-from_filter p [] o h = absurd h
In-from_filter p (x ∷ os) o h = In-kept p x os o (In-from_filter p os o) (p x) refl h

-- a set's meaning is that of the operations whose dots it has heard
pub meaning-heard_among : (os ops : List Operation) → AreOperationsOf os ops → DotsDetermine ops → meaning_of os ≡ meaning_of (heard_among (meaning_of os).heard ops)
meaning-heard_among os ops w agree =
    meaning-same os (heard_among (meaning_of os).heard ops)
    (λ o h. In-filter (λ (p : Operation). set.contains (meaning_of os).heard p.dot) ops o (w o h) (heard_in os o h))
    (λ o h. let r = In-from_filter (λ (p : Operation). set.contains (meaning_of os).heard p.dot) ops o h in in_heard os ops w agree o r.0 r.1)
