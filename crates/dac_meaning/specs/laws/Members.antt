-- Membership of operations in lists, and properties that depend only on it.
use Rattle.std.proofs.Common.{◌≡◌, Bool, true, false, ◌⊎◌, List, [], ◌∷◌, ◌++◌, refl, sym, ap, ◌∙◌, inl, inr}
use Rattle.std.specs.List.{list_any}
use Rattle.std.proofs.lemmas.Bool.{false≢true, or_cases, or_left, or_right, false_from_ne_true}
use Rattle.dac_origins.specs.declared.dot.Dot.{Dot}
use Rattle.dac_lattice.specs.Pieces.{IsGivenIn as InPairs}
use Rattle.dac_wishes.specs.laws.Stores.{both_ways}
use Rattle.dac_wishes.specs.laws.KeyedWrites.{same_dot_is}
use Rattle.dac_operations.specs.declared.act.Act.{Act}
use Rattle.dac_operations.specs.Operations.{Operation, operation}
use Rattle.dac_meaning.specs.Meaning.{IsOperationOf, AreOperationsOf, DotsDetermine, has_dot, pairs}

pub In-append_left : (o : Operation) (os ps : List Operation) → IsOperationOf o os → IsOperationOf o (os ++ ps)
In-append_left o [] ps h = absurd h
In-append_left o (x ∷ os) ps (inl e) = inl e
In-append_left o (x ∷ os) ps (inr h) = inr (In-append_left o os ps h)

pub In-append_right : (o : Operation) (os ps : List Operation) → IsOperationOf o ps → IsOperationOf o (os ++ ps)
In-append_right o [] ps h = h
In-append_right o (x ∷ os) ps h = inr (In-append_right o os ps h)

pub In-append_cases : (o : Operation) (os ps : List Operation) → IsOperationOf o (os ++ ps) → IsOperationOf o os ⊎ IsOperationOf o ps
In-append_cases o [] ps h = inr h
In-append_cases o (x ∷ os) ps (inl e) = inl (inl e)
In-append_cases o (x ∷ os) ps (inr h) = elim (In-append_cases o os ps h) [ inl a ↦ inl (inr a) | inr b ↦ inr b ]

pub Within-append : (os ps qs : List Operation) → AreOperationsOf os qs → AreOperationsOf ps qs → AreOperationsOf (os ++ ps) qs
Within-append os ps qs f g o h = elim (In-append_cases o os ps h) [ inl a ↦ f o a | inr b ↦ g o b ]

-- if a test finds an operation, that is in the list
pub found : (p : Operation → Bool) (os : List Operation) → list_any p os ≡ true → (o : Operation) × (IsOperationOf o os × (p o ≡ true))
found p [] h = absurd (false≢true h)
found p (x ∷ os) h = elim (or_cases (p x) (list_any p os) h) [
  | inl t ↦ (x, (inl refl, t))
  | inr r ↦ let f = found p os r in (f.0, (inr f.1.0, f.1.1))
]

-- a test finds an operation if one in the list passes
pub finds : (p : Operation → Bool) (os : List Operation) (o : Operation) → IsOperationOf o os → p o ≡ true → list_any p os ≡ true
finds p [] o h t = absurd h
finds p (x ∷ os) o (inl e) t = or_left (p x) (list_any p os) (ap p (sym e) ∙ t)
finds p (x ∷ os) o (inr h) t = or_right (p x) (list_any p os) (finds p os o h t)

list_any-Within : (p : Operation → Bool) (os ps : List Operation) → AreOperationsOf os ps → list_any p os ≡ true → list_any p ps ≡ true
list_any-Within p os ps w h = let f = found p os h in finds p ps f.0 (w f.0 f.1.0) f.1.1

-- tests have equal results on lists of the same operations
pub list_any-same : (p : Operation → Bool) (os ps : List Operation) → AreOperationsOf os ps → AreOperationsOf ps os → list_any p os ≡ list_any p ps
list_any-same p os ps f g = both_ways (list_any p os) (list_any p ps) (list_any-Within p os ps f) (list_any-Within p ps os g)

-- if an operation passes a test, some operation passes a wider one
pub list_any-wider : (p q : Operation → Bool) → ((o : Operation) → p o ≡ true → q o ≡ true) → (os : List Operation) → list_any p os ≡ true → list_any q os ≡ true
list_any-wider p q f os h = let o = found p os h in finds q os o.0 o.1.0 (f o.0 o.1.1)

-- if no operation passes a test, none passes a narrower one
pub list_any-narrower : (p q : Operation → Bool) → ((o : Operation) → p o ≡ true → q o ≡ true) → (os : List Operation) → list_any q os ≡ false → list_any p os ≡ false
list_any-narrower p q f os h = false_from_ne_true (list_any p os) (λ t. false≢true (sym h ∙ list_any-wider p q f os t))

-- An operation of os that passes a test for a single dot is in ps, if ps has the dot.
pub shared : (p : Operation → Bool) (d : Dot) → ((o : Operation) → p o ≡ true → has_dot d o ≡ true) → (os ps all : List Operation) → AreOperationsOf os all → AreOperationsOf ps all → DotsDetermine all
    → list_any p os ≡ true → list_any (has_dot d) ps ≡ true → list_any p ps ≡ true
shared p d narrow os ps all f g agree a b =
    let o = found p os a in
    let q = found (has_dot d) ps b in
    let same : o.0 ≡ q.0 = agree o.0 q.0 (f o.0 o.1.0) (g q.0 q.1.0) (sym (same_dot_is d o.0.dot (narrow o.0 o.1.1)) ∙ same_dot_is d q.0.dot q.1.1) in
    finds p ps q.0 q.1.0 (ap p (sym same) ∙ o.1.1)

-- ---- operations as pairs

pub in_pairs : (q : Dot × Act) (os : List Operation) → InPairs q (pairs os) → IsOperationOf (operation q.0 q.1) os
in_pairs q [] h = h
in_pairs q (o ∷ os) (inl e) = inl (ap (λ (p : Dot × Act). operation p.0 p.1) e)
in_pairs q (o ∷ os) (inr h) = inr (in_pairs q os h)

pub of_pairs : (o : Operation) (os : List Operation) → IsOperationOf o os → InPairs (o.dot, o.act) (pairs os)
of_pairs o [] h = h
of_pairs o (p ∷ os) (inl e) = inl (ap (λ (q : Operation). (q.dot, q.act)) e)
of_pairs o (p ∷ os) (inr h) = inr (of_pairs o os h)
