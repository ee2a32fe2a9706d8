-- Closed sets contain, with each operation, all that its issuer held. Each issuer's set was closed, and its operation
-- was the next one after it.
use Rattle.std.proofs.Common.{◌≡◌, ◌⊎◌, inl, inr, List, [], ◌∷◌, ◌++◌, refl, sym, ap, subst, append_assoc, append-nil}
use Rattle.dac_model_world.specs.laws.Common.{map-append, Operation, IsOperationOf, AreOperationsOf, In-append_left, In-append_right, In-append_cases, Within-append, Issue, issues_of, operations_of, DistinctDots}
use Rattle.dac_model_world.specs.Causality.{IsAmong}
use Rattle.dac_model_world.specs.laws.Operations.{one_in, DistinctDots-left, DistinctDots-apart}
use Rattle.dac_model_world.specs.laws.Replacing.{IsNextAfter, AreNext}

-- ---- issues
pub IsAmong-append_cases : (i : Issue) (is js : List Issue) → IsAmong i (is ++ js) → IsAmong i is ⊎ IsAmong i js
IsAmong-append_cases i [] js h = inr h
IsAmong-append_cases i (x ∷ is) js (inl e) = inl (inl e)
IsAmong-append_cases i (x ∷ is) js (inr h) = elim (IsAmong-append_cases i is js h) [ inl a ↦ inl (inr a) | inr b ↦ inr b ]

-- an issue's operation was issued, and each issued operation has an issue
pub operation_in : (i : Issue) (is : List Issue) → IsAmong i is → IsOperationOf i.operation (operations_of is)
operation_in i [] h = absurd h
operation_in i (j ∷ js) (inl e) = inl (ap (λ (x : Issue). x.operation) e)
operation_in i (j ∷ js) (inr h) = inr (operation_in i js h)

pub record IssueOf (is : List Issue) (o : Operation) : Type 0 where
  pub issue : Issue
  pub there : IsAmong issue is
  pub same : issue.operation ≡ o

pub issue_of : (is : List Issue) (o : Operation) → IsOperationOf o (operations_of is) → IssueOf is o
issue_of [] o h = absurd h
issue_of (j ∷ js) o (inl e) = record { issue = j; there = inl refl; same = sym e }
issue_of (j ∷ js) o (inr h) = let r = issue_of js o h in record { issue = r.issue; there = inr r.there; same = r.same }

-- ---- closed sets
pub record ClosedSet (is : List Issue) (os : List Operation) : Type 0 where
  pub within : AreOperationsOf os (operations_of is)
  pub closed : (i : Issue) → IsAmong i is → IsOperationOf i.operation os → AreOperationsOf i.before os

pub closed_none : (is : List Issue) → ClosedSet is []
closed_none is = record { within = λ o h. absurd h; closed = λ i m h. absurd h }

pub closed_append : (is : List Issue) (os ps : List Operation) → ClosedSet is os → ClosedSet is ps → ClosedSet is (os ++ ps)
closed_append is os ps c d = record {
  within = Within-append os ps (operations_of is) c.within d.within;
  closed = λ i m h o b. elim (In-append_cases i.operation os ps h) [
    | inl x ↦ In-append_left o os ps (c.closed i m x o b)
    | inr x ↦ In-append_right o os ps (d.closed i m x o b)
  ];
}

-- the issues' operations have distinct dots
abbrev pub Differ : List Issue → Type 0
Differ is = DistinctDots (operations_of is)

differ_parts : (is more : List Issue) → Differ (is ++ more) → DistinctDots (operations_of is ++ operations_of more)
differ_parts is more d = subst DistinctDots (map-append (λ (i : Issue). i.operation) is more) d

-- the operation of a later issue wasn't issued before
none_again : (is more : List Issue) → Differ (is ++ more) → (i : Issue) → IsAmong i more → IsOperationOf i.operation (operations_of is) → ⊥
none_again is more d i m h = DistinctDots-apart (operations_of is) (operations_of more) (differ_parts is more d) i.operation h (operation_in i more m)

in_more : (is more : List Issue) (o : Operation) → IsOperationOf o (operations_of is) → IsOperationOf o (operations_of (is ++ more))
in_more is more o h = subst (IsOperationOf o) (sym (map-append (λ (i : Issue). i.operation) is more)) (In-append_left o (operations_of is) (operations_of more) h)

-- a closed set stays closed when more is issued
pub closed_more : (is more : List Issue) (os : List Operation) → Differ (is ++ more) → ClosedSet is os → ClosedSet (is ++ more) os
closed_more is more os d c = record {
  within = λ o h. in_more is more o (c.within o h);
  closed = λ i m h. elim (IsAmong-append_cases i is more m) [
    | inl a ↦ c.closed i a h
    | inr b ↦ absurd (none_again is more d i b (c.within i.operation h))
  ];
}

-- the issue of an operation at a node with this set
abbrev pub issue_at : List Operation → Operation → Issue
issue_at os o = record { operation = o; before = os }

-- a closed set stays closed with the operation that its holder issues
pub closed_push : (is : List Issue) (os : List Operation) (o : Operation) → Differ (is ++ issue_at os o ∷ []) → ClosedSet is os → ClosedSet (is ++ issue_at os o ∷ []) (os ++ o ∷ [])
closed_push is os o d c =
    let j = issue_at os o in
    let all = is ++ j ∷ [] in
    let o_in : IsOperationOf o (operations_of all) = subst (IsOperationOf o) (sym (map-append (λ (i : Issue). i.operation) is (j ∷ []))) (In-append_right o (operations_of is) (o ∷ []) (inl refl)) in
    let old : (i : Issue) → IsAmong i is → IsOperationOf i.operation (os ++ o ∷ []) → AreOperationsOf i.before (os ++ o ∷ []) = λ i a h p b. elim (In-append_cases i.operation os (o ∷ []) h) [
      | inl x ↦ In-append_left p os (o ∷ []) (c.closed i a x p b)
      | inr x ↦ absurd (none_again is (j ∷ []) d j (inl refl) (subst (λ q. IsOperationOf q (operations_of is)) (one_in i.operation o x) (operation_in i is a)))
    ] in
    record {
      within = Within-append os (o ∷ []) (operations_of all) (λ p h. in_more is (j ∷ []) p (c.within p h)) (λ p h. subst (λ q. IsOperationOf q (operations_of all)) (sym (one_in p o h)) o_in);
      closed = λ i m h. elim (IsAmong-append_cases i is (j ∷ []) m) [
        | inl a ↦ old i a h
        | inr b ↦ elim b [
          | inl e ↦ λ p x. In-append_left p os (o ∷ []) (subst (λ (k : Issue). IsOperationOf p k.before) e x)
          | inr none ↦ absurd none
        ]
      ];
    }

-- ---- good issues
pub record IssueOk (is : List Issue) (i : Issue) : Type 0 where
  pub set : ClosedSet is i.before
  pub next : IsNextAfter i.before i.operation

abbrev pub IssuesOk : List Issue → Type 0
IssuesOk is = (i : Issue) → IsAmong i is → IssueOk is i

pub issues_push : (is : List Issue) (os : List Operation) (o : Operation) → Differ (is ++ issue_at os o ∷ []) → IssuesOk is → ClosedSet is os → IsNextAfter os o → IssuesOk (is ++ issue_at os o ∷ [])
issues_push is os o d ok c next i m =
    let j = issue_at os o in
    elim (IsAmong-append_cases i is (j ∷ []) m) [
      | inl a ↦ let k = ok i a in record { set = closed_more is (j ∷ []) i.before d k.set; next = k.next }
      | inr b ↦ elim b [
        | inl e ↦ subst (IssueOk (is ++ j ∷ [])) (sym e) (record { set = closed_more is (j ∷ []) os d c; next = next })
        | inr none ↦ absurd none
      ]
    ]

-- the invariant after operations were issued one after another at a node with this set
pub record IssuedAll (is : List Issue) (os more : List Operation) : Type 0 where
  pub issues : IssuesOk (is ++ issues_of os more)
  pub set : ClosedSet (is ++ issues_of os more) (os ++ more)

pub issue_all : (is : List Issue) (os more : List Operation) → Differ (is ++ issues_of os more) → IssuesOk is → ClosedSet is os → AreNext os more → IssuedAll is os more
issue_all is os [] d ok c next = record {
  issues = subst IssuesOk (sym (append-nil is)) ok;
  set = subst (λ (p : List Issue × List Operation). ClosedSet p.0 p.1) (λ i. (sym (append-nil is) i, sym (append-nil os) i)) c;
}
issue_all is os (o ∷ more) d ok c next =
    let j = issue_at os o in
    let rest = issues_of (os ++ o ∷ []) more in
    let all = append_assoc is (j ∷ []) rest in
    let apart : Differ ((is ++ j ∷ []) ++ rest) = subst Differ (sym all) d in
    let first : Differ (is ++ j ∷ []) = DistinctDots-left (operations_of (is ++ j ∷ [])) (operations_of rest) (differ_parts (is ++ j ∷ []) rest apart) in
    let r = issue_all (is ++ j ∷ []) (os ++ o ∷ []) more apart (issues_push is os o first ok c next.0) (closed_push is os o first c) next.1 in
    record {
      issues = subst IssuesOk all r.issues;
      set = subst (λ (p : List Issue × List Operation). ClosedSet p.0 p.1) (λ i. (all i, append_assoc os (o ∷ []) more i)) r.set;
    }
