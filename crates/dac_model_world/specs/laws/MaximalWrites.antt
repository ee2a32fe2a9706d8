-- The writes that stand in a closed set's meaning are its maximal ones. It knows no dot that it hasn't heard, and has
-- heard the dots of each origin from 1 without gaps.
use Rattle.std.proofs.Common.{◌≡◌, ◌⊎◌, ℕ, zero, suc, ◌-◌, ◌<◌, ◌≤◌, Bool, true, false, ◌||◌, inl, inr, List, nat_eq, eq-eqb, refl, sym, ap, subst, ◌∙◌, arith, true≢false}
use Rattle.dac_model_world.specs.laws.Common.{list_any, false_from_ne_true, exact_unsigned_eq, Origin, Dot, dot, IsNext, IsVector, dots_total, exact_dots, same_dot, same_dot_is, same_dot_itself, Act, Operation, meaning_of, IsOperationOf, AreOperationsOf, DotsDetermine, has_dot, is_replaced, found, finds, heard-meaning, known-meaning, SetWorld, Issue, operations_of, IsDotOfOne}
use Rattle.std.specs.Prelude.{◌↔◌}
use Rattle.std.specs.FinSet as set
use Rattle.dac_origins.specs.Dots.{Dots}
use Rattle.dac_meaning.specs.Meaning.{replaces}
use Rattle.dac_meaning.specs.laws.Joins.{names-or}
use Rattle.dac_model_world.specs.Causality.{IsCausallyBefore, IsMaximal}
use Rattle.dac_model_world.specs.laws.Replacing.{Replaces}
use Rattle.dac_model_world.specs.laws.ClosedSets.{ClosedSet, IssuesOk, issue_of}
use Rattle.dac_model_world.specs.laws.Standing.{StandsAs, IsReplacedBy, replaced_there}

-- ---- maximal writes
module _ (Writes Ends : Act → Type 0) (w : SetWorld) (ok : IssuesOk w.issued) (agree : DotsDetermine (operations_of w.issued)) where
  -- an operation that ends such writes replaces each that stands before it
  abbrev pub Takes : Type 0
  Takes = (before : List Operation) (o : Operation) (d : Dot) → Replaces (meaning_of before) o.act → Ends o.act → StandsAs Writes before d → replaces d o ≡ true

  -- an operation ends the writes that it replaces
  abbrev pub EndsReplaced : Type 0
  EndsReplaced = (p o : Act) → IsReplacedBy p o → Writes p → Ends o

  module _ (os : List Operation) (c : ClosedSet w.issued os) where
    stays_last : Takes → (d : Dot) (x : StandsAs Writes os d) (later : Operation) → IsOperationOf later os → Ends later.act → IsCausallyBefore w x.operation later → ⊥
    stays_last takes d x later here ends b =
        let i = b.issue in
        let inside : AreOperationsOf i.before os = c.closed i b.issued (subst (λ o. IsOperationOf o os) (sym b.is) here) in
        let writes : Replaces (meaning_of i.before) later.act = subst (λ (o : Operation). Replaces (meaning_of i.before) o.act) b.is (ok i b.issued).next.replaces in
        elim (is_replaced d i.before) as (λ r. is_replaced d i.before ≡ r → ⊥) [
          | true ↦ λ t. let r = found (replaces d) i.before t in true≢false (sym (finds (replaces d) os r.0 (inside r.0 r.1.0) r.1.1) ∙ x.stays)
          | false ↦ λ f.
              let before : StandsAs Writes i.before d = record { operation = x.operation; there = b.held; writes = x.writes; is = x.is; stays = f } in
              true≢false (sym (finds (replaces d) os later here (takes i.before later d writes ends before)) ∙ x.stays)
        ] refl

    ended_last : EndsReplaced → (d : Dot) (m : IsDotOfOne (IsMaximal Writes Ends w os) d) (r : Operation) → IsOperationOf r os → replaces d r ≡ true → ⊥
    ended_last ended d m r here t =
        let j = issue_of w.issued r (c.within r here) in
        let k = ok j.issue j.there in
        let p = replaced_there j.issue.before r.act d (subst (λ (o : Operation). Replaces (meaning_of j.issue.before) o.act) j.same k.next.replaces) t in
        let same : p.operation ≡ m.0 = agree p.operation m.0 (k.set.within p.operation p.there) (c.within m.0 m.1.0.there) (p.is ∙ sym m.1.1) in
        m.1.0.last r here (ended m.0.act r.act (subst (λ (o : Operation). IsReplacedBy o.act r.act) same p.by) m.1.0.writes)
        (record { issue = j.issue; issued = j.there; is = j.same; held = subst (λ o. IsOperationOf o j.issue.before) same p.there })

    pub standing_is_maximal : Takes → EndsReplaced → (d : Dot) → StandsAs Writes os d ↔ IsDotOfOne (IsMaximal Writes Ends w os) d
    standing_is_maximal takes ended d = (
      λ x. (x.operation, (record { there = x.there; writes = x.writes; last = λ later here ends before. stays_last takes d x later here ends before }, x.is)),
      λ m. record {
        operation = m.0;
        there = m.1.0.there;
        writes = m.1.0.writes;
        is = m.1.1;
        stays = false_from_ne_true (is_replaced d os) (λ t. let r = found (replaces d) os t in ended_last ended d m r.0 r.1.0 r.1.1);
      },
    )

-- ---- known dots
or_absorbs : (a b : Bool) → (a ≡ true → b ≡ true) → b ≡ (a || b)
or_absorbs true b f = f refl
or_absorbs false b f = refl

-- the dot of one of the operations
heard_by : (os : List Operation) (d : Dot) (o : Operation) → IsOperationOf o os → o.dot ≡ d → list_any (has_dot d) os ≡ true
heard_by os d o here e = finds (has_dot d) os o here (ap (same_dot d) e ∙ same_dot_itself d)

-- a dot heard in a part of the set is heard in the set
heard_within : (before os : List Operation) (d : Dot) → AreOperationsOf before os → set.contains (meaning_of before).heard d ≡ true → set.contains (meaning_of os).heard d ≡ true
heard_within before os d inside h =
    let o = found (has_dot d) before (sym (heard-meaning before d) ∙ h) in
    heard-meaning os d ∙ finds (has_dot d) os o.0 (inside o.0 o.1.0) o.1.1

-- the counter is 1, or the one before it was heard
record Follows (heard : Dots) (origin : Origin) (n : ℕ) : Type 0 where
  least : 1 ≤ n
  before : (n ≡ 1) ⊎ (set.contains heard (dot origin (n - 1)) ≡ true)

one_least : (n : ℕ) → n ≡ 1 → 1 ≤ n
one_least n e = omega arith

after_another : (n : ℕ) → n - 1 < n → 1 ≤ n
after_another n h = omega arith

none_below_one : (m n : ℕ) → suc n ≡ 1 → 1 ≤ m → m ≤ n → ⊥
none_below_one m n e a b = omega arith

none_below : (m : ℕ) → 1 ≤ m → m ≤ 0 → ⊥
none_below m a b = omega arith

one_before : (n : ℕ) → suc n - 1 ≡ n
one_before n = omega arith

no_more : (m n : ℕ) → m ≤ suc n → (m ≡ suc n → ⊥) → m ≤ n
no_more m n a b = omega arith

module _ (issues : List Issue) (ok : IssuesOk issues) where
  -- a replaced dot was heard by the operation's issuer
  replaced_heard : (os : List Operation) → ClosedSet issues os → (d : Dot) → is_replaced d os ≡ true → list_any (has_dot d) os ≡ true
  replaced_heard os c d t =
      let r = found (replaces d) os t in
      let j = issue_of issues r.0 (c.within r.0 r.1.0) in
      let i = j.issue in
      let p = replaced_there i.before r.0.act d (subst (λ (o : Operation). Replaces (meaning_of i.before) o.act) j.same (ok i j.there).next.replaces) r.1.1 in
      heard_by os d p.operation (c.closed i j.there (subst (λ o. IsOperationOf o os) (sym j.same) r.1.0) p.operation p.there) p.is

  pub known_is_heard : (os : List Operation) → ClosedSet issues os → (meaning_of os).heard ≡ (meaning_of os).known
  known_is_heard os c = set.same_set dots_total exact_dots (meaning_of os).heard (meaning_of os).known (λ d.
      heard-meaning os d ∙ (or_absorbs (is_replaced d os) (list_any (has_dot d) os) (replaced_heard os c d) ∙ sym (known-meaning os d ∙ names-or d os)))

  follows : (os : List Operation) → ClosedSet issues os → (origin : Origin) (n : ℕ) → set.contains (meaning_of os).heard (dot origin n) ≡ true → Follows (meaning_of os).heard origin n
  follows os c origin n h =
      let d = dot origin n in
      let o = found (has_dot d) os (sym (heard-meaning os d) ∙ h) in
      let j = issue_of issues o.0 (c.within o.0 o.1.0) in
      let i = j.issue in
      let k = ok i j.there in
      let known = (meaning_of i.before).known in
      let is : i.operation.dot ≡ d = ap (λ (x : Operation). x.dot) j.same ∙ sym (same_dot_is d o.0.dot o.1.1) in
      let inside : AreOperationsOf i.before os = c.closed i j.there (subst (λ x. IsOperationOf x os) (sym j.same) o.1.0) in
      let next : IsNext known origin d = subst (λ (x : Dot). IsNext known x.origin x) is k.next.next in
      record {
        least = elim next.tight [ inl one ↦ one_least n one | inr t ↦ after_another n (next.above (n - 1) t) ];
        before = elim next.tight [
          | inl one ↦ inl one
          | inr t ↦ inr (heard_within i.before os (dot origin (n - 1)) inside (ap (λ (ds : Dots). set.contains ds (dot origin (n - 1))) (known_is_heard i.before k.set) ∙ t))
        ];
      }

  down_to : (os : List Operation) → ClosedSet issues os → (origin : Origin) (n : ℕ) → set.contains (meaning_of os).heard (dot origin n) ≡ true → (m : ℕ) → 1 ≤ m → m ≤ n → set.contains (meaning_of os).heard (dot origin m) ≡ true
  down_to os c origin zero h m least most = absurd (none_below m least most)
  down_to os c origin (suc n) h m least most =
      elim (nat_eq m (suc n)) as (λ b. nat_eq m (suc n) ≡ b → set.contains (meaning_of os).heard (dot origin m) ≡ true) [
        | true ↦ λ t. ap (λ k. set.contains (meaning_of os).heard (dot origin k)) (exact_unsigned_eq m (suc n) t) ∙ h
        | false ↦ λ f.
            let less : m ≤ n = no_more m n most (λ e. true≢false (sym (eq-eqb m (suc n) e) ∙ f)) in
            elim (follows os c origin (suc n) h).before [
              | inl one ↦ absurd (none_below_one m n one least less)
              | inr t ↦ down_to os c origin n (ap (λ k. set.contains (meaning_of os).heard (dot origin k)) (sym (one_before n)) ∙ t) m least less
            ]
      ] refl

  pub heard_is_vector : (os : List Operation) → ClosedSet issues os → IsVector (meaning_of os).heard
  heard_is_vector os c origin n h = ((follows os c origin n h).least, down_to os c origin n h)
