-- The premises under which a node issues operations in form, and its incarnation's next operation.
use Rattle.std.proofs.Common.{◌≡◌, ℕ, ◌+◌, ◌<◌, ◌≤◌, true, false, ◌==◌, if◌then◌else◌, List, Option, None, Some, refl, sym, subst, arith, lt_irrefl, leb-true}
use Rattle.dac_in_form.proofs.Common.{exact_unsigned_eq, MAX_COUNTER, NodeId, AppId, Dot, Origin, dot, dot_cmp, IsNext, has_key, Life, How, Act, Claim, Operation, operation, over_list, has_bad_over, fault_of, StateValue, IsOperationOf, DotsDetermine, meaning_of, Table, node_count, app_count, IsIncarnation, IsOrigin, IsDot, InRange, Two, IsConsistentOrigin, is_listed, IsOperation, next_term_only, up, AreInForm}
use Rattle.std.specs.FinSet as set
use Rattle.std.specs.FinMap as map
use Rattle.std.specs.Option.{option_map_or}
use Rattle.std.proofs.lemmas.Bool.{false_from_ne_true}
use Rattle.dac_chains.specs.declared.claims.Claim.{Claim as ClaimValue}
use Rattle.dac_operations.specs.declared.op.OpFault.TheVariants.{OwnDot, BadOver, BadCounter, OnSelf}
use Rattle.dac_operations.specs.Operations.{replaces_itself, has_bad_counter, is_on_self}
use Rattle.dac_meaning.specs.StateValue.{IsState}
use Rattle.dac_commands.specs.Commands.{KnowsOwnBoot}
use Rattle.dac_commands.specs.Written.{IsNextTerm}

-- The incarnation is in form and knows its own boot, and nodes of the configuration made all claims.
pub record MayClaim (t : Table) (own : Origin) (s : StateValue) : Type 0 where
  pub origin : IsOrigin Two (node_count t) own
  pub knows : KnowsOwnBoot own s
  pub claimers : (app : AppId) (c : ClaimValue) → map.get s.claims app ≡ Some c → c.origin.node.0 < node_count t

-- The incarnation can claim, and the dots and lives of the state are in form.
pub record MayIssue (t : Table) (own : Origin) (s : StateValue) : Type 0 where
  pub claim : MayClaim t own s
  pub state : IsState s
  pub known : InRange Two (node_count t) s.known
  pub lives : (node : NodeId) (l : Life) → map.get s.lives node ≡ Some l → IsIncarnation Two l.inc

-- the meaning of operations in form satisfies this, at an incarnation whose boot is one of them
abbrev pub MeaningsMayIssue : Type 0
MeaningsMayIssue = (t : Table) (os : List Operation) → DotsDetermine os → AreInForm t os → (own : Origin) → IsOrigin Two (node_count t) own → IsOperationOf (up own) os → MayIssue t own (meaning_of os)

-- ---- operations without a fault

pub sound_by : (d : Dot) (a : Act) → replaces_itself d a ≡ false → has_bad_over (over_list a) ≡ false → has_bad_counter d a ≡ false → is_on_self d a ≡ false → fault_of d a ≡ None
sound_by d a p q r s = λ i. if p i then Some OwnDot else if q i then Some BadOver else if r i then Some BadCounter else if s i then Some OnSelf else None

module _ (t : Table) (own : Origin) (s : StateValue) (may : MayClaim t own s) (d : Dot) (next : IsNext s.known own d) where
  -- the counter is above the boot's
  second : 1 < d.n
  second = next.above 1 may.knows

  pub not_first : (d.n == 1) ≡ false
  not_first = false_from_ne_true (d.n == 1) (λ e. past d.n second (exact_unsigned_eq d.n 1 e))
    where
      past : (n : ℕ) → 1 < n → n ≡ 1 → ⊥
      past n h e = omega arith

  -- the next dot is in form
  pub next_is_dot : IsDot Two (node_count t) d
  next_is_dot = record { origin = subst (IsOrigin Two (node_count t)) (sym next.same_origin) may.origin; first = from_one d.n second; last = next.at_most }
    where
      from_one : (n : ℕ) → 1 < n → 1 ≤ n
      from_one n h = omega arith

  -- the next dot isn't among known dots
  pub apart : (over : List Dot) → ((e : Dot) → has_key dot_cmp over e ≡ true → set.contains s.known e ≡ true) → has_key dot_cmp over d ≡ false
  apart over among = false_from_ne_true (has_key dot_cmp over d) (λ h. lt_irrefl d.n (next.above d.n (subst (λ (e : Dot). set.contains s.known e ≡ true) same (among d h))))
    where
      same : d ≡ dot own d.n
      same = λ i. record { origin = next.same_origin i; n = d.n }

  -- ---- claims

  term_from_one : (app : AppId) (term : ℕ) → IsNextTerm s app term → 1 ≤ term
  term_from_one app term is = after (option_map_or (λ (c : ClaimValue). c.term) (map.get s.claims app) 0) term (next_term_only s app term is)
    where
      after : (g n : ℕ) → n ≡ g + 1 → 1 ≤ n
      after g n e = omega arith

  -- a claim under the next term by a node of the application's list
  pub claim_is : (app : AppId) (term : ℕ) (how : How) (from : Option NodeId) → IsNextTerm s app term → term ≤ MAX_COUNTER → app.0 < app_count t → is_listed t app own.node ≡ true → IsConsistentOrigin (node_count t) how from
      → IsOperation Two t (operation d (Claim app term how from))
  claim_is app term how from is most there listed came = record {
    dot = next_is_dot;
    kind = leb-true 6 7 refl;
    act = record { app = there; first = term_from_one app term is; last = most; listed = subst (λ (q : Origin). is_listed t app q.node ≡ true) (sym next.same_origin) listed; from = came };
    sound = sound_by d (Claim app term how from) refl refl not_first refl;
  }
