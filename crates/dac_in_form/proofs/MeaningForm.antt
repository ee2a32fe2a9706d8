-- The meaning of operations in form, part by part.
use Rattle.std.specs.Prelude.{◌≡◌, ℕ, ◌+◌, ◌<◌, ◌≤◌, ◌^◌, length, true, false, cond, T, List, [], ◌∷◌, Option, None, Some, is_some, unwrap_or, refl}
use Rattle.std.proofs.Common.{sym, ap, subst, ◌∙◌, inl, inr, arith, true≢false}
use Rattle.dac_in_form.proofs.Common.{Ordering, eq_by_cmp, IsTotalOrder, AllByRecursion, find, CmpEqualImpliesEq, NodeId, AppId, node_cmp, the_limits, MAX_NODES, MAX_APPS, nodes_total, exact_nodes, Dot, Origin, dot, dot_cmp, has_key, exact_dots, Flag, Life, Write, Act, Up, Claim, Operation, over_list, StateValue, IsOperationOf, DotsDetermine, meaning_of, Table, node_count, app_count, IsDot, IsOrigin, InRange, Two, IsKey, IsInForm, IsAct, StateFits, IsSmall, AreInForm}
use Rattle.std.specs.declared.cmp.Ordering.TheVariants.{Less, Equal, Greater}
use Rattle.std.specs.Ordering.{is_eq, is_lt}
use Rattle.std.specs.Cmp.{ranked, tied_itself}
use Rattle.std.specs.FinSet as set
use Rattle.std.specs.FinMap as map
use Rattle.std.specs.FinMap.{is_sorted}
use Rattle.std.specs.FinMap.Entries.{below_all}
use Rattle.std.proofs.lemmas.Bool.{or_cases}
use Rattle.dac_base.specs.Ids.{app_cmp}
use Rattle.dac_base.specs.laws.Ids.{apps_total, exact_apps}
use Rattle.dac_lattice.specs.laws.Entries.{find_below}
use Rattle.dac_lattice.specs.laws.EntryLaws.{first, second}
use Rattle.dac_chains.specs.declared.claims.Claim.{Claim as ClaimValue}
use Rattle.dac_chains.specs.Greatest.{IsGreatest}
use Rattle.dac_chains.specs.Lives.{life_cmp}
use Rattle.dac_chains.specs.Claims.{claim_cmp}
use Rattle.dac_wishes.specs.laws.KeyedWrites.{tied_is}
use Rattle.dac_wishes.specs.PermissionsValue.{is_permitting}
use Rattle.dac_wishes.specs.DrainsValue.{DrainWrite, says_drained}
use Rattle.dac_operations.specs.declared.act.Act.TheVariants.{Down, Permit, Start, Stop, Drain}
use Rattle.dac_meaning.specs.MeaningLaws.{HeardAreDots, KnownAreNamed, PermitsAreUnreplaced, StartsAreUnreplaced, LivesAreGreatest, ClaimsAreGreatest, DrainsAreUnreplaced, MeaningsAreStates, SaysLife, IsClaim}
use Rattle.dac_part_bytes.specs.ChainForm.{IsLifeInForm, IsClaimInForm as IsClaimEntry}
use Rattle.dac_part_bytes.specs.KeyedForm.{IsKnownDot, IsKnownWrite}
use Rattle.dac_wire.specs.Form.{IsClaimInForm}
use Rattle.dac_model_node.specs.Step.{up as boot_of}
use Rattle.dac_in_form.proofs.MayIssue.{MayIssue}

none_some : {X : Type 0} {v : X} {Y : Type 0} → ◌≡◌ {A = Option X} None (Some v) → Y
none_some e = cc

-- ---- lists

-- a dot of a list is in form, if each is
named_dot : (t : Table) (over : List Dot) (d : Dot) → AllByRecursion (IsDot Two (node_count t)) over → has_key dot_cmp over d ≡ true → IsDot Two (node_count t) d
named_dot t [] d all h = absurd (true≢false (sym h))
named_dot t (x ∷ over) d all h = elim (or_cases (eq_by_cmp dot_cmp d x) (has_key dot_cmp over d) h) [
  | inl e ↦ subst (IsDot Two (node_count t)) (sym (tied_is exact_dots d x e)) all.0
  | inr r ↦ named_dot t over d all.1 r
]

-- the dots that an act in form replaces are in form
over_in_form : (t : Table) (n : NodeId) (a : Act) → IsAct Two t n a → AllByRecursion (IsDot Two (node_count t)) (over_list a)
over_in_form t n Up is = tt
over_in_form t n (Down node inc) is = tt
over_in_form t n (Permit key value over) is = is.1.each
over_in_form t n (Start key over) is = is.1.each
over_in_form t n (Stop key over) is = is.1.each
over_in_form t n (Drain node inc value over) is = is.1.each
over_in_form t n (Claim app term how from) is = tt

-- a property of each value that is found holds of each entry
module _ {K X : Type 0} {R : K → K → Ordering} (total : IsTotalOrder R) (exact : CmpEqualImpliesEq R) where
  find_first : (e : K × X) (es : List (K × X)) → find R e.0 (e ∷ es) ≡ Some e.1
  find_first e es = ap (λ r. cond (is_eq r) (Some e.1) (find R e.0 es)) (tied_itself total e.0)

  find_later : (e : K × X) (es : List (K × X)) → T (below_all R e.0 es) → (k : K) (x : X) → find R k es ≡ Some x → find R k (e ∷ es) ≡ Some x
  find_later e es h k x p = elim (eq_by_cmp R k e.0) as (λ b. eq_by_cmp R k e.0 ≡ b → cond b (Some e.1) (find R k es) ≡ Some x) [
    | true ↦ λ t. none_some (sym (ap (λ q. find R q es) (tied_is exact k e.0 t) ∙ find_below total exact e.0 es h) ∙ p)
    | false ↦ λ t. p
  ] refl

  all_found : (P : K × X → Type 0) (es : List (K × X)) → T (is_sorted R es) → ((k : K) (x : X) → find R k es ≡ Some x → P (k, x)) → AllByRecursion P es
  all_found P [] h f = tt
  all_found P (e ∷ es) h f = (f e.0 e.1 (find_first e es), all_found P es (second _ _ h) (λ k x p. f k x (find_later e es (first _ _ h) k x p)))

  of_entries : (P : K × X → Type 0) (m : map.FinMap R X) → ((k : K) (x : X) → map.get m k ≡ Some x → P (k, x)) → AllByRecursion P (map.entries m)
  of_entries P m each = all_found P (map.entries m) (map.entries_sorted m) (λ k x p. each k x (map.get-entries m k ∙ p))

-- ---- keys below a number

all_below : {X : Type 0} {P Q : X → Type 0} → ((x : X) → P x → Q x) → (xs : List X) → AllByRecursion P xs → AllByRecursion Q xs
all_below f [] h = tt
all_below f (x ∷ xs) h = (f x h.0, all_below f xs h.1)

is_less : (o : Ordering) → T (is_lt o) → o ≡ Less
is_less Less p = refl
is_less Equal p = absurd p
is_less Greater p = absurd p

-- there are at most as many entries as numbers below this one, if each key has its own number
module _ {K X : Type 0} {R : K → K → Ordering} (number : K → ℕ) (less : (a b : K) → R a b ≡ Less → number a < number b) where
  later : (k : K) (es : List (K × X)) → T (below_all R k es) → AllByRecursion (λ (e : K × X). number k + 1 ≤ number e.0) es
  later k [] h = tt
  later k (e ∷ es) h = let more = less k e.0 (is_less (R k e.0) (first _ _ h)) in (omega (arith, more), later k es (second _ _ h))

  from_on : (lo hi : ℕ) (es : List (K × X)) → lo ≤ hi → T (is_sorted R es) → AllByRecursion (λ (e : K × X). lo ≤ number e.0) es → AllByRecursion (λ (e : K × X). number e.0 < hi) es → lo + length es ≤ hi
  from_on lo hi [] below h low high = omega arith
  from_on lo hi (e ∷ es) below h low high =
      let under = high.0 in
      let above = low.0 in
      let rest : number e.0 + 1 + length es ≤ hi = from_on (number e.0 + 1) hi es (omega (arith, under)) (second _ _ h) (later e.0 es (first _ _ h)) high.1 in
      omega (arith, rest, above)

  each_from : (es : List (K × X)) → AllByRecursion (λ (e : K × X). 0 ≤ number e.0) es
  each_from [] = tt
  each_from (e ∷ es) = (omega arith, each_from es)

  few_entries : (es : List (K × X)) (hi : ℕ) → T (is_sorted R es) → AllByRecursion (λ (e : K × X). number e.0 < hi) es → length es ≤ hi
  few_entries es hi h high = let all = from_on 0 hi es (omega arith) h (each_from es) high in omega (arith, all)

abbrev node_number : NodeId → ℕ
node_number n = n.0

abbrev app_number : AppId → ℕ
app_number a = a.0

node_less : (a b : NodeId) → node_cmp a b ≡ Less → node_number a < node_number b
node_less a b e = ranked a.0 b.0 Less (sym e)

app_less : (a b : AppId) → app_cmp a b ≡ Less → app_number a < app_number b
app_less a b e = ranked a.0 b.0 Less (sym e)

small_byte : (n k : ℕ) → n ≤ MAX_NODES → k ≤ n → k < 2 ^ 8
small_byte n k p q = let is = the_limits.0 in omega (arith, is)

small_word : (n k : ℕ) → n ≤ MAX_APPS → k ≤ n → k < 2 ^ 16
small_word n k p q = let is = the_limits.1.0 in omega (arith, is)

-- ---- the parts
stands : (o : Option Flag) → is_some o ≡ true → (f : Flag) × (o ≡ Some f)
stands None h = absurd (true≢false (sym h))
stands (Some f) h = (f, refl)

-- a property of each value holds of the greatest
greatest_is : {X : Type 0} (cmp : X → X → Ordering) (P : X → Type 0) (o : Option X) (x : X) → IsGreatest cmp P o → o ≡ Some x → P x
greatest_is cmp P None x g e = none_some e
greatest_is cmp P (Some v) x g e = subst P (ap (λ o. unwrap_or o v) e) g.0

module _ (t : Table) (os : List Operation) (agree : DotsDetermine os) (form : AreInForm t os)
    (heard : HeardAreDots) (known : KnownAreNamed) (permits : PermitsAreUnreplaced) (starts : StartsAreUnreplaced) (lives : LivesAreGreatest) (claims : ClaimsAreGreatest) (drains : DrainsAreUnreplaced) (states : MeaningsAreStates)
  where
    abbrev s : StateValue
    s = meaning_of os

    abbrev nodes : ℕ
    nodes = node_count t

    -- a dot of one of the operations, or one that it replaces
    heard_dots : InRange Two nodes s.heard
    heard_dots d h = let f = (heard os d).0 h in subst (IsDot Two nodes) f.1.1 (form f.0 f.1.0).dot

    known_dots : InRange Two nodes s.known
    known_dots d h =
        let f = (known os d).0 h in
        let is = form f.0 f.1.0 in
        elim f.1.1 [
          | inl own ↦ subst (IsDot Two nodes) own is.dot
          | inr replaced ↦ named_dot t (over_list f.0.act) d (over_in_form t f.0.dot.origin.node f.0.act is.act) replaced
        ]

    known_dot : (o : Operation) (d : Dot) → IsOperationOf o os → o.dot ≡ d → set.contains s.known d ≡ true → IsKnownDot Two t s.known d
    known_dot o d i own among = record { dot = subst (IsDot Two nodes) own (form o i).dot; among = among }

    act_in_form : (o : Operation) (a : Act) → IsOperationOf o os → o.act ≡ a → IsAct Two t o.dot.origin.node a
    act_in_form o a i is = subst (IsAct Two t o.dot.origin.node) is (form o i).act

    permit_in_form : (w : Write) → is_some (map.get s.permits w) ≡ true → IsKnownWrite (IsKey Two t) Two t s.known w
    permit_in_form w h =
        let f = stands (map.get s.permits w) h in
        let p = ((permits os agree w f.0).0 f.1).0 in
        record { key = (act_in_form p.0 (Permit w.key (is_permitting f.0) p.1.1.1.0) p.1.0 p.1.1.1.1).0; dot = known_dot p.0 w.dot p.1.0 p.1.1.0 ((states os).permits w h) }

    start_in_form : (w : Write) → set.contains s.starts w ≡ true → IsKnownWrite (IsKey Two t) Two t s.known w
    start_in_form w h =
        let p = ((starts os w).0 h).0 in
        record { key = (act_in_form p.0 (Start w.key p.1.1.1.0) p.1.0 p.1.1.1.1).0; dot = known_dot p.0 w.dot p.1.0 p.1.1.0 ((states os).starts w h) }

    drain_in_form : (w : DrainWrite) → is_some (map.get s.drains w) ≡ true → IsKnownWrite (IsOrigin Two nodes) Two t s.known w
    drain_in_form w h =
        let f = stands (map.get s.drains w) h in
        let p = ((drains os agree w f.0).0 f.1).0 in
        record { key = (act_in_form p.0 (Drain w.key.node w.key.inc (says_drained f.0) p.1.1.1.0) p.1.0 p.1.1.1.1).0; dot = known_dot p.0 w.dot p.1.0 p.1.1.0 ((states os).drains w h) }

    life_in_form : (n : NodeId) (l : Life) → map.get s.lives n ≡ Some l → IsLifeInForm Two nodes (n, l)
    life_in_form n l e =
        let f = greatest_is life_cmp (λ l. (o : Operation) × (IsOperationOf o os × SaysLife n l o)) (map.get s.lives n) l (lives os n) e in
        elim f.1.1 [
          | inl up ↦ let is : IsOrigin Two nodes (record { node = n; inc = l.inc }) = subst (IsOrigin Two nodes) up.1.1 (form f.0 f.1.0).dot.origin in record { node = is.node; inc = is.inc }
          | inr down ↦ let is = act_in_form f.0 (Down n l.inc) f.1.0 down.1 in record { node = is.0; inc = is.1 }
        ]

    claim_in_form : (app : AppId) (c : ClaimValue) → map.get s.claims app ≡ Some c → IsClaimEntry Two t (app, c)
    claim_in_form app c e =
        let f = greatest_is claim_cmp (λ c. (o : Operation) × (IsOperationOf o os × IsClaim app c o)) (map.get s.claims app) c (claims os app) e in
        let origin_is = f.1.1.0 in
        let is : IsClaimInForm t c.origin.node app c.term c.how c.from = subst (λ (q : Origin). IsClaimInForm t q.node app c.term c.how c.from) origin_is (act_in_form f.0 (Claim app c.term c.how c.from) f.1.0 f.1.1.1) in
        record { app = is.app; first = is.first; last = is.last; origin = subst (IsOrigin Two nodes) origin_is (form f.0 f.1.0).dot.origin; listed = is.listed; from = is.from }

    each_life : AllByRecursion (IsLifeInForm Two nodes) (map.entries s.lives)
    each_life = of_entries nodes_total exact_nodes (IsLifeInForm Two nodes) s.lives life_in_form

    each_claim : AllByRecursion (IsClaimEntry Two t) (map.entries s.claims)
    each_claim = of_entries apps_total exact_apps (IsClaimEntry Two t) s.claims claim_in_form

    pub meaning_in_form : IsSmall t → StateFits s → IsInForm Two t s
    meaning_in_form small fits = record {
      heard = (heard_dots, record { origins = fits.heard.origins; further = fits.heard.further });
      known = (known_dots, record { origins = fits.known.origins; further = fits.known.further });
      within = (states os).heard;
      permits = record { each = permit_in_form; keys = fits.permits.keys; dots = fits.permits.dots };
      starts = record { each = start_in_form; keys = fits.starts.keys; dots = fits.starts.dots };
      lives = record { each = each_life; count = small_byte nodes (length (map.entries s.lives)) small.nodes (few_entries node_number node_less (map.entries s.lives) nodes (map.entries_sorted s.lives) (all_below (λ e is. is.node) (map.entries s.lives) each_life)) };
      claims = record { each = each_claim; count = small_word (app_count t) (length (map.entries s.claims)) small.apps (few_entries app_number app_less (map.entries s.claims) (app_count t) (map.entries_sorted s.claims) (all_below (λ e is. is.app) (map.entries s.claims) each_claim)) };
      drains = record { each = drain_in_form; keys = fits.drains.keys; dots = fits.drains.dots };
    }

    -- an incarnation that knows these operations issues operations in form
    pub may_issue : (own : Origin) → IsOrigin Two nodes own → IsOperationOf (boot_of own) os → MayIssue t own s
    may_issue own is booted = record {
      claim = record { origin = is; knows = (known os (dot own 1)).1 (boot_of own, (booted, inl refl)); claimers = λ app c e. (claim_in_form app c e).origin.node };
      state = states os;
      known = known_dots;
      lives = λ node l e. (life_in_form node l e).inc;
    }
