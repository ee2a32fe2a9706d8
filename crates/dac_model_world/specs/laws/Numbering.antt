-- Issued operations are in order: those of an incarnation have the counters 1, 2, 3 and so on. An operation replaces
-- only dots that were issued, and names no incarnation of a node later than its last.
use Rattle.std.proofs.Common.{◌≡◌, ◌⊎◌, ℕ, suc, ◌<◌, ◌≤◌, ◌+◌, ◌-◌, Bool, true, false, cond, ◌||◌, List, [], ◌∷◌, ◌++◌, length, Option, Some, None, inl, inr, refl, sym, ap, subst, ◌∙◌, append-nil, append_assoc, le_trans, arith}
use Rattle.dac_model_world.specs.laws.Common.{eq_by_cmp, is_eq, Equal-is, tied_itself, NodeId, Dot, Origin, dot, origin_cmp, exact_origins, origins_total, Life, IsGreatest, IsSaid, life_cmp, same_dot_is, same_dot_itself, Act, Down, Permit, Operation, meaning_of, IsOperationOf, AreOperationsOf, has_dot, names, pairs, life_said, of_said, Within-append, In-append_left, In-append_right, In-append_cases, found, finds, known-meaning, lives-meaning, lives_are, HasDot, AreOwn}
use Rattle.std.specs.Prelude.{filter}
use Rattle.std.specs.FinMap as map
use Rattle.std.specs.FinSet as set
use Rattle.std.proofs.lemmas.Bool.{or_cases}
use Rattle.dac_lattice.specs.declared.flags.Flag.TheVariants.{Up as IsUp}
use Rattle.dac_operations.specs.declared.act.Act.TheVariants.{Up}
use Rattle.dac_meaning.specs.Meaning.{replaces}
use Rattle.dac_meaning.specs.Chained.{SaysFor}
use Rattle.dac_model_world.specs.Issuing.{is_of, count_of}
use Rattle.dac_model_world.specs.laws.Operations.{one_in}
use Rattle.dac_model_world.specs.laws.Replacing.{EndsLive, IsNextAfter, AreNext}
use Rattle.dac_model_world.specs.laws.Standing.{replaced_there}

none_some : {X : Type 0} {v : X} {Y : Type 0} → ◌≡◌ {A = Option X} None (Some v) → Y
none_some e = cc

-- ---- lives
-- a life that a set means is said by one of its operations
pub life_says : (os : List Operation) (n : NodeId) (l : Life) → map.get (meaning_of os).lives n ≡ Some l → SaysFor life_said os n l
life_says os n l e =
    let is : IsGreatest life_cmp (IsSaid life_said (pairs os) n) (Some l) = subst (IsGreatest life_cmp (IsSaid life_said (pairs os) n)) (ap (λ lives. map.get lives n) (sym (lives-meaning os)) ∙ e) (lives_are os n) in
    of_said life_said os n l is.0

pair_of : {X Y : Type 0} {a c : X} {b d : Y} → ◌≡◌ {A = Option (X × Y)} (Some (a, b)) (Some (c, d)) → (a ≡ c) × (b ≡ d)
pair_of {X = X} {Y = Y} {a = a} {c = c} {b = b} {d = d} e = let pair : ◌≡◌ {A = X × Y} (a, b) (c, d) = one e in (ap (λ (p : X × Y). p.0) pair, ap (λ (p : X × Y). p.1) pair)
  where
    one : {Z : Type 0} {x y : Z} → ◌≡◌ {A = Option Z} (Some x) (Some y) → x ≡ y
    one e = cc

-- ---- counting
of_it : (own : Origin) (o : Operation) → is_of own o ≡ true → o.dot.origin ≡ own
of_it own o t = exact_origins o.dot.origin own ((Equal-is (origin_cmp o.dot.origin own)).0 t)

it_of : (own : Origin) (o : Operation) → o.dot.origin ≡ own → is_of own o ≡ true
it_of own o e = ap (eq_by_cmp origin_cmp o.dot.origin) (sym e) ∙ ap is_eq (tied_itself origins_total o.dot.origin)

one_more : (b : Bool) (k l : ℕ) → k ≡ cond b (l + 1) l → suc k ≡ cond b (suc l + 1) (suc l)
one_more true k l e = omega arith
one_more false k l e = omega arith

count_more : (own : Origin) (ops : List Operation) (o : Operation) → count_of own (ops ++ o ∷ []) ≡ cond (is_of own o) (count_of own ops + 1) (count_of own ops)
count_more own [] o = elim (is_of own o) as (λ b. length (cond b (o ∷ []) []) ≡ cond b (0 + 1) 0) [ true ↦ refl | false ↦ refl ]
count_more own (x ∷ ops) o =
    let rest = filter (is_of own) ops in
    let all = filter (is_of own) (ops ++ o ∷ []) in
    elim (is_of own x) as (λ b. length (cond b (x ∷ all) all) ≡ cond (is_of own o) (length (cond b (x ∷ rest) rest) + 1) (length (cond b (x ∷ rest) rest))) [
      | true ↦ one_more (is_of own o) (length all) (length rest) (count_more own ops o)
      | false ↦ count_more own ops o
    ]

-- the count doesn't fall with more operations
count_grows : (own : Origin) (ops : List Operation) (o : Operation) → count_of own ops ≤ count_of own (ops ++ o ∷ [])
count_grows own ops o = subst (λ k. count_of own ops ≤ k) (sym (count_more own ops o)) (at_least (is_of own o) (count_of own ops))
  where
    at_least : (b : Bool) (k : ℕ) → k ≤ cond b (k + 1) k
    at_least true k = omega arith
    at_least false k = omega arith

-- ---- the invariant
-- the incarnation issued none of the operations, or one whose counter is the number of its operations
abbrev IsLatest : Origin → List Operation → Type 0
IsLatest own ops = (count_of own ops ≡ 0) ⊎ ((o : Operation) × (IsOperationOf o ops × ((o.dot.origin ≡ own) × (o.dot.n ≡ count_of own ops))))

-- the issued operations, with the last incarnation of each node
pub record InOrder (ops : List Operation) (last : NodeId → ℕ) : Type 0 where
  pub lives : (o : Operation) → IsOperationOf o ops → (n : NodeId) (l : Life) → life_said o.dot o.act ≡ Some (n, l) → l.inc ≤ last n
  pub replaced : (d : Dot) (o : Operation) → IsOperationOf o ops → replaces d o ≡ true → HasDot d ops
  pub counted : (o : Operation) → IsOperationOf o ops → o.dot.n ≤ count_of o.dot.origin ops
  pub latest : (own : Origin) → IsLatest own ops

pub order_none : (last : NodeId → ℕ) → InOrder [] last
order_none last = record { lives = λ o i. absurd i; replaced = λ d o i. absurd i; counted = λ o i. absurd i; latest = λ own. inl refl }

pub order_later : (ops : List Operation) (last later : NodeId → ℕ) → ((n : NodeId) → last n ≤ later n) → InOrder ops last → InOrder ops later
order_later ops last later on h = record { lives = λ o i n l e. le_trans (h.lives o i n l e) (on n); replaced = h.replaced; counted = h.counted; latest = h.latest }

-- ---- the next operation of an incarnation that holds all its operations
module _ (ops : List Operation) (last : NodeId → ℕ) (os : List Operation) (o : Operation) (h : InOrder ops last) (inside : AreOperationsOf os ops)
    (mine : (p : Operation) → IsOperationOf p ops → p.dot.origin ≡ o.dot.origin → IsOperationOf p os) (alive : o.dot.origin.inc ≤ last o.dot.origin.node) (next : IsNextAfter os o) where
  abbrev issuer : Origin
  issuer = o.dot.origin

  -- a dot known to the issuer was issued
  was_issued : (d : Dot) → set.contains (meaning_of os).known d ≡ true → HasDot d ops
  was_issued d t =
      let p = found (names d) os (sym (known-meaning os d) ∙ t) in
      elim (or_cases (has_dot d p.0) (replaces d p.0) p.1.1) [
        | inl a ↦ (p.0, (inside p.0 p.1.0, sym (same_dot_is d p.0.dot a)))
        | inr b ↦ h.replaced d p.0 (inside p.0 p.1.0) b
      ]

  below : count_of issuer ops < o.dot.n
  below = elim (h.latest issuer) [ inl none ↦ above_none next.next.tight none | inr q ↦ above_it q.0.dot.n (count_of issuer ops) o.dot.n (next.next.above q.0.dot.n (subst (λ (x : Origin). set.contains (meaning_of os).known (dot x q.0.dot.n) ≡ true) q.1.1.0 (known q.0 (mine q.0 q.1.0 q.1.1.0)))) q.1.1.1 ]
    where
      known : (p : Operation) → IsOperationOf p os → set.contains (meaning_of os).known p.dot ≡ true
      known p i = known-meaning os p.dot ∙ finds (names p.dot) os p i (ap (λ b. b || replaces p.dot p) (same_dot_itself p.dot))

      above_it : (n c m : ℕ) → n < m → n ≡ c → c < m
      above_it n c m a b = omega arith

      from_one : (c n : ℕ) → n ≡ 1 → c ≡ 0 → c < n
      from_one c n a b = omega arith

      from_more : (c n : ℕ) → n - 1 < n → c ≡ 0 → c < n
      from_more c n a b = omega arith

      above_none : (o.dot.n ≡ 1) ⊎ (set.contains (meaning_of os).known (dot issuer (o.dot.n - 1)) ≡ true) → count_of issuer ops ≡ 0 → count_of issuer ops < o.dot.n
      above_none (inl one) none = from_one (count_of issuer ops) o.dot.n one none
      above_none (inr t) none = from_more (count_of issuer ops) o.dot.n (next.next.above (o.dot.n - 1) t) none

  upto : o.dot.n ≤ count_of issuer ops + 1
  upto = elim next.next.tight [ inl one ↦ at_one o.dot.n (count_of issuer ops) one | inr t ↦ let q = was_issued (dot issuer (o.dot.n - 1)) t in at_more o.dot.n (count_of issuer ops) (subst (λ (d : Dot). d.n ≤ count_of d.origin ops) q.1.1 (h.counted q.0 q.1.0)) ]
    where
      at_one : (n c : ℕ) → n ≡ 1 → n ≤ c + 1
      at_one n c e = omega arith

      at_more : (n c : ℕ) → n - 1 ≤ c → n ≤ c + 1
      at_more n c e = omega arith

  pub exact : o.dot.n ≡ count_of issuer ops + 1
  exact = between o.dot.n (count_of issuer ops) below upto
    where
      between : (n c : ℕ) → c < n → n ≤ c + 1 → n ≡ c + 1
      between n c a b = omega arith

  counts_it : count_of issuer (ops ++ o ∷ []) ≡ count_of issuer ops + 1
  counts_it = count_more issuer ops o ∙ ap (λ b. cond b (count_of issuer ops + 1) (count_of issuer ops)) (it_of issuer o refl)

  new_life : (n : NodeId) (l : Life) (act : Act) → EndsLive (meaning_of os) act → life_said o.dot act ≡ Some (n, l) → l.inc ≤ last n
  new_life n l Up ends e = let p = pair_of e in subst (λ (q : NodeId × Life). q.1.inc ≤ last q.0) (λ i. (p.0 i, p.1 i)) alive
  new_life n l (Down node inc) ends e =
      let p = pair_of e in
      let said = life_says os node (record { inc = inc; flag = IsUp }) ends in
      let bound : inc ≤ last node = h.lives said.0 (inside said.0 said.1.0) node (record { inc = inc; flag = IsUp }) said.1.1 in
      subst (λ (q : NodeId × ℕ). q.1 ≤ last q.0) (λ i. (p.0 i, (p.1 i).inc)) bound
  new_life n l (Permit key value over) ends e = none_some e
  new_life n l _ ends e = none_some e

  latest_more : (at : Origin) → IsLatest at (ops ++ o ∷ [])
  latest_more at = elim (is_of at o) as (λ b. is_of at o ≡ b → IsLatest at (ops ++ o ∷ [])) [
    | true ↦ λ t. subst (λ q. IsLatest q (ops ++ o ∷ [])) (of_it at o t) (inr (o, (In-append_right o ops (o ∷ []) (inl refl), (refl, exact ∙ sym counts_it))))
    | false ↦ λ f.
        let same : count_of at (ops ++ o ∷ []) ≡ count_of at ops = count_more at ops o ∙ ap (λ b. cond b (count_of at ops + 1) (count_of at ops)) f in
        elim (h.latest at) [ inl none ↦ inl (same ∙ none) | inr q ↦ inr (q.0, (In-append_left q.0 ops (o ∷ []) q.1.0, (q.1.1.0, q.1.1.1 ∙ sym same))) ]
  ] refl

  pub order_more : InOrder (ops ++ o ∷ []) last
  order_more = record {
    lives = λ p i n l e. elim (In-append_cases p ops (o ∷ []) i) [
      | inl a ↦ h.lives p a n l e
      | inr b ↦ new_life n l o.act next.ends (ap (λ (x : Operation). life_said x.dot x.act) (sym (one_in p o b)) ∙ e)
    ];
    replaced = λ d p i t. elim (In-append_cases p ops (o ∷ []) i) [
      | inl a ↦ let q = h.replaced d p a t in (q.0, (In-append_left q.0 ops (o ∷ []) q.1.0, q.1.1))
      | inr b ↦
          let q = replaced_there os o.act d next.replaces (ap (replaces d) (sym (one_in p o b)) ∙ t) in
          (q.operation, (In-append_left q.operation ops (o ∷ []) (inside q.operation q.there), q.is))
    ];
    counted = λ p i. elim (In-append_cases p ops (o ∷ []) i) [
      | inl a ↦ le_trans (h.counted p a) (count_grows p.dot.origin ops o)
      | inr b ↦ subst (λ (x : Operation). x.dot.n ≤ count_of x.dot.origin (ops ++ o ∷ [])) (sym (one_in p o b)) (as_many o.dot.n (count_of issuer ops) (count_of issuer (ops ++ o ∷ [])) exact counts_it)
    ];
    latest = latest_more;
  }
    where
      as_many : (n c m : ℕ) → n ≡ c + 1 → m ≡ c + 1 → n ≤ m
      as_many n c m a b = omega arith

-- ---- consecutive operations of an incarnation
-- the operations are the incarnation's
abbrev pub AreOf : Origin → List Operation → Type 0
AreOf own [] = Unit {0}
AreOf own (o ∷ os) = (o.dot.origin ≡ own) × AreOf own os

pub order_all : (own : Origin) (last : NodeId → ℕ) → own.inc ≤ last own.node → (ops os more : List Operation) → InOrder ops last → AreOperationsOf os ops → ((p : Operation) → IsOperationOf p ops → p.dot.origin ≡ own → IsOperationOf p os) → AreOf own more → AreNext os more →
    AreOwn own ops more × InOrder (ops ++ more) last
order_all own last alive ops os [] h inside mine of next = (tt, subst (λ l. InOrder l last) (sym (append-nil ops)) h)
order_all own last alive ops os (x ∷ more) h inside mine of next =
    let same : x.dot.origin ≡ own = of.0 in
    let own_too : (p : Operation) → IsOperationOf p ops → p.dot.origin ≡ x.dot.origin → IsOperationOf p os = λ p i e. mine p i (e ∙ same) in
    let alive_too : x.dot.origin.inc ≤ last x.dot.origin.node = subst (λ (q : Origin). q.inc ≤ last q.node) (sym same) alive in
    let counter : x.dot.n ≡ count_of own ops + 1 = subst (λ (q : Origin). x.dot.n ≡ count_of q ops + 1) same (exact ops last os x h inside own_too alive_too next.0) in
    let rest = order_all own last alive (ops ++ x ∷ []) (os ++ x ∷ []) more (order_more ops last os x h inside own_too alive_too next.0)
    (Within-append os (x ∷ []) (ops ++ x ∷ []) (λ o i. In-append_left o ops (x ∷ []) (inside o i)) (λ o i. In-append_right o ops (x ∷ []) i))
    (λ p i e. elim (In-append_cases p ops (x ∷ []) i) [ inl a ↦ In-append_left p os (x ∷ []) (mine p a e) | inr b ↦ In-append_right p os (x ∷ []) b ])
    of.1 next.1 in
    ((record { origin = same; counter = counter }, rest.0), subst (λ l. InOrder l last) (append_assoc ops (x ∷ []) more) rest.1)
