-- The hash table finds every item that was put.
use Rattle.std.proofs.Common.{◌≡◌, ◌≢◌, ℕ, zero, suc, ◌+◌, ◌-◌, ◌<◌, ◌≤◌, ◌%◌, true, false, cond, inl, inr, ◌⊎◌, List, [], ◌∷◌, ◌++◌, Some, None, length, nat_eq, refl, sym, ap, subst, ◌∙◌, arith, below_more}
use Rattle.dac_weave.specs.laws.Common.{slice_get, slice_set, Vec, length-set, cases_eq, slice_get_within, slice_get_read, Bor, length-map, slice_get-map, option_map, lent, numbers_of, Finds, counted}
use Rattle.std.specs.List.{slice_index_or}
use Rattle.std.specs.Prelude.{Result, Ok, Err, OnErr}
use Rattle.dac_weave.specs.Indexing.{bucket_of, IsFiledIn, Files, IsKept, without, Unfiles}

-- a fact that holds anyway holds on an error
pub on_err : {A E P : Type 0} (r : Result A E) → P → OnErr r P
on_err (Ok x) p = tt
on_err (Err e) p = p

-- ---- lists by place
pub at-left : {X : Type 0} (xs ys : List X) (i : ℕ) (x : X) → slice_get xs i ≡ Some x → slice_get (xs ++ ys) i ≡ Some x
at-left [] ys i x h = cc
at-left (y ∷ xs) ys zero x h = h
at-left (y ∷ xs) ys (suc i) x h = at-left xs ys i x h

pub at-last : {X : Type 0} (xs : List X) (x : X) → slice_get (xs ++ x ∷ []) (length xs) ≡ Some x
at-last [] x = refl
at-last (y ∷ xs) x = at-last xs x

pub push-cases : {X : Type 0} (xs : List X) (y : X) (i : ℕ) (x : X) → slice_get (xs ++ y ∷ []) i ≡ Some x → (slice_get xs i ≡ Some x) ⊎ ((i ≡ length xs) × (y ≡ x))
push-cases [] y zero x h = inr (refl, cc)
push-cases [] y (suc i) x h = cc
push-cases (z ∷ xs) y zero x h = inl h
push-cases (z ∷ xs) y (suc i) x h = elim (push-cases xs y i x h) [
  | inl at ↦ inl at
  | inr both ↦ inr (ap suc both.0, both.1)
]

pub set-here : {X : Type 0} (xs : List X) (p : ℕ) (u v : X) → slice_get xs p ≡ Some u → slice_get (slice_set xs p v) p ≡ Some v
set-here [] p u v h = cc
set-here (x ∷ xs) zero u v h = refl
set-here (x ∷ xs) (suc p) u v h = set-here xs p u v h

pub set-apart : {X : Type 0} (xs : List X) (p k : ℕ) (v : X) → k ≢ p → slice_get (slice_set xs p v) k ≡ slice_get xs k
set-apart [] p k v ne = refl
set-apart (x ∷ xs) zero zero v ne = absurd (ne refl)
set-apart (x ∷ xs) zero (suc k) v ne = refl
set-apart (x ∷ xs) (suc p) zero v ne = refl
set-apart (x ∷ xs) (suc p) (suc k) v ne = set-apart xs p k v (λ e. ne (ap suc e))

-- ---- one more number
module _ (lists : List (Vec ℕ)) (p number : ℕ) (u v : Vec ℕ) (there : slice_get lists p ≡ Some u) (is : v.items ≡ u.items ++ number ∷ []) where
  abbrev after : List (Vec ℕ)
  after = slice_set lists p v

  abbrev place : ℕ → ℕ
  place q = q % length lists

  after-is : (q : ℕ) → bucket_of after q ≡ numbers_of (slice_get after (place q))
  after-is q = ap (λ n. numbers_of (slice_get after (q % n))) (length-set lists p v)

  after-here : (q : ℕ) → place q ≡ p → bucket_of after q ≡ u.items ++ number ∷ []
  after-here q e = after-is q ∙ (ap (λ k. numbers_of (slice_get after k)) e ∙ (ap numbers_of (set-here lists p u v there) ∙ is))

  before-here : (q : ℕ) → place q ≡ p → bucket_of lists q ≡ u.items
  before-here q e = ap (λ k. numbers_of (slice_get lists k)) e ∙ ap numbers_of there

  after-apart : (q : ℕ) → place q ≢ p → bucket_of after q ≡ bucket_of lists q
  after-apart q ne = after-is q ∙ ap numbers_of (set-apart lists p (place q) v ne)

  kept : (q k : ℕ) → IsFiledIn lists q k → IsFiledIn after q k
  kept q k h = elim (cases_eq (place q) p) [
    | inl e ↦ (h.0, subst (λ xs. slice_get xs h.0 ≡ Some k) (sym (after-here q e)) (at-left u.items (number ∷ []) h.0 k (subst (λ xs. slice_get xs h.0 ≡ Some k) (before-here q e) h.1)))
    | inr ne ↦ (h.0, subst (λ xs. slice_get xs h.0 ≡ Some k) (sym (after-apart q ne)) h.1)
  ]

  only : (q k : ℕ) → IsFiledIn after q k → IsFiledIn lists q k ⊎ (k ≡ number)
  only q k h = elim (cases_eq (place q) p) [
    | inl e ↦ elim (push-cases u.items number h.0 k (subst (λ xs. slice_get xs h.0 ≡ Some k) (after-here q e) h.1)) [
      | inl at ↦ inl (h.0, subst (λ xs. slice_get xs h.0 ≡ Some k) (sym (before-here q e)) at)
      | inr both ↦ inr (sym both.1)
    ]
    | inr ne ↦ inl (h.0, subst (λ xs. slice_get xs h.0 ≡ Some k) (after-apart q ne) h.1)
  ]

  files-at : (q : ℕ) → place q ≡ p → Files lists q number after
  files-at q e = record {
    here = (length u.items, subst (λ xs. slice_get xs (length u.items) ≡ Some number) (sym (after-here q e)) (at-last u.items number));
    kept = kept;
    only = only;
    last = λ r same. after-here r (same ∙ e) ∙ ap (λ (ns : List ℕ). ns ++ number ∷ []) (sym (before-here r (same ∙ e)));
    apart = λ r ne. after-apart r (λ same. ne (same ∙ sym e));
  }

pub files : (lists : List (Vec ℕ)) (label n number : ℕ) (u v : Vec ℕ) → n ≡ length lists → slice_get lists (label % n) ≡ Some u → v.items ≡ u.items ++ number ∷ [] → Files lists label number (slice_set lists (label % n) v)
files lists label n number u v long there is =
    files-at lists (label % n) number u v there is label (ap (λ k. label % k) (sym long))

-- a refused allocation changes no bucket
pub keeps : (lists : List (Vec ℕ)) (label n : ℕ) (u v : Vec ℕ) → n ≡ length lists → slice_get lists (label % n) ≡ Some u → v.items ≡ u.items → IsKept lists (slice_set lists (label % n) v)
keeps lists label n u v long there is q =
    let p = label % n in
    let after = slice_set lists p v in
    ap (λ m. numbers_of (slice_get after (q % m))) (length-set lists p v)
    ∙ elim (cases_eq (q % length lists) p) as (λ _. numbers_of (slice_get after (q % length lists)) ≡ bucket_of lists q) [
      | inl e ↦ ap (λ k. numbers_of (slice_get after k)) e ∙ (ap numbers_of (set-here lists p u v there) ∙ (is ∙ (ap numbers_of (sym there) ∙ ap (λ k. numbers_of (slice_get lists k)) (sym e))))
      | inr ne ↦ ap numbers_of (set-apart lists p (q % length lists) v ne)
    ]

-- ---- one number less
pub unfiles : (lists : List (Vec ℕ)) (label n number : ℕ) (u v : Vec ℕ) → n ≡ length lists → slice_get lists (label % n) ≡ Some u → v.items ≡ without number u.items → Unfiles lists label number (slice_set lists (label % n) v)
unfiles lists label n number u v long there is =
    let p = label % n in
    let after = slice_set lists p v in
    let read : (q : ℕ) → bucket_of after q ≡ numbers_of (slice_get after (q % length lists)) = λ q. ap (λ m. numbers_of (slice_get after (q % m))) (length-set lists p v) in
    let at : label % length lists ≡ p = ap (λ m. label % m) (sym long) in
    record {
      here = λ q same.
          let place : q % length lists ≡ p = same ∙ at in
          read q ∙ (ap (λ k. numbers_of (slice_get after k)) place ∙ (ap numbers_of (set-here lists p u v there) ∙ (is ∙ ap (without number) (sym (ap (λ k. numbers_of (slice_get lists k)) place ∙ ap numbers_of there)))));
      apart = λ q ne. read q ∙ ap numbers_of (set-apart lists p (q % length lists) v (λ same. ne (same ∙ sym at)));
    }

-- ---- places counted from 1
pub get-counted : {X : Type 0} (x : X) (xs : List X) (k : ℕ) → counted xs k ≡ Some x → slice_get xs (k - 1) ≡ Some x
get-counted {X} x xs k = elim (nat_eq k 0) as (λ b. cond b None (slice_get xs (k - 1)) ≡ Some x → slice_get xs (k - 1) ≡ Some x) [
  | true ↦ λ h. cc
  | false ↦ λ h. h
]

-- ---- no numbers
abbrev pub AllEmpty : List (Vec ℕ) → Type 0
AllEmpty lists = (i : ℕ) (v : Vec ℕ) → slice_get lists i ≡ Some v → v.items ≡ []

pub none-in : (lists : List (Vec ℕ)) → AllEmpty lists → (label k : ℕ) → IsFiledIn lists label k → ⊥
none-in lists h label k is = elim (slice_get lists (label % length lists)) as (λ o. slice_get lists (label % length lists) ≡ o → slice_get (numbers_of o) is.0 ≡ Some k → ⊥) [
  | None ↦ λ e at. cc
  | Some v ↦ λ e at. nothing (subst (λ xs. slice_get xs is.0 ≡ Some k) (h (label % length lists) v e) at)
] refl is.1
  where
    nothing : slice_get {X = ℕ} [] is.0 ≡ Some k → ⊥
    nothing e = cc

-- ---- references
pub lent-push : {X : Type 0} (items : List (Bor X)) (b : Bor X) → lent (items ++ b ∷ []) ≡ lent items ++ b.now ∷ []
lent-push [] b = refl
lent-push (x ∷ items) b = ap (λ xs. x.now ∷ xs) (lent-push items b)

-- ---- lookup
module _ {X : Type 0} (label_of : X → ℕ) where
  pub finds-new : (lists : List (Vec ℕ)) → ((label k : ℕ) → IsFiledIn lists label k → ⊥) → Finds label_of [] lists
  finds-new lists none = record { within = λ q k h. absurd (none q k h); found = λ i x h. cc }

  -- an item that its bucket lacks is nowhere
  pub found-none : (xs : List X) (lists : List (Vec ℕ)) (x : X) → Finds label_of xs lists → ((i k : ℕ) → slice_get (bucket_of lists (label_of x)) i ≡ Some k → slice_get xs k ≡ Some x → ⊥) → (k : ℕ) → slice_get xs k ≡ Some x → ⊥
  found-none xs lists x finds none k at =
      let f = finds.found k x at in
      none f.1.0.0 f.0 f.1.0.1 f.1.1

  -- appending an item that has an equal one keeps the index
  pub finds-again : (xs : List X) (lists : List (Vec ℕ)) (x : X) (k : ℕ) → slice_get xs k ≡ Some x → Finds label_of xs lists → Finds label_of (xs ++ x ∷ []) lists
  finds-again xs lists x k there finds = record {
    within = λ q i h. let w = finds.within q i h in (w.0, at-left xs (x ∷ []) i w.0 w.1);
    found = λ i y at. elim (push-cases xs x i y at) [
      | inl old ↦ more y (finds.found i y old)
      | inr new ↦ subst (λ z. (m : ℕ) × (IsFiledIn lists (label_of z) m × (slice_get (xs ++ x ∷ []) m ≡ Some z))) new.1 (more x (finds.found k x there))
    ];
  }
    where
      more : (y : X) → ((m : ℕ) × (IsFiledIn lists (label_of y) m × (slice_get xs m ≡ Some y))) → (m : ℕ) × (IsFiledIn lists (label_of y) m × (slice_get (xs ++ x ∷ []) m ≡ Some y))
      more y f = (f.0, (f.1.0, at-left xs (x ∷ []) f.0 y f.1.1))

  -- appending an item and filing it keeps the index
  pub finds-filed : (xs : List X) (lists new : List (Vec ℕ)) (x : X) (n : ℕ) → n ≡ length xs → Files lists (label_of x) n new → Finds label_of xs lists → Finds label_of (xs ++ x ∷ []) new
  finds-filed xs lists new x n long filed finds = record {
    within = λ q i h. elim (filed.only q i h) [
      | inl old ↦ let w = finds.within q i old in (w.0, at-left xs (x ∷ []) i w.0 w.1)
      | inr is ↦ (x, last i is)
    ];
    found = λ i y at. elim (push-cases xs x i y at) [
      | inl old ↦ let f = finds.found i y old in (f.0, (filed.kept (label_of y) f.0 f.1.0, at-left xs (x ∷ []) f.0 y f.1.1))
      | inr here ↦ subst (λ z. (m : ℕ) × (IsFiledIn new (label_of z) m × (slice_get (xs ++ x ∷ []) m ≡ Some z))) here.1 (n, (filed.here, last n refl))
    ];
  }
    where
      last : (i : ℕ) → i ≡ n → slice_get (xs ++ x ∷ []) i ≡ Some x
      last i e = subst (λ k. slice_get (xs ++ x ∷ []) k ≡ Some x) (sym (e ∙ long)) (at-last xs x)

  pub finds-kept : (xs : List X) (lists new : List (Vec ℕ)) → IsKept lists new → Finds label_of xs lists → Finds label_of xs new
  finds-kept xs lists new kept finds = record {
    within = λ q k h. finds.within q k (h.0, subst (λ ns. slice_get ns h.0 ≡ Some k) (kept q) h.1);
    found = λ i x at. let f = finds.found i x at in (f.0, ((f.1.0.0, subst (λ ns. slice_get ns f.1.0.0 ≡ Some f.0) (sym (kept (label_of x))) f.1.0.1), f.1.1));
  }

  -- each place in a bucket is one of the items
  pub filed-there : (xs : List X) (lists : List (Vec ℕ)) (q i p : ℕ) (bucket : List ℕ) → Finds label_of xs lists → bucket ≡ bucket_of lists q → slice_get bucket i ≡ Some p → (x : X) × (slice_get xs p ≡ Some x)
  filed-there xs lists q i p bucket finds is at = finds.within q p (i, subst (λ ns. slice_get ns i ≡ Some p) is at)

  -- ---- lists of references
  pub finds-empty : (items : List (Bor X)) (lists : List (Vec ℕ)) → items ≡ [] → ((label k : ℕ) → IsFiledIn lists label k → ⊥) → Finds label_of (lent items) lists
  finds-empty items lists e none = subst (λ (bs : List (Bor X)). Finds label_of (lent bs) lists) (sym e) (finds-new lists none)

  pub filed-within : (items : List (Bor X)) (lists : List (Vec ℕ)) (q i p : ℕ) (bucket : List ℕ) → Finds label_of (lent items) lists → bucket ≡ bucket_of lists q → slice_get bucket i ≡ Some p → p < length items
  filed-within items lists q i p bucket finds is at =
      let there = filed-there (lent items) lists q i p bucket finds is at in
      subst (λ n. p < n) (length-map items (λ (x : Bor X). x.now)) (slice_get_within (lent items) p there.0 there.1)

  -- reading a referenced item
  pub lent-at : (items : List (Bor X)) (p : ℕ) (b : Bor X) → p < length items → b ≡ slice_index_or items p b → slice_get (lent items) p ≡ Some b.now
  lent-at items p b lt read = slice_get-map (λ (x : Bor X). x.now) items p ∙ ap (option_map (λ (x : Bor X). x.now)) (slice_get_read items (length items) p b refl lt read)

  same_some : (x y : X) → Some x ≡ Some y → x ≡ y
  same_some x y e = cc

  -- the search goes on past an item that differs
  pub none-more : (xs : List X) (bucket : List ℕ) (n p : ℕ) (x y : X) → ((i : ℕ) → i < n → (k : ℕ) → slice_get bucket i ≡ Some k → slice_get xs k ≡ Some x → ⊥) → slice_get bucket n ≡ Some p → slice_get xs p ≡ Some y → (y ≡ x → ⊥) → (i : ℕ) → i < n + 1 → (k : ℕ) → slice_get bucket i ≡ Some k → slice_get xs k ≡ Some x → ⊥
  none-more xs bucket n p x y before here there ne =
      below_more (λ i. (k : ℕ) → slice_get bucket i ≡ Some k → slice_get xs k ≡ Some x → ⊥) n before
      (λ k at is. ne (same_some y x (sym there ∙ (ap (slice_get xs) (number (sym here ∙ at)) ∙ is))))
    where
      number : {p k : ℕ} → Some p ≡ Some k → p ≡ k
      number e = cc

  -- the search has seen the whole bucket
  pub nowhere : (xs : List X) (lists : List (Vec ℕ)) (x : X) (q : ℕ) (bucket : List ℕ) (n : ℕ) → Finds label_of xs lists → q ≡ label_of x → bucket ≡ bucket_of lists q → length bucket ≤ n → ((i : ℕ) → i < n → (k : ℕ) → slice_get bucket i ≡ Some k → slice_get xs k ≡ Some x → ⊥) → (k : ℕ) → slice_get xs k ≡ Some x → ⊥
  nowhere xs lists x q bucket n finds label is long none k at =
      found-none xs lists x finds
      (λ i p there. let own : slice_get bucket i ≡ Some p = subst (λ ns. slice_get ns i ≡ Some p) (sym (is ∙ ap (bucket_of lists) label)) there in none i (within i (slice_get_within bucket i p own)) p own)
      k at
    where
      within : (i : ℕ) → i < length bucket → i < n
      within i lt = omega arith

  -- ---- appending a reference
  pub lent-again : (items more : List (Bor X)) (lists : List (Vec ℕ)) (b : Bor X) (k : ℕ) → more ≡ items ++ b ∷ [] → counted (lent items) k ≡ Some b.now → Finds label_of (lent items) lists → Finds label_of (lent more) lists
  lent-again items more lists b k is at finds = subst (λ xs. Finds label_of xs lists) (sym (ap lent is ∙ lent-push items b)) (finds-again (lent items) lists b.now (k - 1) (get-counted b.now (lent items) k at) finds)

  pub lent-filed : (items more : List (Bor X)) (lists new : List (Vec ℕ)) (b : Bor X) (q n : ℕ) → more ≡ items ++ b ∷ [] → n ≡ length items → q ≡ label_of b.now → Files lists q n new → Finds label_of (lent items) lists → Finds label_of (lent more) new
  lent-filed items more lists new b q n is long label filed finds =
      subst (λ xs. Finds label_of xs new) (sym (ap lent is ∙ lent-push items b))
      (finds-filed (lent items) lists new b.now n (long ∙ sym (length-map items (λ (x : Bor X). x.now))) (subst (λ l. Files lists l n new) label filed) finds)

  pub lent-kept : (items more : List (Bor X)) (lists new : List (Vec ℕ)) → more ≡ items → IsKept lists new → Finds label_of (lent items) lists → Finds label_of (lent more) new
  lent-kept items more lists new is kept finds = subst (λ (xs : List (Bor X)). Finds label_of (lent xs) new) (sym is) (finds-kept (lent items) lists new kept finds)
