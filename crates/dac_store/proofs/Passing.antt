-- Sets that gain the dots of a list that pass a test, sets that lose the dots that another lacks, and the dots of
-- stores in a list.
use Rattle.std.proofs.Common.{◌≡◌, ℕ, ◌+◌, ◌<◌, ◌≤◌, zero, suc, Bool, true, false, not, ◌&&◌, ◌||◌, List, [], ◌∷◌, ◌++◌, length, get_or, take, sym, ap, ◌∙◌, arith, refl}
use Rattle.std.specs.Ordering.{eq_by_cmp}
use Rattle.std.specs.Cmp.{Equal-is}
use Rattle.std.specs.FinSet as set
use Rattle.std.proofs.lemmas.Bool.{or_left, or_right}
use Rattle.std.proofs.lemmas.List.{take_all, take_more}
use Rattle.std.proofs.lemmas.List.Folds.{list_any_more}
use Rattle.std.proofs.Math.Bool.{and-false}
use Rattle.dac_origins.specs.Keys.{has_key}
use Rattle.dac_origins.specs.laws.KeyLaws.{has_is}
use Rattle.dac_origins.specs.Dots.{Dots, dot_cmp}
use Rattle.dac_origins.specs.laws.Dots.{dots_total, exact_dots}
use Rattle.dac_origins.specs.declared.dot.Dot.{Dot}
use Rattle.dac_store.specs.DotSets.{may_stay}
use Rattle.dac_store.specs.DotMaps.{has_in}

-- e: is the dot; h: was there before; r: is among those so far; b: passes
kept_test : (e h r b : Bool) → (e ≡ true → b ≡ true) → (e || (h || (r && b))) ≡ (h || ((r || e) && b))
kept_test true true r b f = refl
kept_test true false true b f = sym (f refl)
kept_test true false false b f = sym (f refl)
kept_test false h true b f = refl
kept_test false h false b f = refl

dropped_test : (e h r b : Bool) → (e ≡ true → b ≡ false) → (h || (r && b)) ≡ (h || ((r || e) && b))
dropped_test true h true b f = refl
dropped_test true h false b f = ap (λ x. h || x) (sym (f refl))
dropped_test false h true b f = refl
dropped_test false h false b f = refl

-- the set gained the dots of the list that pass the test
abbrev pub AddsPassing : (Dot → Bool) → List Dot → Dots → Dots → Type 0
AddsPassing p ks had now = (q : Dot) → set.contains now q ≡ (set.contains had q || (has_key dot_cmp ks q && p q))

tied_test : (p : Dot → Bool) (k q : Dot) (b : Bool) → p k ≡ b → eq_by_cmp dot_cmp q k ≡ true → p q ≡ b
tied_test p k q b t e = ap p (exact_dots q k ((Equal-is (dot_cmp q k)).0 e)) ∙ t

module _ (p : Dot → Bool) (ks : List Dot) (had now : Dots) where
  -- one more dot, which passes
  pub adds_kept : (i : ℕ) (e : Dot) → i < length ks → AddsPassing p (take i ks) had now → p (get_or ks i e) ≡ true → AddsPassing p (take (i + 1) ks) had (set.insert now (get_or ks i e))
  adds_kept i e h so_far t q =
      let k = get_or ks i e in
      set.contains-insert dots_total now k q
      ∙ ap (λ b. eq_by_cmp dot_cmp q k || b) (so_far q)
      ∙ kept_test (eq_by_cmp dot_cmp q k) (set.contains had q) (has_key dot_cmp (take i ks) q) (p q) (tied_test p k q true t)
      ∙ ap (λ b. set.contains had q || (b && p q)) (sym (list_any_more (eq_by_cmp dot_cmp q) ks i e h))

  -- one more dot, which doesn't pass
  pub adds_dropped : (i : ℕ) (e : Dot) → i < length ks → AddsPassing p (take i ks) had now → p (get_or ks i e) ≡ false → AddsPassing p (take (i + 1) ks) had now
  adds_dropped i e h so_far t q =
      let k = get_or ks i e in
      so_far q
      ∙ dropped_test (eq_by_cmp dot_cmp q k) (set.contains had q) (has_key dot_cmp (take i ks) q) (p q) (tied_test p k q false t)
      ∙ ap (λ b. set.contains had q || (b && p q)) (sym (list_any_more (eq_by_cmp dot_cmp q) ks i e h))

  -- all dots
  pub adds_all : (s : Dots) → set.from_list ks ≡ s → (i : ℕ) → length ks ≤ i → AddsPassing p (take i ks) had now → (q : Dot) → set.contains now q ≡ (set.contains had q || (set.contains s q && p q))
  adds_all s is i h so_far q = so_far q ∙ ap (λ l. set.contains had q || (has_key dot_cmp l q && p q)) (take_all i ks h) ∙ ap (λ b. set.contains had q || (b && p q)) (has_is dots_total ks s is q)

-- ---- sets that lose dots

-- a list without a dot represents the set with it removed
pub one_removed : (ks ls : List Dot) (k : Dot) → ((q : Dot) → has_key dot_cmp ls q ≡ (not (eq_by_cmp dot_cmp q k) && has_key dot_cmp ks q)) → set.from_list {R = dot_cmp} ls ≡ set.remove (set.from_list {R = dot_cmp} ks) k
one_removed ks ls k h = set.same_set dots_total exact_dots _ _ (λ q.
    set.contains-from_list dots_total ls q ∙ h q ∙ ap (λ b. not (eq_by_cmp dot_cmp q k) && b) (sym (set.contains-from_list dots_total ks q)) ∙ sym (set.contains-remove dots_total (set.from_list {R = dot_cmp} ks) k q))

-- the set lost the dots of the list that the other set lacks
abbrev pub LosesMissing : Dots → List Dot → Dots → Dots → Type 0
LosesMissing t ks had now = (q : Dot) → set.contains now q ≡ (set.contains had q && (set.contains t q || not (has_key dot_cmp ks q)))

-- h: was there before; t: in the other set; r: among those so far; e: is the dot
lost_test : (e h r t : Bool) → (e ≡ true → t ≡ false) → (not e && (h && (t || not r))) ≡ (h && (t || not (r || e)))
lost_test true h true t f = sym (ap (λ x. h && (x || false)) (f refl) ∙ and-false h)
lost_test true h false t f = sym (ap (λ x. h && (x || false)) (f refl) ∙ and-false h)
lost_test false h true t f = refl
lost_test false h false t f = refl

left_test : (e h r t : Bool) → (e ≡ true → t ≡ true) → (h && (t || not r)) ≡ (h && (t || not (r || e)))
left_test true h r t f = ap (λ x. h && (x || not r)) (f refl) ∙ sym (ap (λ x. h && (x || not (r || true))) (f refl))
left_test false h true t f = refl
left_test false h false t f = refl

module _ (t : Dots) (ks : List Dot) (had now : Dots) where
  -- one more dot, which the other set lacks
  pub loses_one : (i : ℕ) (e : Dot) → i < length ks → LosesMissing t (take i ks) had now → set.contains t (get_or ks i e) ≡ false → LosesMissing t (take (i + 1) ks) had (set.remove now (get_or ks i e))
  loses_one i e h so_far lacks q =
      let k = get_or ks i e in
      set.contains-remove dots_total now k q
      ∙ ap (λ b. not (eq_by_cmp dot_cmp q k) && b) (so_far q)
      ∙ lost_test (eq_by_cmp dot_cmp q k) (set.contains had q) (has_key dot_cmp (take i ks) q) (set.contains t q) (tied_test (set.contains t) k q false lacks)
      ∙ ap (λ b. set.contains had q && (set.contains t q || not b)) (sym (list_any_more (eq_by_cmp dot_cmp q) ks i e h))

  -- one more dot, which the other set has
  pub loses_none : (i : ℕ) (e : Dot) → i < length ks → LosesMissing t (take i ks) had now → set.contains t (get_or ks i e) ≡ true → LosesMissing t (take (i + 1) ks) had now
  loses_none i e h so_far has q =
      let k = get_or ks i e in
      so_far q
      ∙ left_test (eq_by_cmp dot_cmp q k) (set.contains had q) (has_key dot_cmp (take i ks) q) (set.contains t q) (tied_test (set.contains t) k q true has)
      ∙ ap (λ b. set.contains had q && (set.contains t q || not b)) (sym (list_any_more (eq_by_cmp dot_cmp q) ks i e h))

  -- all dots
  pub loses_all : (c : Dots) → set.from_list ks ≡ c → (i : ℕ) → length ks ≤ i → LosesMissing t (take i ks) had now → (q : Dot) → set.contains now q ≡ (set.contains had q && may_stay t c q)
  loses_all c is i h so_far q = so_far q ∙ ap (λ l. set.contains had q && (set.contains t q || not (has_key dot_cmp l q))) (take_all i ks h) ∙ ap (λ b. set.contains had q && (set.contains t q || not b)) (has_is dots_total ks c is q)

-- ---- stores in a list

-- the map has the dots of each of its stores
pub has_at : {K S : Type 0} (has : S → Dot → Bool) (m : List (K × S)) (i : ℕ) (d : K × S) (x : Dot) → i < length m → has (get_or m i d).1 x ≡ true → has_in has m x ≡ true
has_at has [] i d x p e = absurd (omega arith)
has_at has (f ∷ m) zero d x p e = or_left (has f.1 x) (has_in has m x) e
has_at has (f ∷ m) (suc i) d x p e = or_right (has f.1 x) (has_in has m x) (has_at has m i d x (omega arith) e)

-- one more entry is copied
pub copied_more : {K S : Type 0} (xs : List (K × S)) (i : ℕ) (done new : List (K × S)) (e : K × S) (s : S) → i < length xs → e ≡ get_or xs i e → done ≡ take i xs → s ≡ e.1 → new ≡ done ++ (e.0, s) ∷ [] → new ≡ take (i + 1) xs
copied_more {K} {S} xs i done new e s h is so_far same pushed =
    pushed
    ∙ ap (λ es. es ++ (e.0, s) ∷ []) so_far
    ∙ ap (λ (f : K × S). take i xs ++ f ∷ []) (ap (λ (t : S). (e.0, t)) same ∙ is)
    ∙ sym (take_more xs i e h)
