-- Laws of the definitions in `Replacing`.
use Rattle.std.specs.Prelude.{◌≡◌, Bool, true, false, List, [], ◌∷◌, refl, ◌||◌}
use Rattle.std.proofs.Common.{sym, ap, subst, ◌∙◌, inl, inr}
use Rattle.std.specs.List.{list_any}
use Rattle.std.proofs.lemmas.Bool.{false≢true, or_cases, or_left, or_right}
use Rattle.dac_origins.specs.declared.dot.Dot.{Dot}
use Rattle.dac_lattice.specs.Pieces.{IsGivenIn, AreOperations}
use Rattle.dac_wishes.specs.laws.KeyedWrites.{same_dot_is}
use Rattle.dac_wishes.specs.Replacing.{is_under, replaces, is_replaced, names, ExcludesOwnDot, named_by, AreNamedIn}
use Rattle.std.specs.FinSet as set
use Rattle.std.proofs.Math.Bool.{or_comm}
use Rattle.dac_origins.specs.Dots.{Dots, dot_cmp}
use Rattle.dac_origins.specs.laws.Dots.{dots_total}
use Rattle.dac_origins.specs.Keys.{has_key}

module _ {A : Type 0} (over : A → List Dot) where
  pub contains-named_by : (d : Dot) (a : A) (x : Dot) → set.contains (named_by over d a) x ≡ names over x (d, a)
  contains-named_by d a x = set.contains-from_list dots_total (d ∷ over a) x

  -- one more operation makes the dots that it names known
  pub known_more : (os : List (Dot × A)) (o : Dot × A) (known : Dots) → AreNamedIn over os known → AreNamedIn over (o ∷ os) (set.union known (named_by over o.0 o.1))
  known_more os o known h x =
      set.contains-union dots_total known (named_by over o.0 o.1) x
      ∙ (λ i. h x i || contains-named_by o.0 o.1 x i)
      ∙ or_comm (list_any (names over x) os) (names over x o)

  -- a dot is named exactly if it is replaced or an operation's own
  pub names-or : (x : Dot) (os : List (Dot × A)) → list_any (names over x) os ≡ (is_replaced over x os || list_any (is_under x) os)
  names-or x [] = refl
  names-or x (o ∷ os) = ap (λ b. (is_under x o || replaces over x o) || b) (names-or x os) ∙ regroup (is_under x o) (replaces over x o) (is_replaced over x os) (list_any (is_under x) os)
    where
      regroup : (a b c e : Bool) → ((a || b) || (c || e)) ≡ ((b || c) || (a || e))
      regroup true true c e = refl
      regroup true false true e = refl
      regroup true false false e = refl
      regroup false true c e = refl
      regroup false false true e = refl
      regroup false false false e = refl

  -- an operation doesn't replace its own dot
  pub spares : (os : List (Dot × A)) (o : Dot × A) → AreOperations (ExcludesOwnDot over) (o ∷ os) → (x : Dot) → is_under x o ≡ true → replaces over x o ≡ false
  spares os o h x e = ap (has_key dot_cmp (over o.1)) (same_dot_is x o.0 e) ∙ h.fit o (inl refl)

-- if a test finds an operation, that is in the list
pub found : {A : Type 0} (p : Dot × A → Bool) (os : List (Dot × A)) → list_any p os ≡ true → (o : Dot × A) × (IsGivenIn o os × (p o ≡ true))
found p [] h = absurd (false≢true h)
found p (o ∷ os) h = elim (or_cases (p o) (list_any p os) h) [
  | inl t ↦ (o, (inl refl, t))
  | inr r ↦ let f = found p os r in (f.0, (inr f.1.0, f.1.1))
]

-- a test finds an operation if one in the list passes
pub finds : {A : Type 0} (p : Dot × A → Bool) (os : List (Dot × A)) (o : Dot × A) → IsGivenIn o os → p o ≡ true → list_any p os ≡ true
finds p [] o h t = absurd h
finds p (x ∷ os) o (inl e) t = or_left (p x) (list_any p os) (ap p (sym e) ∙ t)
finds p (x ∷ os) o (inr h) t = or_right (p x) (list_any p os) (finds p os o h t)

-- an operation whose dot occurs in the list is in the list
pub again : {A : Type 0} (fits : Dot → A → Type 0) (os : List (Dot × A)) (o : Dot × A) → AreOperations fits (o ∷ os) → (x : Dot) → is_under x o ≡ true → list_any (is_under x) os ≡ true → IsGivenIn o os
again fits os o h x e there =
    let p = found (is_under x) os there in
    let same : o ≡ p.0 = h.agree o p.0 (inl refl) (inr p.1.0) (sym (same_dot_is x o.0 e) ∙ same_dot_is x p.0.0 p.1.1) in
    subst (λ q. IsGivenIn q os) (sym same) p.1.0
