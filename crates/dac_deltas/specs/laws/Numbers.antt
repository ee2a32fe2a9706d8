-- Laws of the definitions in `Numbers`.
use Rattle.std.specs.Prelude.{◌≡◌, ◌⊎◌, ℕ, true, false, cond, [], Option, Some, None, max, refl}
use Rattle.std.proofs.Common.{inl, inr, leb, arith, sym, ap, subst, ◌∙◌}
use Rattle.std.specs.Ordering.{eq_by_cmp, is_eq}
use Rattle.std.specs.Cmp.{Equal-is}
use Rattle.std.specs.FinMap as map
use Rattle.std.proofs.lemmas.Bool.{true≢false, leb-true, leb-false}
use Rattle.std.proofs.lemmas.Cmp.{tied_itself}
use Rattle.dac_origins.specs.declared.dot.Origin.{Origin}
use Rattle.dac_origins.specs.Dots.{origin_cmp}
use Rattle.dac_origins.specs.laws.Dots.{origins_total, exact_origins}
use Rattle.dac_deltas.specs.Numbers.{HasAcknowledged, IsGreatest, NothingIsGreatest, RaisesAcknowledge, greater}

-- ---- the laws
pub nothing_is_greatest : NothingIsGreatest
nothing_is_greatest origin = subst (IsGreatest (HasAcknowledged [] origin)) (sym (map.get-empty origin_cmp origin)) (λ n h. h)

module _ (origin q : Origin) (n : ℕ) (P : ℕ → Type 0) where
  abbrev WithOne : ℕ → Type 0
  WithOne k = ((origin ≡ q) × (n ≡ k)) ⊎ P k

  -- one more number of the same origin
  same_origin : (before : Option ℕ) → q ≡ origin → IsGreatest P before → IsGreatest WithOne (Some (greater before n))
  same_origin None same h = (
    inl (sym same, refl),
    λ k s. elim s [
      | inl is ↦ let e = is.1 in omega arith
      | inr p ↦ absurd (h k p)
    ],
  )
  same_origin (Some g) same h = (
    reached,
    λ k s. elim s [
      | inl is ↦ let e = is.1 in omega arith
      | inr p ↦ let at_most = h.1 k p in omega arith
    ],
  )
    where
      reached : WithOne (max g n)
      reached = elim (leb n g) as (λ b. leb n g ≡ b → WithOne (max g n)) [
        | true ↦ λ e. let below = leb-true n g e in inr (subst P (omega arith) h.0)
        | false ↦ λ e. let above = leb-false n g e in inl (sym same, omega arith)
      ] refl

  -- one more number of another origin
  other_origin : (before : Option ℕ) → ¬ (q ≡ origin) → IsGreatest P before → IsGreatest WithOne before
  other_origin None other h = λ k s. elim s [ inl is ↦ other (sym is.0) | inr p ↦ h k p ]
  other_origin (Some g) other h = (inr h.0, λ k s. elim s [ inl is ↦ absurd (other (sym is.0)) | inr p ↦ h.1 k p ])

pub raises_acknowledge : RaisesAcknowledge
raises_acknowledge rs m origin n h q =
    let new = greater (map.get m origin) n in
    let before = HasAcknowledged rs q in
    let same : eq_by_cmp origin_cmp q origin ≡ true → q ≡ origin = λ e. exact_origins q origin ((Equal-is (origin_cmp q origin)).0 e) in
    subst (IsGreatest (WithOne origin q n before)) (sym (map.get-insert origins_total m origin new q))
    (elim (eq_by_cmp origin_cmp q origin) as (λ b. eq_by_cmp origin_cmp q origin ≡ b → IsGreatest (WithOne origin q n before) (cond b (Some new) (map.get m q))) [
      | true ↦ λ e. subst (λ had. IsGreatest (WithOne origin q n before) (Some (greater had n))) (ap (map.get m) (same e)) (same_origin origin q n before (map.get m q) (same e) (h q))
      | false ↦ λ e. other_origin origin q n before (map.get m q) (λ is. true≢false (sym (ap is_eq (tied_itself origins_total origin)) ∙ (ap (λ o. eq_by_cmp origin_cmp o origin) (sym is) ∙ e))) (h q)
    ] refl)
