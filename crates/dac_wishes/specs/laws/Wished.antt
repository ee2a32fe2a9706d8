-- The test of start wishes equals its spelled-out form, for every value.
use Rattle.std.specs.Prelude.{◌≡◌, ◌↔◌, true, List, [], ◌∷◌}
use Rattle.std.proofs.Common.{sym, ap, ◌∙◌, inl, inr}
use Rattle.std.specs.List.{list_any}
use Rattle.std.specs.Ordering.{eq_by_cmp, is_eq}
use Rattle.std.specs.Cmp.{Equal-is, tied_itself}
use Rattle.std.specs.FinSet as set
use Rattle.std.proofs.lemmas.Bool.{false≢true, or_cases, or_left, or_right}
use Rattle.dac_origins.specs.declared.dot.Dot.{Dot}
use Rattle.dac_wishes.specs.declared.key.Key.{Key}
use Rattle.dac_wishes.specs.Keys.{same_key}
use Rattle.dac_wishes.specs.laws.Keys.{same_key_is, same_key_itself}
use Rattle.dac_wishes.specs.Writes.{Write, write, write_cmp}
use Rattle.dac_wishes.specs.laws.Writes.{writes_total, exact_writes}
use Rattle.dac_wishes.specs.WishesValue.{WishesValue, is_wished, SomeStands}

-- one of the writes is at the key
one_of_key : (key : Key) (ws : List Write) → list_any (λ (w : Write). same_key w.key key) ws ≡ true → (d : Dot) × (list_any (eq_by_cmp write_cmp (write key d)) ws ≡ true)
one_of_key key [] h = absurd (false≢true h)
one_of_key key (w ∷ ws) h = elim (or_cases (same_key w.key key) (list_any (λ (w : Write). same_key w.key key) ws) h) [
  | inl t ↦ (w.dot, or_left _ _ (ap (λ k. eq_by_cmp write_cmp (write k w.dot) w) (sym (same_key_is w.key key t)) ∙ ap is_eq (tied_itself writes_total w)))
  | inr r ↦ let d = one_of_key key ws r in (d.0, or_right _ _ d.1)
]

of_one_key : (key : Key) (d : Dot) (ws : List Write) → list_any (eq_by_cmp write_cmp (write key d)) ws ≡ true → list_any (λ (w : Write). same_key w.key key) ws ≡ true
of_one_key key d [] h = absurd (false≢true h)
of_one_key key d (w ∷ ws) h = elim (or_cases (eq_by_cmp write_cmp (write key d) w) (list_any (eq_by_cmp write_cmp (write key d)) ws) h) [
  | inl t ↦ or_left _ _ (ap (λ (q : Write). same_key q.key key) (sym (exact_writes (write key d) w ((Equal-is (write_cmp (write key d) w)).0 t))) ∙ same_key_itself key)
  | inr r ↦ or_right _ _ (of_one_key key d ws r)
]

-- the test returns whether a start of the key stands
pub is_wished-some : (key : Key) (v : WishesValue) → (is_wished key v ≡ true) ↔ SomeStands key v
is_wished-some key v = (
  λ h. let d = one_of_key key (set.items v.standing) h in (d.0, set.contains-items v.standing (write key d.0) ∙ d.1),
  λ d. of_one_key key d.0 (set.items v.standing) (sym (set.contains-items v.standing (write key d.0)) ∙ d.1),
)
