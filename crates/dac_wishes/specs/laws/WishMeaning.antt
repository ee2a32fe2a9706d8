-- Laws of the definitions in `WishMeaning`.
use Rattle.std.specs.Prelude.{◌≡◌, Bool, true, false, not, ◌&&◌, ◌||◌, List, ◌∷◌, refl}
use Rattle.std.proofs.Common.{sym, ap, ◌∙◌, inl, inr}
use Rattle.std.specs.List.{list_any}
use Rattle.std.specs.Ordering.{eq_by_cmp}
use Rattle.std.specs.FinSet as set
use Rattle.std.proofs.lemmas.Bool.{and_parts, or_left, false≢true, true≢false}
use Rattle.std.proofs.Math.Bool.{or-false}
use Rattle.dac_origins.specs.declared.dot.Dot.{Dot}
use Rattle.dac_origins.specs.Dots.{Dots, dot_cmp}
use Rattle.dac_lattice.specs.Pieces.{AreOperations, IsPiece}
use Rattle.dac_store.specs.laws.Stores.{same_context, both_ways}
use Rattle.dac_wishes.specs.declared.wish_act.WishAct.{WishAct}
use Rattle.dac_wishes.specs.declared.wish_act.WishAct.TheVariants.{Start, Other}
use Rattle.dac_wishes.specs.Writes.{Write, write_cmp, same_dot}
use Rattle.dac_wishes.specs.laws.KeyedWrites.{same_dot_is}
use Rattle.dac_wishes.specs.laws.Writes.{writes_total, same_write}
use Rattle.dac_wishes.specs.WishesValue.{WishesValue, AreWishes, join_wishes, no_wishes}
use Rattle.dac_wishes.specs.laws.WishesValue.{known-join, standing-join, same_wishes}
use Rattle.dac_wishes.specs.Replacing.{is_under, replaces, is_replaced, ExcludesOwnDot}
use Rattle.dac_wishes.specs.laws.Replacing.{contains-named_by, known_more, names-or, spares, found, finds, again}
use Rattle.dac_wishes.specs.WishMeaning.{IsMeaning, is_start, over_of, starts_in, wish_delta, wishes}

-- ---- the joined deltas of operations are their meaning

pub contains-delta : (d : Dot) (a : WishAct) (w : Write) → set.contains (wish_delta d a).standing w ≡ is_start w (d, a)
contains-delta d a w = set.contains-from_list writes_total (starts_in d a) w ∙ in_starts a
  where
    in_starts : (a : WishAct) → list_any (eq_by_cmp write_cmp w) (starts_in d a) ≡ is_start w (d, a)
    in_starts (Start key over) = or-false _ ∙ same_write w key d
    in_starts (Other over) = refl

-- k, e, o: the operation starts the key, has the dot, replaces it. st, dt, ov: among the earlier ones, some writes the
-- wish, some has the dot, some replaces it
one_stands : (k e o st dt ov : Bool) → (e ≡ true → o ≡ false) → (st ≡ true → dt ≡ true) → (e ≡ true → dt ≡ true → st ≡ k)
    → (((st && not ov) && ((k && e) || not (e || o))) || ((k && e) && ((st && not ov) || not (ov || dt)))) ≡ (((k && e) || st) && not (o || ov))
one_stands k true true st dt ov f g h = absurd (true≢false (f refl))
one_stands true true false true true true f g h = refl
one_stands true true false true true false f g h = refl
one_stands true true false false true ov f g h = absurd (false≢true (h refl refl))
one_stands false true false true true ov f g h = absurd (true≢false (h refl refl))
one_stands false true false false true ov f g h = refl
one_stands k true false true false ov f g h = absurd (false≢true (g refl))
one_stands true true false false false true f g h = refl
one_stands true true false false false false f g h = refl
one_stands false true false false false ov f g h = refl
one_stands true false true true dt true f g h = refl
one_stands true false true true dt false f g h = refl
one_stands true false false true dt true f g h = refl
one_stands true false false true dt false f g h = refl
one_stands true false true false dt ov f g h = refl
one_stands true false false false dt ov f g h = refl
one_stands false false true true dt true f g h = refl
one_stands false false true true dt false f g h = refl
one_stands false false false true dt true f g h = refl
one_stands false false false true dt false f g h = refl
one_stands false false true false dt ov f g h = refl
one_stands false false false false dt ov f g h = refl

-- a start's dot is that of an operation
start_has_dot : (w : Write) (os : List (Dot × WishAct)) → list_any (is_start w) os ≡ true → list_any (is_under w.dot) os ≡ true
start_has_dot w os h = let p = found (is_start w) os h in finds (is_under w.dot) os p.0 p.1.0 (and_parts (wishes w.key p.0.1) (is_under w.dot p.0) p.1.1).1

-- if the operation is among the earlier ones, one of them writes the wish exactly if it does
start_again : (os : List (Dot × WishAct)) (o : Dot × WishAct) → AreOperations (ExcludesOwnDot over_of) (o ∷ os) → (w : Write) → is_under w.dot o ≡ true → list_any (is_under w.dot) os ≡ true → list_any (is_start w) os ≡ wishes w.key o.1
start_again os o h w e there = both_ways _ _
    (λ t.
    let p = found (is_start w) os t in
    let parts = and_parts (wishes w.key p.0.1) (is_under w.dot p.0) p.1.1 in
    let same : p.0 ≡ o = h.agree p.0 o (inr p.1.0) (inl refl) (sym (same_dot_is w.dot p.0.0 parts.1) ∙ same_dot_is w.dot o.0 e) in
    ap (λ (q : Dot × WishAct). wishes w.key q.1) (sym same) ∙ parts.0)
    (λ t. finds (is_start w) os o (again (ExcludesOwnDot over_of) os o h w.dot e there) (λ i. t i && e i))

step : (os : List (Dot × WishAct)) (o : Dot × WishAct) (v : WishesValue) → AreWishes v → AreOperations (ExcludesOwnDot over_of) (o ∷ os) → IsMeaning os v → IsMeaning (o ∷ os) (join_wishes v (wish_delta o.0 o.1))
step os o v u h m = record {
  known = λ x. ap (λ (s : Dots). set.contains s x) (known-join v (wish_delta o.0 o.1)) ∙ known_more over_of os o v.known m.known x;
  standing = λ w.
      let known = m.known w.dot ∙ names-or over_of w.dot os in
      standing-join v (wish_delta o.0 o.1) w
      ∙ (λ i. (m.standing w i && (contains-delta o.0 o.1 w i || not (contains-named_by over_of o.0 o.1 w.dot i))) || (contains-delta o.0 o.1 w i && (m.standing w i || not (known i))))
      ∙ one_stands (wishes w.key o.1) (is_under w.dot o) (replaces over_of w.dot o) (list_any (is_start w) os) (list_any (is_under w.dot) os) (is_replaced over_of w.dot os)
      (spares over_of os o h w.dot) (start_has_dot w os) (start_again os o h w);
}

delta_value : (d : Dot) (a : WishAct) → AreWishes (wish_delta d a)
delta_value d a w h = contains-named_by over_of d a w.dot ∙ or_left (same_dot w.dot d) (replaces over_of w.dot (d, a)) (and_parts (wishes w.key a) (same_dot w.dot d) (sym (contains-delta d a w) ∙ h)).1

one_meaning : (os : List (Dot × WishAct)) (v w : WishesValue) → AreWishes v → AreWishes w → IsMeaning os v → IsMeaning os w → v ≡ w
one_meaning os v w a b m n = same_wishes v w
    (same_context v.known w.known (λ x h. n.known x ∙ sym (m.known x) ∙ h) (λ x h. m.known x ∙ sym (n.known x) ∙ h))
    (λ q. m.standing q ∙ sym (n.standing q))

pub wish_piece : IsPiece AreWishes join_wishes no_wishes (ExcludesOwnDot over_of) wish_delta IsMeaning
wish_piece = record {
  delta_value = delta_value;
  start = record { known = λ x. set.contains-empty dot_cmp x; standing = λ w. set.contains-empty write_cmp w };
  step = step;
  one = one_meaning;
}
