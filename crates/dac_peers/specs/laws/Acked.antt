-- The greatest number that each origin acknowledged is recorded.
use Rattle.std.specs.Prelude.{◌≡◌, ◌≢◌, ◌≤◌, ◌&&◌, ℕ, Bool, true, false, cond, nat_eq, nat_le, max, Option, None, Some, refl, ◌⊎◌}
use Rattle.std.proofs.Common.{inl, inr, arith, leb, ap, sym, subst, ◌∙◌}
use Rattle.dac_peers.specs.laws.Common.{eqb-true, leb-true, leb-false, true≢false, none-some, same_Some, eq_by_cmp, Origin, origin_cmp, origins_total, Numbers, greater, raised, Message, PeersValue}
use Rattle.std.proofs.lemmas.Bool.{eq-eqb, le-leb}
use Rattle.std.specs.Ordering.{is_eq}
use Rattle.std.specs.Cmp.{Equal-is}
use Rattle.std.proofs.lemmas.Cmp.{tied_itself}
use Rattle.std.specs.FinMap as map
use Rattle.dac_origins.specs.laws.Dots.{exact_origins}
use Rattle.dac_deltas.specs.Numbers.{IsGreatest}
use Rattle.dac_peers.specs.Peers.{counts, acked_after}
use Rattle.dac_peers.specs.InWords.{Acknowledges, AckedIsGreatest}

-- ---- the greatest of a number and others
module _ (Q : ℕ → Type 0) where
  abbrev WithOld : Option ℕ → ℕ → Type 0
  WithOld old n = (old ≡ Some n) ⊎ Q n

  -- without others
  old_alone : (old : Option ℕ) → ((n : ℕ) → ¬ (Q n)) → IsGreatest (WithOld old) old
  old_alone None none = λ n s. elim s [ inl e ↦ none-some n e | inr q ↦ none n q ]
  old_alone (Some g) none = (inl refl, λ n s. elim s [ inl e ↦ let is = same_Some g n e in omega arith | inr q ↦ absurd (none n q) ])

  -- with one other
  with_new : (old : Option ℕ) (new : ℕ) → Q new → ((n : ℕ) → Q n → new ≡ n) → IsGreatest (WithOld old) (Some (greater old new))
  with_new None new q one = (inr q, λ n s. elim s [ inl e ↦ absurd (none-some n e) | inr r ↦ let is = one n r in omega arith ])
  with_new (Some g) new q one = (
    elim (leb new g) as (λ b. leb new g ≡ b → WithOld (Some g) (max g new)) [
      | true ↦ λ e. let few = leb-true new g e in inl (ap Some (omega arith))
      | false ↦ λ e. let more = leb-false new g e in inr (subst Q (omega arith) q)
    ] refl,
    λ n s. elim s [ inl e ↦ let is = same_Some g n e in omega arith | inr r ↦ let is = one n r in omega arith ],
  )

-- origins are equal or not, as the test says
pub same_or_not : (a b : Origin) → ((a ≡ b) × (eq_by_cmp origin_cmp a b ≡ true)) ⊎ ((a ≢ b) × (eq_by_cmp origin_cmp a b ≡ false))
same_or_not a b = elim (eq_by_cmp origin_cmp a b) as (λ t. eq_by_cmp origin_cmp a b ≡ t → ((a ≡ b) × (eq_by_cmp origin_cmp a b ≡ true)) ⊎ ((a ≢ b) × (eq_by_cmp origin_cmp a b ≡ false))) [
  | true ↦ λ e. inl (exact_origins a b ((Equal-is (origin_cmp a b)).0 e), e)
  | false ↦ λ e. inr ((λ is. true≢false (sym (ap is_eq (tied_itself origins_total b)) ∙ (ap (λ o. eq_by_cmp origin_cmp o b) (sym is) ∙ e))), e)
] refl

-- ---- an acknowledgement that counts
pub and_parts : (a b : Bool) → (a && b) ≡ true → (a ≡ true) × (b ≡ true)
and_parts true b e = (refl, e)
and_parts false b e = absurd (true≢false (sym e))

counts_is : (own : Origin) (count : ℕ) (ack : Origin × ℕ) → counts own count ack ≡ true → (ack ≡ (own, ack.1)) × (ack.1 ≤ count)
counts_is own count ack e =
    let node = and_parts (nat_eq ack.0.node.0 own.node.0) (nat_eq ack.0.inc own.inc && nat_le ack.1 count) e in
    let rest = and_parts (nat_eq ack.0.inc own.inc) (nat_le ack.1 count) node.1 in
    let same_node = eqb-true ack.0.node.0 own.node.0 node.0 in
    let same_inc = eqb-true ack.0.inc own.inc rest.0 in
    (λ i. (record { node = record { 0 = same_node i }; inc = same_inc i }, ack.1), leb-true ack.1 count rest.1)

is_counted : (own : Origin) (count n : ℕ) → n ≤ count → counts own count (own, n) ≡ true
is_counted own count n within = ap (λ b. b && (nat_eq own.inc own.inc && nat_le n count)) (eq-eqb own.node.0 own.node.0 refl) ∙ (ap (λ b. b && nat_le n count) (eq-eqb own.inc own.inc refl) ∙ le-leb n count within)

-- ---- after a message
module _ (own : Origin) (count : ℕ) (p : PeersValue) (m : Message) where
  abbrev After : Numbers → Type 0
  After acked = ((origin : Origin) → IsGreatest (λ n. (map.get p.acked origin ≡ Some n) ⊎ Acknowledges own count m origin n) (map.get acked origin)) × ((origin : Origin) → origin ≢ m.from → map.get acked origin ≡ map.get p.acked origin)

  abbrev Said : Origin → ℕ → Type 0
  Said origin k = (map.get p.acked origin ≡ Some k) ⊎ Acknowledges own count m origin k

  abbrev new : ℕ → ℕ
  new n = greater (map.get p.acked m.from) n

  -- a message without an acknowledgement that counts
  unchanged : ((n : ℕ) → m.ack ≡ Some (own, n) → ¬ (n ≤ count)) → After p.acked
  unchanged none = (λ origin. old_alone (Acknowledges own count m origin) (map.get p.acked origin) (λ n a. none n a.ack a.within), λ origin apart. refl)

  raises : (n : ℕ) → m.ack ≡ Some (own, n) → n ≤ count → After (raised p.acked m.from n)
  raises n is within = (
    λ origin. elim (same_or_not origin m.from) [
      | inl same ↦ subst (IsGreatest (Said origin)) (sym (there origin same.1 ∙ ap (λ o. Some (greater (map.get p.acked o) n)) (sym same.0))) (with_new (Acknowledges own count m origin) (map.get p.acked origin) n (record { sender = same.0; ack = is; within = within }) (λ k a. ap (λ (x : Origin × ℕ). x.1) (same_Some (own, n) (own, k) (sym is ∙ a.ack))))
      | inr apart ↦ subst (IsGreatest (Said origin)) (sym (elsewhere origin apart.1)) (old_alone (Acknowledges own count m origin) (map.get p.acked origin) (λ k a. apart.0 a.sender))
    ],
    λ origin apart. elim (same_or_not origin m.from) [ inl same ↦ absurd (apart same.0) | inr other ↦ elsewhere origin other.1 ],
  )
    where
      gets : (origin : Origin) → map.get (raised p.acked m.from n) origin ≡ cond (eq_by_cmp origin_cmp origin m.from) (Some (new n)) (map.get p.acked origin)
      gets origin = map.get-insert origins_total p.acked m.from (new n) origin

      there : (origin : Origin) → eq_by_cmp origin_cmp origin m.from ≡ true → map.get (raised p.acked m.from n) origin ≡ Some (new n)
      there origin e = gets origin ∙ ap (λ b. cond b (Some (new n)) (map.get p.acked origin)) e

      elsewhere : (origin : Origin) → eq_by_cmp origin_cmp origin m.from ≡ false → map.get (raised p.acked m.from n) origin ≡ map.get p.acked origin
      elsewhere origin e = gets origin ∙ ap (λ b. cond b (Some (new n)) (map.get p.acked origin)) e

  by_ack : (ack : Option (Origin × ℕ)) → m.ack ≡ ack → After (acked_after own count p.acked m.from ack)
  by_ack None is = unchanged (λ n e _. none-some (own, n) (sym is ∙ e))
  by_ack (Some a) is = elim (counts own count a) as (λ b. counts own count a ≡ b → After (cond b (raised p.acked m.from a.1) p.acked)) [
    | true ↦ λ e. let yes = counts_is own count a e in raises a.1 (is ∙ ap Some yes.0) yes.1
    | false ↦ λ e. unchanged (λ n h within. true≢false (sym (is_counted own count n within) ∙ (ap (counts own count) (sym (same_Some a (own, n) (sym is ∙ h))) ∙ e)))
  ] refl

pub acked_is_greatest : AckedIsGreatest
acked_is_greatest own count p m = let after = by_ack own count p m m.ack refl in record { greatest = after.0; others = after.1 }
