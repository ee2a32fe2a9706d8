-- Eligibility is unchanged at a pair that isn't touched.
use Rattle.std.proofs.Common.{◌≡◌, ◌↔◌, ℕ, Bool, true, false, not, cond, ◌&&◌, ◌||◌, List, Option, Some, None, option_map, ◌⊎◌, inl, inr, refl, sym, ap, subst, ◌∙◌}
use Rattle.std.specs.Prelude.{is_some}
use Rattle.std.specs.List.{list_any}
use Rattle.std.specs.Option.{option_map_or}
use Rattle.std.specs.Ordering.{is_eq}
use Rattle.std.specs.Cmp.Lexicographic.{pointwise, pointwise_decides}
use Rattle.std.specs.Cmp.{Equal-is, both_ways, tied_itself}
use Rattle.std.specs.FinSet as set
use Rattle.std.specs.FinMap as map
use Rattle.std.proofs.lemmas.Bool.{false≢true, not-false, true≢false, and_parts, and_from}
use Rattle.dac_base.specs.declared.NodeId.{NodeId}
use Rattle.dac_base.specs.declared.AppId.{AppId}
use Rattle.dac_origins.specs.declared.dot.Dot.{Dot}
use Rattle.dac_origins.specs.Dots.{Dots}
use Rattle.dac_origins.specs.InOrder.{in_order}
use Rattle.dac_origins.specs.laws.InOrder.{in_order-same}
use Rattle.dac_origins.specs.laws.Dots.{dots_total, exact_dots}
use Rattle.dac_lattice.specs.declared.flags.Flag.{Flag}
use Rattle.dac_lattice.specs.declared.flags.Flag.TheVariants.{Up, Down}
use Rattle.dac_lattice.specs.Flags.{flag_cmp}
use Rattle.dac_lattice.specs.laws.Flags.{flags_exact}
use Rattle.dac_lattice.specs.contracts.flags.FlagPartialEq.TheImpl.{eq-value}
use Rattle.dac_chains.specs.declared.lives.Life.{Life}
use Rattle.dac_chains.specs.Lives.{life_cmp, IsLive, live_at}
use Rattle.dac_chains.specs.laws.Lives.{exact_lives, lives_total}
use Rattle.dac_chains.specs.laws.Live.{live_is}
use Rattle.dac_store.specs.SameDots.{are_same}
use Rattle.dac_store.specs.laws.SameDots.{same_dots}
use Rattle.dac_config.specs.Table.{Table, group_of, default_permission}
use Rattle.dac_wishes.specs.declared.key.Key.{Key}
use Rattle.dac_wishes.specs.Writes.{dots_at}
use Rattle.dac_wishes.specs.laws.Writes.{contains-dots_at}
use Rattle.dac_wishes.specs.WishesValue.{WishesValue, is_wished}
use Rattle.dac_wishes.specs.laws.Wished.{is_wished-some}
use Rattle.dac_wishes.specs.PermissionsValue.{permits_at, is_permitted_by}
use Rattle.dac_wishes.specs.DrainsValue.{drains_at, says_drained}
use Rattle.dac_meaning.specs.StateValue.{StateValue, wishes_of}
use Rattle.dac_placement.specs.Placement.{key_at, is_eligible, is_allowed_at, is_started_at}
use Rattle.dac_board.specs.Boards.{spot_of}
use Rattle.dac_board.specs.Touched.{origin_of, StandAlike, stand_alike, same_life, same_flag, same_vote, IsTouched, is_touched}

-- ---- the tests

pub same_life_is : (l m : Option Life) → same_life l m ≡ true → l ≡ m
same_life_is None None e = refl
same_life_is None (Some m) e = absurd (false≢true e)
same_life_is (Some l) None e = absurd (false≢true e)
same_life_is (Some l) (Some m) e = ap (λ x. Some x) (exact_lives flag_cmp flags_exact l m ((Equal-is (life_cmp l m)).0 e))

pub same_flag_is : (f g : Flag) → same_flag f g ≡ true → f ≡ g
same_flag_is Up Up e = refl
same_flag_is Up Down e = absurd (false≢true e)
same_flag_is Down Up e = absurd (false≢true e)
same_flag_is Down Down e = refl

pub same_flag_itself : (f : Flag) → same_flag f f ≡ true
same_flag_itself Up = refl
same_flag_itself Down = refl

vote_decides : (p q : Dot × Flag) → (same_vote p q ≡ true → p ≡ q) × (p ≡ q → same_vote p q ≡ true)
vote_decides p q = (
  λ e. let parts = and_parts (are_same p.0 q.0) (same_flag p.1 q.1) e in λ i. ((same_dots p.0 q.0).0 parts.0 i, same_flag_is p.1 q.1 parts.1 i),
  λ e. subst (λ (x : Dot × Flag). same_vote p x ≡ true) e (and_from _ _ ((same_dots p.0 p.0).1 refl) (same_flag_itself p.1)),
)

-- the derived `==` of flags is this test
flag_compared : (f g : Flag) → eq-value.it f g ≡ same_flag f g
flag_compared Up Up = refl
flag_compared Up Down = refl
flag_compared Down Up = refl
flag_compared Down Down = refl

-- the derived `==` of lists of votes is this test
pub votes_compared : (xs ys : List (Dot × Flag)) → pointwise (λ (p : Dot × Flag) (q : Dot × Flag). are_same p.0 q.0 && eq-value.it p.1 q.1) xs ys ≡ pointwise same_vote xs ys
votes_compared xs ys = λ i. pointwise (λ (p : Dot × Flag) (q : Dot × Flag). are_same p.0 q.0 && flag_compared p.1 q.1 i) xs ys

pub same_votes : (xs ys : List (Dot × Flag)) → (pointwise same_vote xs ys ≡ true → xs ≡ ys) × (xs ≡ ys → pointwise same_vote xs ys ≡ true)
same_votes = pointwise_decides vote_decides

pub same_starts : (xs ys : Dots) → (pointwise are_same (in_order xs) (in_order ys) ≡ true → xs ≡ ys) × (xs ≡ ys → pointwise are_same (in_order xs) (in_order ys) ≡ true)
same_starts xs ys =
    let lists = pointwise_decides same_dots (in_order xs) (in_order ys) in (
      λ e. sym (in_order-same dots_total exact_dots xs) ∙ ap set.from_list (lists.0 e) ∙ in_order-same dots_total exact_dots ys,
      λ e. lists.1 (ap in_order e),
    )

-- ---- whether a key is wished depends only on the starts at it

wished_with : (key : Key) (v w : WishesValue) → dots_at key v.standing ≡ dots_at key w.standing → is_wished key v ≡ true → is_wished key w ≡ true
wished_with key v w same h =
    let d = (is_wished-some key v).0 h in
    (is_wished-some key w).1 (d.0, sym (contains-dots_at key w.standing d.0) ∙ ap (λ (s : Dots). set.contains s d.0) (sym same) ∙ contains-dots_at key v.standing d.0 ∙ d.1)

pub wished_by_starts : (key : Key) (s t : StateValue) → dots_at key s.starts ≡ dots_at key t.starts → is_wished key (wishes_of s) ≡ is_wished key (wishes_of t)
wished_by_starts key s t same = both_ways _ _ (wished_with key (wishes_of s) (wishes_of t) same) (wished_with key (wishes_of t) (wishes_of s) (sym same))

-- ---- two states that stand alike

module _ (old new : StateValue) (key : Key) where
  alike_decides : (stand_alike old new key ≡ true → StandAlike old new key) × (StandAlike old new key → stand_alike old new key ≡ true)
  alike_decides =
      let permits = same_votes (permits_at key old.permits) (permits_at key new.permits) in
      let starts = same_starts (dots_at key old.starts) (dots_at key new.starts) in
      let drains = same_votes (drains_at (origin_of key) old.drains) (drains_at (origin_of key) new.drains) in (
        λ e. let parts = and_parts _ _ e in let two = and_parts _ _ parts.0 in record { permits = permits.0 two.0; starts = starts.0 two.1; drains = drains.0 parts.1 },
        λ alike. and_from _ _ (and_from _ _ (permits.1 alike.permits) (starts.1 alike.starts)) (drains.1 alike.drains),
      )

  module _ (alike : StandAlike old new key) where
    pub alike_started : is_started_at old key ≡ is_started_at new key
    alike_started = wished_by_starts key old new alike.starts

    pub alike_allowed : (table : Table) → is_allowed_at table old key ≡ is_allowed_at table new key
    alike_allowed table = λ i. is_permitted_by (default_permission table key.app) (alike.permits i) && not (list_any (λ (p : Dot × Flag). says_drained p.1) (alike.drains i))

-- ---- a pair that isn't touched

first_fails : (a b : Bool) → (not a || b) ≡ false → (a ≡ true) × (b ≡ false)
first_fails true b e = (refl, e)
first_fails false b e = absurd (true≢false e)

module _ (table : Table) (old new : StateValue) (app : AppId) (node : NodeId) where
  -- the application is allowed and started at an incarnation
  abbrev wanted : StateValue → ℕ → Bool
  wanted s inc = is_allowed_at table s (key_at app node inc) && is_started_at s (key_at app node inc)

  same_if_live : (o : Option ℕ) → option_map_or (λ inc. not (stand_alike old new (key_at app node inc))) o false ≡ false → option_map_or (wanted old) o false ≡ option_map_or (wanted new) o false
  same_if_live None e = refl
  same_if_live (Some inc) e =
      let key = key_at app node inc in
      let alike = (alike_decides old new key).0 (not-false _ e) in
      λ i. alike_allowed old new key alike table i && alike_started old new key alike i

  same_when_listed : (listed : Bool) → (listed && (not (same_life (map.get old.lives node) (map.get new.lives node)) || option_map_or (λ inc. not (stand_alike old new (key_at app node inc))) (live_at new.lives node) false)) ≡ false
      → (listed && option_map_or (wanted old) (live_at old.lives node) false) ≡ (listed && option_map_or (wanted new) (live_at new.lives node) false)
  same_when_listed false e = refl
  same_when_listed true e =
      let parts = first_fails (same_life (map.get old.lives node) (map.get new.lives node)) _ e in
      let life = same_life_is (map.get old.lives node) (map.get new.lives node) parts.0 in
      ap (λ o. option_map_or (wanted old) o false) (live life) ∙ same_if_live (live_at new.lives node) parts.1
    where
      live : map.get old.lives node ≡ map.get new.lives node → live_at old.lives node ≡ live_at new.lives node
      live e = cc

  pub same_eligible : is_touched table old new app node ≡ false → is_eligible table old app node ≡ is_eligible table new app node
  same_eligible e = same_when_listed (is_some (group_of table app node)) e

  pub same_spot : is_touched table old new app node ≡ false → spot_of table old app node ≡ spot_of table new app node
  same_spot e = ap (λ b. cond b (option_map (λ group. record { group = group; node = node }) (group_of table app node)) None) (same_eligible e)

-- ---- the tests agree with the definition of touched

negate : (b : Bool) (P : Type 0) → (b ≡ true → P) × (P → b ≡ true) → (not b ≡ true) ↔ (¬ P)
negate true P both = (λ e. absurd (false≢true e), λ no. absurd (no (both.0 refl)))
negate false P both = (λ e p. false≢true (both.1 p), λ no. refl)

either : (a b : Bool) (P Q : Type 0) → (a ≡ true) ↔ P → (b ≡ true) ↔ Q → ((a || b) ≡ true) ↔ (P ⊎ Q)
either true b P Q p q = (λ e. inl (p.0 refl), λ s. refl)
either false b P Q p q = (λ e. inr (q.0 e), λ s. elim s [ inl x ↦ absurd (false≢true (p.1 x)) | inr y ↦ q.1 y ])

life_decides : (l m : Option Life) → (same_life l m ≡ true → l ≡ m) × (l ≡ m → same_life l m ≡ true)
life_decides l m = (same_life_is l m, λ e. subst (λ x. same_life l x ≡ true) e (itself l))
  where
    itself : (l : Option Life) → same_life l l ≡ true
    itself None = refl
    itself (Some l) = ap is_eq (tied_itself lives_total l)

apart : (old new : StateValue) (key : Key) → (not (stand_alike old new key) ≡ true) ↔ (¬ StandAlike old new key)
apart old new key = negate _ _ (alike_decides old new key)

if_live : (old new : StateValue) (app : AppId) (node : NodeId) (o : Option ℕ) → (option_map_or (λ inc. not (stand_alike old new (key_at app node inc))) o false ≡ true) ↔ ((inc : ℕ) × (o ≡ Some inc) × ¬ StandAlike old new (key_at app node inc))
if_live old new app node None = (λ e. absurd (false≢true e), λ h. absurd (none_some h.0 h.1))
  where
    none_some : (inc : ℕ) → ◌≡◌ {A = Option ℕ} None (Some inc) → ⊥
    none_some inc e = false≢true (ap is_some e)
if_live old new app node (Some inc) = (
  λ e. (inc, refl, (apart old new (key_at app node inc)).0 e),
  λ h. (apart old new (key_at app node inc)).1 (subst (λ j. ¬ StandAlike old new (key_at app node j)) (same h.0 h.1) h.2),
)
  where
    same : (j : ℕ) → ◌≡◌ {A = Option ℕ} (Some inc) (Some j) → j ≡ inc
    same j e = cc

pub touched_words : (table : Table) (old new : StateValue) (app : AppId) (node : NodeId) → (is_touched table old new app node ≡ true) ↔ IsTouched table old new app node
touched_words table old new app node = (
  λ e.
      let parts = and_parts (is_some (group_of table app node)) _ e in
      record { listed = parts.0; differs = (differs.0 parts.1) },
  λ t. and_from _ _ t.listed (differs.1 t.differs),
)
  where
    with_live : ((inc : ℕ) × (live_at new.lives node ≡ Some inc) × ¬ StandAlike old new (key_at app node inc)) ↔ ((inc : ℕ) × IsLive new.lives node inc × ¬ StandAlike old new (key_at app node inc))
    with_live = (λ h. (h.0, (live_is new.lives node h.0).0 h.1, h.2), λ h. (h.0, (live_is new.lives node h.0).1 h.1, h.2))

    differs : ((not (same_life (map.get old.lives node) (map.get new.lives node)) || option_map_or (λ inc. not (stand_alike old new (key_at app node inc))) (live_at new.lives node) false) ≡ true)
        ↔ (¬ (map.get old.lives node ≡ map.get new.lives node) ⊎ ((inc : ℕ) × IsLive new.lives node inc × ¬ StandAlike old new (key_at app node inc)))
    differs = either _ _ _ _ (negate _ _ (life_decides (map.get old.lives node) (map.get new.lives node)))
        (λ e. with_live.0 ((if_live old new app node (live_at new.lives node)).0 e), λ h. (if_live old new app node (live_at new.lives node)).1 (with_live.1 h))

-- a pair outside the application's list isn't touched
pub untouched_outside : (table : Table) (old new : StateValue) (app : AppId) (node : NodeId) → group_of table app node ≡ None → is_touched table old new app node ≡ true → ⊥
untouched_outside table old new app node outside touched =
    let listed = (and_parts (is_some (group_of table app node)) _ touched).0 in
    false≢true (sym (ap is_some outside) ∙ listed)
