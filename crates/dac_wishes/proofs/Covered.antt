-- A value is above an operation's delta exactly if it knows the dots that the operation names, and each of its standing
-- writes is one that such a value can contain.
use Rattle.std.proofs.Common.{◌≡◌, Bool, true, false, not, cond, ◌&&◌, ◌||◌, List, [], ◌∷◌, Option, None, Some, is_some, ◌↔◌, refl, sym, ap, subst, ◌∙◌, inl, inr}
use Rattle.std.specs.Prelude.{T}
use Rattle.std.specs.declared.cmp.Ordering.{Ordering}
use Rattle.std.specs.Ordering.{eq_by_cmp, is_eq}
use Rattle.std.specs.Cmp.{IsTotalOrder}
use Rattle.std.specs.List.{list_all}
use Rattle.std.specs.FinSet as set
use Rattle.std.specs.FinMap as map
use Rattle.std.specs.FinMap.{find, is_sorted}
use Rattle.std.proofs.lemmas.Bool.{true≢false, false≢true, and_parts, and_from, or_cases, or_left, or_right}
use Rattle.std.proofs.lemmas.Cmp.{tied_itself}
use Rattle.std.proofs.lemmas.Map.Lookups.{CmpEqualImpliesEq}
use Rattle.std.proofs.lemmas.Option.{same_Some}
use Rattle.dac_origins.specs.declared.dot.Dot.{Dot}
use Rattle.dac_origins.specs.declared.dot.Origin.{Origin}
use Rattle.dac_origins.specs.Dots.{Dots, IsSubset, dot_cmp, origin_cmp}
use Rattle.dac_origins.specs.laws.Dots.{dots_total, exact_dots, origins_total, exact_origins}
use Rattle.dac_origins.specs.Keys.{has_key}
use Rattle.dac_origins.specs.InOrder.{in_order}
use Rattle.dac_origins.specs.laws.InOrder.{has_key-in_order}
use Rattle.dac_lattice.specs.declared.flags.Flag.{Flag}
use Rattle.dac_lattice.specs.Chains.{IsAny}
use Rattle.dac_lattice.specs.Maps.{IsMap}
use Rattle.dac_lattice.specs.Flags.{IsFlagBelow}
use Rattle.dac_lattice.specs.laws.Entries.{find_below}
use Rattle.dac_lattice.specs.laws.EntryLaws.{first, second}
use Rattle.dac_store.specs.AtDot.{StandsBelow}
use Rattle.dac_store.specs.DotFuns.{is_empty_list}
use Rattle.dac_store.specs.DotMaps.{store_at, IsKept}
use Rattle.dac_wishes.specs.declared.key.Key.{Key}
use Rattle.dac_wishes.specs.KeyedWrites.{KeyedWrite, keyed_write, same_dot}
use Rattle.dac_wishes.specs.laws.KeyedWrites.{same_dot_is, same_dot_itself, tied_is}
use Rattle.dac_wishes.specs.Keys.{key_cmp}
use Rattle.dac_wishes.specs.laws.Keys.{keys_total, exact_keys}
use Rattle.dac_wishes.specs.Writes.{Write, write}
use Rattle.dac_wishes.specs.Votes.{VotesValue, AreVotesBelow}
use Rattle.dac_wishes.specs.StoredVotes.{DotFlags}
use Rattle.dac_wishes.specs.VotesByKey.{votes_by_key}
use Rattle.dac_wishes.specs.laws.VotesByKey.{get-votes_of, are_votes, votes_by_key_again}
use Rattle.dac_wishes.specs.VoteMeaning.{says_of, votes_in}
use Rattle.dac_wishes.specs.laws.VoteMeaning.{get-vote_delta}
use Rattle.dac_wishes.specs.PermissionsValue.{PermissionsValue, IsPermissionsBelow, flag_of as permit_flag}
use Rattle.dac_wishes.specs.PermitMeaning.{permit_delta, vote_of as permits_by}
use Rattle.dac_wishes.specs.DrainsValue.{DrainsValue, AreDrainsBelow, flag_of as drain_flag}
use Rattle.dac_wishes.specs.DrainMeaning.{drain_delta, vote_of as drains_by}
use Rattle.dac_wishes.specs.WishesValue.{WishesValue, AreWishesBelow}
use Rattle.dac_wishes.specs.WishMeaning.{wish_delta, wishes}
use Rattle.dac_wishes.specs.laws.WishMeaning.{contains-delta}
use Rattle.dac_wishes.specs.StartsByKey.{starts_by_key}
use Rattle.dac_wishes.specs.laws.StartsByKey.{contains-writes_of, are_starts, writes_again}
use Rattle.dac_wishes.specs.Covering.{permit_act, drain_act, wish_act, is_flag_at_most, lets_stand, let_stand, is_wish_of, lets_wish, let_wishes}
use Rattle.dac_lattice.specs.declared.flags.Flag.TheVariants.{Up, Down}

-- ---- a test of all entries of a list

module _ {K X : Type 0} {R : K → K → Ordering} (exact : CmpEqualImpliesEq R) (p : K × X → Bool) where
  -- if each entry passes, so does one that a search finds
  found_passes : (m : List (K × X)) (k : K) (x : X) → list_all p m ≡ true → find R k m ≡ Some x → p (k, x) ≡ true
  found_passes [] k x h is = absurd (true≢false (ap is_some (sym is)))
  found_passes (e ∷ m) k x h is =
      let both = and_parts (p e) (list_all p m) h in
      elim (eq_by_cmp R k e.0) as (λ b. eq_by_cmp R k e.0 ≡ b → cond b (Some e.1) (find R k m) ≡ Some x → p (k, x) ≡ true) [
        | true ↦ λ t there. (λ i. p (tied_is exact k e.0 t i, sym (same_Some e.1 x there) i)) ∙ both.0
        | false ↦ λ t there. found_passes m k x both.1 there
      ] refl is

  -- if each entry that a search finds passes, so does each entry of a sorted list
  all_pass : IsTotalOrder R → (m : List (K × X)) → T (is_sorted R m) → ((k : K) (x : X) → find R k m ≡ Some x → p (k, x) ≡ true) → list_all p m ≡ true
  all_pass total [] h f = refl
  all_pass total (e ∷ m) h f =
      and_from (p e) (list_all p m) (f e.0 e.1 (ap (λ r. cond (is_eq r) (Some e.1) (find R e.0 m)) (tied_itself total e.0)))
      (all_pass total m (second _ _ h) (λ k x there. f k x (later k x there)))
    where
      later : (k : K) (x : X) → find R k m ≡ Some x → find R k (e ∷ m) ≡ Some x
      later k x there = elim (eq_by_cmp R k e.0) as (λ b. eq_by_cmp R k e.0 ≡ b → cond b (Some e.1) (find R k m) ≡ Some x) [
        | true ↦ λ t. absurd (true≢false (ap is_some (sym there ∙ (ap (λ q. find R q m) (tied_is exact k e.0 t) ∙ find_below total exact e.0 m (first _ _ h)))))
        | false ↦ λ t. there
      ] refl

module _ (p : Dot → Bool) where
  -- if each dot passes, so does one of the list
  named_passes : (ds : List Dot) (d : Dot) → list_all p ds ≡ true → has_key dot_cmp ds d ≡ true → p d ≡ true
  named_passes [] d h there = absurd (false≢true there)
  named_passes (e ∷ ds) d h there =
      let both = and_parts (p e) (list_all p ds) h in
      elim (or_cases (same_dot d e) (has_key dot_cmp ds d) there) [
        | inl is ↦ ap p (same_dot_is d e is) ∙ both.0
        | inr later ↦ named_passes ds d both.1 later
      ]

  all_named : (ds : List Dot) → ((d : Dot) → has_key dot_cmp ds d ≡ true → p d ≡ true) → list_all p ds ≡ true
  all_named [] f = refl
  all_named (e ∷ ds) f =
      and_from (p e) (list_all p ds) (f e (or_left (same_dot e e) (has_key dot_cmp ds e) (same_dot_itself e)))
      (all_named ds (λ d there. f d (or_right (same_dot d e) (has_key dot_cmp ds d) there)))

-- ---- the dots that an operation names

module _ (dot : Dot) (over : List Dot) where
  abbrev named : Dots
  named = set.from_list (dot ∷ over)

  is_named : (d : Dot) → set.contains named d ≡ (same_dot d dot || has_key dot_cmp over d)
  is_named d = set.contains-from_list dots_total (dot ∷ over) d

  -- the named dots are known exactly if each of them is
  pub all_known : (known : Dots) → ((set.contains known dot && list_all (λ (d : Dot). set.contains known d) over) ≡ true) ↔ IsSubset named known
  all_known known = (
    λ h d there. named_passes (λ (d : Dot). set.contains known d) (dot ∷ over) d h (sym (is_named d) ∙ there),
    λ f. all_named (λ (d : Dot). set.contains known d) (dot ∷ over) (λ d there. f d (is_named d ∙ there)),
  )

-- ---- votes

said_below : (o : Option Flag) (g : Flag) → (is_flag_at_most o g ≡ true) ↔ StandsBelow IsFlagBelow o (Some g)
said_below None g = (λ e. absurd (false≢true e), λ h. absurd h)
said_below (Some Up) g = (λ _. tt, λ _. refl)
said_below (Some Down) Up = (λ e. absurd (false≢true e), λ h. absurd h)
said_below (Some Down) Down = (λ _. tt, λ _. refl)

-- a vote that a value above the delta can contain satisfies the order, if its dot is named
may_stand : (same replaced : Bool) (said : Option Flag) (g : Flag) → (cond same (is_flag_at_most said g) (not replaced) ≡ true) ↔ ((same || replaced) ≡ true → StandsBelow IsFlagBelow (cond same said None) (Some g))
may_stand true replaced said g = (λ e _. (said_below said g).0 e, λ f. (said_below said g).1 (f refl))
may_stand false true said g = (λ e. absurd (false≢true e), λ f. absurd (f refl))
may_stand false false said g = (λ _ e. absurd (false≢true e), λ _. refl)

module _ {K : Type 0} {R : K → K → Ordering} (total : IsTotalOrder R) (exact : CmpEqualImpliesEq R) (dot : Dot) (vote : Option (K × Flag)) (over : List Dot) (v : VotesValue R) where
  abbrev m : List (K × DotFlags)
  m = votes_by_key R v.standing

  abbrev added : VotesValue R
  added = record { known = named dot over; standing = map.from_entries (votes_in dot vote) }

  -- the operation's flag for a vote
  abbrev said_at : KeyedWrite K → Option Flag
  said_at w = cond (same_dot w.dot dot) (says_of R w.key vote) None

  is_said : (w : KeyedWrite K) → map.get added.standing w ≡ said_at w
  is_said w = get-vote_delta total exact {A = Unit {0}} (λ _. over) (λ _. vote) dot tt w

  is_at : (w : KeyedWrite K) → map.get v.standing w ≡ find dot_cmp w.dot (store_at [] (find R w.key m))
  is_at w = ap (λ x. map.get x w) (sym (votes_by_key_again total exact v.standing)) ∙ get-votes_of total exact m (are_votes total exact v.standing).in_order w

  stand_at : (w : KeyedWrite K) (ps : DotFlags) (o : Option Flag) → find dot_cmp w.dot ps ≡ o → list_all (lets_stand R dot vote over w.key) ps ≡ true → set.contains (named dot over) w.dot ≡ true
      → StandsBelow IsFlagBelow (said_at w) o
  stand_at w ps None is h there = tt
  stand_at w ps (Some g) is h there =
      (may_stand (same_dot w.dot dot) (has_key dot_cmp over w.dot) (says_of R w.key vote) g).0
      (found_passes exact_dots (lets_stand R dot vote over w.key) ps w.dot g h is) (sym (is_named dot over w.dot) ∙ there)

  stand : let_stand R dot vote over m ≡ true → (w : KeyedWrite K) (o : Option DotFlags) → find R w.key m ≡ o → set.contains (named dot over) w.dot ≡ true
      → StandsBelow IsFlagBelow (said_at w) (find dot_cmp w.dot (store_at [] o))
  stand h w None is there = tt
  stand h w (Some ps) is there =
      stand_at w ps (find dot_cmp w.dot ps) refl (found_passes exact (λ (e : K × DotFlags). list_all (lets_stand R dot vote over e.0) e.1) m w.key ps h is) there

  below_at : AreVotesBelow R added v → (key : K) (ps : DotFlags) → find R key m ≡ Some ps → (d : Dot) (g : Flag) → find dot_cmp d ps ≡ Some g → lets_stand R dot vote over key (d, g) ≡ true
  below_at below key ps is d g there =
      let w = keyed_write key d in
      let stands : map.get v.standing w ≡ Some g = is_at w ∙ ap (λ o. find dot_cmp d (store_at [] o)) is ∙ there in
      (may_stand (same_dot d dot) (has_key dot_cmp over d) (says_of R key vote) g).1 (λ is_there.
      subst (StandsBelow IsFlagBelow (said_at w)) stands (subst (λ o. StandsBelow IsFlagBelow o (map.get v.standing w)) (is_said w) (below.standing w (is_named dot over d ∙ is_there))))

  pub votes_covered : (IsSubset (named dot over) v.known × (let_stand R dot vote over m ≡ true)) ↔ AreVotesBelow R added v
  votes_covered = (
    λ h. record {
      known = h.0;
      standing = λ w there. subst (λ o. StandsBelow IsFlagBelow o (map.get v.standing w)) (sym (is_said w)) (subst (StandsBelow IsFlagBelow (said_at w)) (sym (is_at w)) (stand h.1 w (find R w.key m) refl there));
    },
    λ below. (
      below.known,
      all_pass exact (λ (e : K × DotFlags). list_all (lets_stand R dot vote over e.0) e.1) total m (are_votes total exact v.standing).in_order (λ key ps is.
          all_pass exact_dots (lets_stand R dot vote over key) dots_total ps (subst (IsKept (IsMap dot_cmp IsAny) is_empty_list) is ((are_votes total exact v.standing).stores key)).0.in_order (below_at below key ps is)),
    ),
  )

pub permit_covered : (dot : Dot) (permit : Option (Key × Bool)) (over : List Dot) (v : PermissionsValue)
    → (IsSubset (named dot over) v.known × (let_stand key_cmp dot (permits_by (permit_act permit over)) over (votes_by_key key_cmp v.standing) ≡ true)) ↔ IsPermissionsBelow (permit_delta dot (permit_act permit over)) v
permit_covered dot None over v = votes_covered keys_total exact_keys dot None over v
permit_covered dot (Some p) over v = votes_covered keys_total exact_keys dot (Some (p.0, permit_flag p.1)) over v

pub drain_covered : (dot : Dot) (drain : Option (Origin × Bool)) (over : List Dot) (v : DrainsValue)
    → (IsSubset (named dot over) v.known × (let_stand origin_cmp dot (drains_by (drain_act drain over)) over (votes_by_key origin_cmp v.standing) ≡ true)) ↔ AreDrainsBelow (drain_delta dot (drain_act drain over)) v
drain_covered dot None over v = votes_covered origins_total exact_origins dot None over v
drain_covered dot (Some p) over v = votes_covered origins_total exact_origins dot (Some (p.0, drain_flag p.1)) over v

-- ---- start wishes

may_wish : (same replaced wish : Bool) → (cond same wish (not replaced) ≡ true) ↔ ((same || replaced) ≡ true → (wish && same) ≡ true)
may_wish true replaced true = (λ _ _. refl, λ _. refl)
may_wish true replaced false = (λ e _. e, λ f. f refl)
may_wish false true wish = (λ e. absurd (false≢true e), λ f. absurd (false≢true (and_parts wish false (f refl)).1))
may_wish false false wish = (λ _ e. absurd (false≢true e), λ _. refl)

module _ (dot : Dot) (start : Option Key) (over : List Dot) (v : WishesValue) where
  abbrev ms : List (Key × Dots)
  ms = starts_by_key v.standing

  wishes_so : (start : Option Key) (key : Key) → wishes key (wish_act start over) ≡ is_wish_of start key
  wishes_so None key = refl
  wishes_so (Some k) key = refl

  names_so : (start : Option Key) → (wish_delta dot (wish_act start over)).known ≡ named dot over
  names_so None = refl
  names_so (Some k) = refl

  wished : (w : Write) → set.contains (wish_delta dot (wish_act start over)).standing w ≡ (is_wish_of start w.key && same_dot w.dot dot)
  wished w = contains-delta dot (wish_act start over) w ∙ ap (λ b. b && same_dot w.dot dot) (wishes_so start w.key)

  wish_at : (w : Write) → set.contains v.standing w ≡ set.contains (store_at set.empty (find key_cmp w.key ms)) w.dot
  wish_at w = ap (λ x. set.contains x w) (sym (writes_again v.standing)) ∙ contains-writes_of ms (are_starts v.standing).in_order w

  at_list : (ds : Dots) (d : Dot) → has_key dot_cmp (in_order ds) d ≡ set.contains ds d
  at_list ds d = has_key-in_order dots_total exact_dots ds d

  stays : let_wishes dot start over ms ≡ true → (w : Write) (o : Option Dots) → find key_cmp w.key ms ≡ o → set.contains (store_at set.empty o) w.dot ≡ true → set.contains (named dot over) w.dot ≡ true
      → (is_wish_of start w.key && same_dot w.dot dot) ≡ true
  stays h w None is stands there = absurd (false≢true (sym (set.contains-empty dot_cmp w.dot) ∙ stands))
  stays h w (Some ds) is stands there =
      (may_wish (same_dot w.dot dot) (has_key dot_cmp over w.dot) (is_wish_of start w.key)).0
      (named_passes (lets_wish dot start over w.key) (in_order ds) w.dot (found_passes exact_keys (λ (e : Key × Dots). list_all (lets_wish dot start over e.0) (in_order e.1)) ms w.key ds h is) (at_list ds w.dot ∙ stands))
      (sym (is_named dot over w.dot) ∙ there)

  wish_below : AreWishesBelow (wish_delta dot (wish_act start over)) v → (key : Key) (ds : Dots) → find key_cmp key ms ≡ Some ds → (d : Dot) → has_key dot_cmp (in_order ds) d ≡ true → lets_wish dot start over key d ≡ true
  wish_below below key ds is d there =
      let w = write key d in
      (may_wish (same_dot d dot) (has_key dot_cmp over d) (is_wish_of start key)).1 (λ is_there.
      sym (wished w)
      ∙ below.standing w (wish_at w ∙ ap (λ o. set.contains (store_at set.empty o) d) is ∙ sym (at_list ds d) ∙ there) (ap (λ x. set.contains x d) (names_so start) ∙ is_named dot over d ∙ is_there))

  pub wish_covered : (IsSubset (named dot over) v.known × (let_wishes dot start over ms ≡ true)) ↔ AreWishesBelow (wish_delta dot (wish_act start over)) v
  wish_covered = (
    λ h. record {
      known = subst (λ x. IsSubset x v.known) (sym (names_so start)) h.0;
      standing = λ w stands there. wished w ∙ stays h.1 w (find key_cmp w.key ms) refl (sym (wish_at w) ∙ stands) (ap (λ x. set.contains x w.dot) (sym (names_so start)) ∙ there);
    },
    λ below. (
      subst (λ x. IsSubset x v.known) (names_so start) below.known,
      all_pass exact_keys (λ (e : Key × Dots). list_all (lets_wish dot start over e.0) (in_order e.1)) keys_total ms (are_starts v.standing).in_order (λ key ds is.
          all_named (lets_wish dot start over key) (in_order ds) (wish_below below key ds is)),
    ),
  )
