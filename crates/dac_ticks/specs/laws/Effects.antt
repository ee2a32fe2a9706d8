-- The effects of operations in the state in which they are issued.
use Rattle.std.proofs.Common.{◌≡◌, ◌↔◌, ℕ, Bool, true, false, not, cond, ◌&&◌, ◌||◌, [], ◌∷◌, Option, None, Some, refl, sym, ap, subst, ◌∙◌, inl, inr, true≢false}
use Rattle.dac_ticks.specs.laws.Common.{eq_by_cmp, is_eq, false≢true, false_from_ne_true, tied_itself, AppId, NodeId, Origin, Dot, dot_cmp, has_key, Flag, How, Lives, IsLive, Table, default_permission, same_dot_itself, Act, Operation, StateValue, IsState, join, permissions_of, meaning_of, key_at, next_operation, claim_act}
use Rattle.std.specs.Prelude.{is_some}
use Rattle.std.specs.Option.{option_map}
use Rattle.std.specs.Ordering.{ordering_then, is_lt, ord_max}
use Rattle.std.specs.FinSet as set
use Rattle.std.specs.FinMap as map
use Rattle.std.proofs.lemmas.Cmp.{nat_cmp_total}
use Rattle.dac_base.specs.Ids.{node_cmp}
use Rattle.dac_base.specs.laws.Ids.{nodes_total, exact_nodes}
use Rattle.dac_origins.specs.laws.Dots.{dots_total, exact_dots, origins_total, exact_origins}
use Rattle.dac_origins.specs.laws.InOrder.{has_key-in_order}
use Rattle.dac_lattice.specs.declared.flags.Flag.TheVariants.{Up as IsUp, Down as IsDown}
use Rattle.dac_lattice.specs.Flags.{flag_cmp}
use Rattle.dac_lattice.specs.laws.Flags.{flags_exact}
use Rattle.dac_lattice.specs.Lattices.{join_options}
use Rattle.dac_chains.specs.declared.lives.Life.{Life}
use Rattle.dac_chains.specs.declared.claims.Claim.{Claim}
use Rattle.dac_chains.specs.laws.Greatest.{get-greater}
use Rattle.dac_chains.specs.Lives.{life_cmp}
use Rattle.dac_chains.specs.laws.Lives.{lives_total, exact_lives}
use Rattle.dac_wishes.specs.declared.key.Key.{Key}
use Rattle.dac_wishes.specs.Keys.{same_key}
use Rattle.dac_wishes.specs.laws.Keys.{keys_total, exact_keys, same_key_itself}
use Rattle.dac_wishes.specs.Writes.{Write, write, same_dot, dots_at}
use Rattle.dac_wishes.specs.laws.Writes.{contains-dots_at}
use Rattle.dac_wishes.specs.WishesValue.{WishesValue, SomeStands, may_stand}
use Rattle.dac_wishes.specs.laws.WishesValue.{standing-join}
use Rattle.dac_wishes.specs.PermissionsValue.{PermissionsValue, IsPermitted, join_permissions}
use Rattle.dac_wishes.specs.DrainsValue.{DrainsValue, IsDrained, origin}
use Rattle.dac_operations.specs.declared.act.Act.TheVariants.{Start as Starts, Stop as Stops, Permit as Permits, Drain as Drains, Down as Downs}
use Rattle.dac_meaning.specs.StateValue.{wishes_of, drains_of}
use Rattle.dac_meaning.specs.Meaning.{life_said, permit_vote, drain_vote}
use Rattle.dac_meaning.specs.laws.Chained.{greatest-one}
use Rattle.dac_meaning.specs.laws.StateLaws.{lives-join, wishes-join, permissions-join, drains-join}
use Rattle.dac_meaning.specs.laws.Readers.{starts-meaning, permits-meaning, drains-meaning, lives-meaning}
use Rattle.dac_placement.specs.Placement.{IsEligible, RunsAt}
use Rattle.dac_commands.specs.Commands.{standing_starts, standing_permits, standing_drains}
use Rattle.dac_commands.specs.laws.Standing.{permits_at-has, drains_at-has}
use Rattle.dac_ticks.specs.laws.Claimed.{claim_alike, own_claim}
use Rattle.dac_ticks.specs.laws.Voted.{flag_by, next_dot, next_is_fresh, replaced_is_known, IsVote, stands_at_next, each_says_so}

module _ (own : Origin) (s : StateValue) (is : IsState s) (key : Key) where
  abbrev next : Dot
  next = next_dot own s

  fresh : set.contains s.known next ≡ false
  fresh = next_is_fresh own s

  -- the dots that are replaced
  replaced : (d : Dot) → has_key dot_cmp (standing_starts s key) d ≡ set.contains s.starts (write key d)
  replaced d = has_key-in_order dots_total exact_dots (dots_at key s.starts) d ∙ contains-dots_at key s.starts d

  abbrev after : Act → StateValue
  after act = join s (meaning_of (next_operation s own act ∷ []))

  stands : (act : Act) (w : Write) → set.contains (after act).starts w ≡ ((set.contains s.starts w && may_stand (wishes_of (meaning_of (next_operation s own act ∷ []))) w) || (set.contains (meaning_of (next_operation s own act ∷ [])).starts w && may_stand (wishes_of s) w))
  stands act w = ap (λ (v : WishesValue). set.contains v.standing w) (wishes-join s (meaning_of (next_operation s own act ∷ []))) ∙ standing-join (wishes_of s) (wishes_of (meaning_of (next_operation s own act ∷ []))) w

  -- ---- a start

  spared : has_key dot_cmp (standing_starts s key) next ≡ false
  spared = replaced next ∙ false_from_ne_true (set.contains s.starts (write key next)) (λ h. true≢false (sym (is.starts (write key next) h) ∙ fresh))

  abbrev m : StateValue
  m = meaning_of (next_operation s own (Starts key (standing_starts s key)) ∷ [])

  both_true : (a b c : Bool) → a ≡ true → b ≡ true → c ≡ false → (((a && b) || false) && not (c || false)) ≡ true
  both_true true true false p q r = refl
  both_true true true true p q r = absurd (true≢false r)
  both_true true false c p q r = absurd (false≢true q)
  both_true false b c p q r = absurd (false≢true p)

  new_start : set.contains m.starts (write key next) ≡ true
  new_start = starts-meaning (next_operation s own (Starts key (standing_starts s key)) ∷ []) (write key next)
      ∙ both_true (same_key key key) (same_dot next next) (has_key dot_cmp (standing_starts s key) next) (same_key_itself key) (same_dot_itself next) spared

  or_last : (a b c : Bool) → b ≡ true → c ≡ true → (a || (b && c)) ≡ true
  or_last true b c p q = refl
  or_last false true true p q = refl
  or_last false true false p q = absurd (false≢true q)
  or_last false false c p q = absurd (false≢true p)

  or_not : (a b : Bool) → b ≡ false → (a || not b) ≡ true
  or_not true b p = refl
  or_not false false p = refl
  or_not false true p = absurd (true≢false p)

  -- after a start at the key, a start stands there
  pub start_is_wished : SomeStands key (wishes_of (after (Starts key (standing_starts s key))))
  start_is_wished = (
    next,
    stands (Starts key (standing_starts s key)) (write key next)
        ∙ or_last (set.contains s.starts (write key next) && may_stand (wishes_of m) (write key next)) (set.contains m.starts (write key next)) (may_stand (wishes_of s) (write key next)) new_start (or_not (set.contains s.starts (write key next)) (set.contains s.known next) fresh),
  )

  -- ---- a stop

  abbrev n : StateValue
  n = meaning_of (next_operation s own (Stops key (standing_starts s key)) ∷ [])

  no_start : (w : Write) → set.contains n.starts w ≡ false
  no_start w = starts-meaning (next_operation s own (Stops key (standing_starts s key)) ∷ []) w

  named : (d : Dot) → set.contains s.starts (write key d) ≡ true → set.contains n.known d ≡ true
  named d h = replaced_is_known own s (Stops key (standing_starts s key)) d (replaced d ∙ h)

  neither : (a b c e : Bool) → b ≡ false → (a ≡ true → c ≡ true) → ((a && (b || not c)) || (b && e)) ≡ true → ⊥
  neither true false true e p f h = false≢true h
  neither true false false e p f h = false≢true (f refl)
  neither false false c e p f h = false≢true h
  neither a true c e p f h = true≢false p

  -- after a stop at the key, no start stands there
  pub stop_is_unwished : SomeStands key (wishes_of (after (Stops key (standing_starts s key)))) → ⊥
  stop_is_unwished some =
      let d = some.0 in
      neither (set.contains s.starts (write key d)) (set.contains n.starts (write key d)) (set.contains n.known d) (may_stand (wishes_of s) (write key d)) (no_start (write key d)) (named d)
      (sym (stands (Stops key (standing_starts s key)) (write key d)) ∙ some.1)

-- ---- a permit and a drain

module _ (own : Origin) (s : StateValue) (is : IsState s) (value : Bool) where
  module _ (key : Key) where
    abbrev permits : Act
    permits = Permits key value (standing_permits s key)

    abbrev p : StateValue
    p = meaning_of (next_operation s own permits ∷ [])

    permit_is : IsVote keys_total exact_keys permit_vote false own s permits key value s.permits p.permits
    permit_is = record {
      votes = refl;
      replaces = permits_at-has key s.permits;
      says = permits-meaning (next_operation s own permits ∷ []);
      known = is.permits;
    }

    allows : (v : Bool) → flag_by false v ≡ IsUp → v ≡ true
    allows true e = refl
    allows false e = cc

    -- after a permit the key is permitted exactly when the permit's value is true
    pub permit_holds : (default : Bool) → IsPermitted key default (permissions_of (join s p)) ↔ (value ≡ true)
    permit_holds default = subst (λ (v : PermissionsValue). IsPermitted key default v ↔ (value ≡ true)) (sym (permissions-join s p)) (
      λ h. elim h [
        | inl none ↦ absurd (false≢true (ap is_some (sym (none.0 (next_dot own s)) ∙ at_next)))
        | inr some ↦ allows value (some.1 (next_dot own s) (flag_by false value) at_next)
      ],
      λ e. inr (((next_dot own s, flag_by false value), at_next), λ d f h. each_says_so keys_total exact_keys permit_vote false own s permits key value s.permits p.permits permit_is d f h ∙ ap (flag_by false) e),
    )
      where
        at_next : map.get (join_permissions (permissions_of s) (permissions_of p)).standing (write key (next_dot own s)) ≡ Some (flag_by false value)
        at_next = stands_at_next keys_total exact_keys permit_vote false own s permits key value s.permits p.permits permit_is

  module _ (node : NodeId) (inc : ℕ) where
    abbrev at : Origin
    at = origin node inc

    abbrev drains : Act
    drains = Drains node inc value (standing_drains s at)

    abbrev q : StateValue
    q = meaning_of (next_operation s own drains ∷ [])

    drain_is : IsVote origins_total exact_origins drain_vote true own s drains at value s.drains q.drains
    drain_is = record {
      votes = refl;
      replaces = drains_at-has at s.drains;
      says = drains-meaning (next_operation s own drains ∷ []);
      known = is.drains;
    }

    bars : (v : Bool) → flag_by true v ≡ IsDown → v ≡ true
    bars true e = refl
    bars false e = cc

    -- after a drain the incarnation is drained exactly when the drain's value is true
    pub drain_holds : IsDrained at (drains_of (join s q)) ↔ (value ≡ true)
    drain_holds = subst (λ (v : DrainsValue). IsDrained at v ↔ (value ≡ true)) (sym (drains-join s q)) (
      λ h. bars value (sym (each_says_so origins_total exact_origins drain_vote true own s drains at value s.drains q.drains drain_is h.0 IsDown h.1)),
      λ e. (next_dot own s, stands_at_next origins_total exact_origins drain_vote true own s drains at value s.drains q.drains drain_is ∙ ap (λ v. Some (flag_by true v)) e),
    )

-- ---- a down

abbrev flag_is_down : Flag → Bool
flag_is_down IsUp = false
flag_is_down IsDown = true

abbrev says_down : Life → Bool
says_down l = flag_is_down l.flag

module _ (own : Origin) (s : StateValue) (node : NodeId) (inc : ℕ) (live : IsLive s.lives node inc) where
  abbrev o : Operation
  o = next_operation s own (Downs node inc)

  abbrev m_down : StateValue
  m_down = meaning_of (o ∷ [])

  abbrev down : Life
  down = record { inc = inc; flag = IsDown }

  lives_alone : m_down.lives ≡ map.insert map.empty node down
  lives_alone = lives-meaning (o ∷ []) ∙ sym (greatest-one nodes_total exact_nodes lives_total (exact_lives flag_cmp flags_exact) life_said o)

  life_said_there : map.get m_down.lives node ≡ Some down
  life_said_there = ap (λ (l : Lives). map.get l node) lives_alone ∙ map.get-insert nodes_total map.empty node down node
      ∙ ap (cond (eq_by_cmp node_cmp node node) (Some down)) (map.get-empty node_cmp node)
      ∙ ap (λ e. cond e (Some down) None) (ap is_eq (tied_itself nodes_total node))

  down_is_above : is_lt (life_cmp down (record { inc = inc; flag = IsUp })) ≡ false
  down_is_above = ap (λ p. is_lt (ordering_then p (flag_cmp IsDown IsUp))) (tied_itself nat_cmp_total inc)

  is_down : map.get (join s m_down).lives node ≡ Some down
  is_down = ap (λ (l : Lives). map.get l node) (lives-join s m_down) ∙ get-greater nodes_total exact_nodes life_cmp s.lives m_down.lives node
      ∙ (λ i. join_options (ord_max life_cmp) (live i) (life_said_there i))
      ∙ ap (λ b. Some (cond b (record { inc = inc; flag = IsUp }) down)) down_is_above

  one_life : {a b : Life} → ◌≡◌ {A = Option Life} (Some a) (Some b) → a ≡ b
  one_life e = cc

  not_both : (later : ℕ) → ◌≡◌ {A = Option Life} (Some down) (Some (record { inc = later; flag = IsUp })) → ⊥
  not_both later e = true≢false (ap says_down (one_life e))

  pub down_ends : (later : ℕ) → ¬ IsLive (join s m_down).lives node later
  down_ends later h = not_both later (sym is_down ∙ h)

-- ---- a claim

-- an application claimed by an eligible live incarnation runs at its node
pub claim_runs : (t : Table) (own : Origin) (s : StateValue) (app : AppId) (how : How) (from : Option NodeId) → IsState s → IsLive s.lives own.node own.inc → IsEligible t s app own.node
    → RunsAt t (join s (meaning_of (next_operation s own (claim_act s app how from) ∷ []))) app own.node
claim_runs t own s app how from is live may =
    let u = join s (meaning_of (next_operation s own (claim_act s app how from) ∷ [])) in
    let a = claim_alike own s app how from is in
    record {
      inc = own.inc;
      holder = ap (option_map (λ (c : Claim). c.origin)) (own_claim own s app how from);
      up = subst (λ l. IsLive l own.node own.inc) a.lives live;
      eligible = record {
        listed = may.listed;
        inc = may.inc;
        live = subst (λ l. IsLive l own.node may.inc) a.lives may.live;
        allowed = (
          subst (λ q. IsPermitted (key_at app own.node may.inc) (default_permission t app) (record { known = u.known; standing = q })) a.permits may.allowed.0,
          λ drained. may.allowed.1 (subst (λ q. IsDrained (origin own.node may.inc) (record { known = u.known; standing = q })) (sym a.drains) drained),
        );
        started = subst (λ q. SomeStands (key_at app own.node may.inc) (record { known = u.known; standing = q })) a.starts may.started;
      };
    }
