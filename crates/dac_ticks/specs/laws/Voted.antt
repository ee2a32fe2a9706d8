-- A vote that replaces all standing ones at its key. After it is joined to the state in which it is issued, it stands
-- there, and whatever stands there has the same value.
use Rattle.std.proofs.Common.{◌≡◌, ℕ, ◌+◌, ◌≤◌, Bool, true, false, not, cond, ◌&&◌, ◌||◌, [], ◌∷◌, Option, None, Some, refl, sym, ap, ◌∙◌, arith, true≢false}
use Rattle.dac_ticks.specs.laws.Common.{eq_by_cmp, is_eq, false≢true, false_from_ne_true, tied_itself, Origin, Dot, dot, dot_cmp, has_key, Flag, same_dot_itself, Act, over_list, StateValue, meaning_of, greatest_counter, next_operation, counter-greatest}
use Rattle.std.specs.Prelude.{is_some}
use Rattle.std.specs.declared.cmp.Ordering.{Ordering}
use Rattle.std.specs.Cmp.{IsTotalOrder}
use Rattle.std.specs.FinSet as set
use Rattle.std.specs.FinMap as map
use Rattle.std.proofs.lemmas.Map.Lookups.{CmpEqualImpliesEq}
use Rattle.dac_lattice.specs.declared.flags.Flag.TheVariants.{Up, Down}
use Rattle.dac_lattice.specs.Flags.{join_flags}
use Rattle.dac_store.specs.AtDot.{join_at}
use Rattle.dac_wishes.specs.KeyedWrites.{KeyedWrite, keyed_write, same_dot}
use Rattle.dac_wishes.specs.Votes.{Votes, VotesValue, AreVotes, joined_vote, join_votes}
use Rattle.dac_wishes.specs.laws.Votes.{standing-join_votes}
use Rattle.dac_meaning.specs.Meaning.{is_same, flag_written, vote_says, vote_at}
use Rattle.dac_meaning.specs.laws.Readers.{known-meaning}

-- the flag of a vote of this value, if `down` is the value that becomes Down
abbrev pub flag_by : Bool → Bool → Flag
flag_by down value = cond (is_same value down) Down Up

-- the dot of the incarnation's next operation
abbrev pub next_dot : Origin → StateValue → Dot
next_dot own s = dot own (greatest_counter own s.known + 1)

above : (g : ℕ) → g + 1 ≤ g → ⊥
above g h = omega arith

-- the next dot isn't known
pub next_is_fresh : (own : Origin) (s : StateValue) → set.contains s.known (next_dot own s) ≡ false
next_is_fresh own s = false_from_ne_true (set.contains s.known (next_dot own s)) (λ h. above (greatest_counter own s.known) (counter-greatest s.known (next_dot own s) h))

known_or : (a b : Bool) → b ≡ true → ((a || b) || false) ≡ true
known_or true b p = refl
known_or false true p = refl
known_or false false p = absurd (false≢true p)

-- the dots that the next operation replaces are known after it is heard
pub replaced_is_known : (own : Origin) (s : StateValue) (act : Act) (d : Dot) → has_key dot_cmp (over_list act) d ≡ true → set.contains (meaning_of (next_operation s own act ∷ [])).known d ≡ true
replaced_is_known own s act d h = known-meaning (next_operation s own act ∷ []) d ∙ known_or (same_dot d (next_dot own s)) (has_key dot_cmp (over_list act) d) h

some_flag : {f g : Flag} → ◌≡◌ {A = Option Flag} (Some f) (Some g) → f ≡ g
some_flag e = cc

none_said : (a b : Bool) → flag_written ((a && false) || false) ((b && false) || false) ≡ None
none_said true true = refl
none_said true false = refl
none_said false true = refl
none_said false false = refl

value_said : (k down v : Bool) → k ≡ true → flag_written (((k && is_same v down) && true) || false) (((k && is_same v (not down)) && true) || false) ≡ Some (flag_by down v)
value_said true true true e = refl
value_said true true false e = refl
value_said true false true e = refl
value_said true false false e = refl
value_said false down v e = absurd (false≢true e)

-- `vote` is an act's key and value, `old` are the standing votes of the state, and `new` those of the operation
module _ {K : Type 0} {R : K → K → Ordering} (total : IsTotalOrder R) (exact : CmpEqualImpliesEq R) (vote : Act → Option (K × Bool)) (down : Bool)
    (own : Origin) (s : StateValue) (act : Act) (key : K) (value : Bool) (old new : Votes R) where
  abbrev m : StateValue
  m = meaning_of (next_operation s own act ∷ [])

  abbrev x : VotesValue R
  x = record { known = s.known; standing = old }

  abbrev y : VotesValue R
  y = record { known = m.known; standing = new }

  -- the act is this vote, it replaces the standing ones at the key, and `new` is its meaning
  pub record IsVote : Type 0 where
    pub votes : vote act ≡ Some (key, value)
    pub replaces : (d : Dot) → has_key dot_cmp (over_list act) d ≡ is_some (map.get old (keyed_write key d))
    pub says : (w : KeyedWrite K) → map.get new w ≡ vote_at R vote down (next_operation s own act ∷ []) w
    pub known : AreVotes R x

  module _ (is : IsVote) where
    abbrev next : Dot
    next = next_dot own s

    abbrev flag : Flag
    flag = flag_by down value

    abbrev same : Bool
    same = eq_by_cmp R key key

    here : (w : KeyedWrite K) → map.get (join_votes R x y).standing w ≡ joined_vote R x y w (map.get old w) (map.get new w)
    here w = standing-join_votes total exact x y w

    -- the vote's flag at a dot, given whether the dot is replaced and whether it is the vote's own
    abbrev said_at : Bool → Bool → Option Flag
    said_at gone mine = cond (gone || false) None (flag_written (((same && is_same value down) && mine) || false) (((same && is_same value (not down)) && mine) || false))

    abbrev said_by : Dot → Option (K × Bool) → Option Flag
    said_by d said =
        cond (has_key dot_cmp (over_list act) d || false) None
        (flag_written ((vote_says R key down said && same_dot d next) || false) ((vote_says R key (not down) said && same_dot d next) || false))

    says : (d : Dot) → map.get new (keyed_write key d) ≡ said_at (has_key dot_cmp (over_list act) d) (same_dot d next)
    says d = is.says (keyed_write key d) ∙ ap (said_by d) is.votes

    itself : same ≡ true
    itself = ap is_eq (tied_itself total key)

    none_old : map.get old (keyed_write key next) ≡ None
    none_old = by (map.get old (keyed_write key next)) refl
      where
        by : (o : Option Flag) → map.get old (keyed_write key next) ≡ o → o ≡ None
        by None e = refl
        by (Some f) e = absurd (true≢false (sym (is.known (keyed_write key next) (ap is_some e)) ∙ next_is_fresh own s))

    said_next : map.get new (keyed_write key next) ≡ Some flag
    said_next = says next ∙ (λ i. said_at ((is.replaces next ∙ ap is_some none_old) i) (same_dot_itself next i)) ∙ value_said same down value itself

    -- the vote stands
    pub stands_at_next : map.get (join_votes R x y).standing (keyed_write key next) ≡ Some flag
    stands_at_next = here (keyed_write key next) ∙ (λ i. join_at join_flags (next_is_fresh own s i) (set.contains m.known next) (none_old i) (said_next i))

    by_cases : (kx ky gone mine : Bool) (before : Option Flag) (f : Flag) → gone ≡ is_some before → (is_some before ≡ true → ky ≡ true) → join_at join_flags kx ky before (said_at gone mine) ≡ Some f → f ≡ flag
    by_cases kx ky true mine None f e named h = absurd (true≢false e)
    by_cases kx ky false mine (Some g) f e named h = absurd (false≢true e)
    by_cases kx true true mine (Some g) f e named h = absurd (false≢true (ap is_some h))
    by_cases kx false true mine (Some g) f e named h = absurd (false≢true (named refl))
    by_cases kx ky false false None f e named h = absurd (false≢true (ap is_some ((λ i. join_at join_flags kx ky None (sym (none_said (same && is_same value down) (same && is_same value (not down))) i)) ∙ h)))
    by_cases true ky false true None f e named h = absurd (false≢true (ap is_some ((λ i. join_at join_flags true ky None (sym (value_said same down value itself) i)) ∙ h)))
    by_cases false ky false true None f e named h = sym (some_flag ((λ i. join_at join_flags false ky None (sym (value_said same down value itself) i)) ∙ h))

    named : (d : Dot) → is_some (map.get old (keyed_write key d)) ≡ true → set.contains m.known d ≡ true
    named d h = replaced_is_known own s act d (is.replaces d ∙ h)

    -- all votes that stand at the key have the same value
    pub each_says_so : (d : Dot) (f : Flag) → map.get (join_votes R x y).standing (keyed_write key d) ≡ Some f → f ≡ flag
    each_says_so d f h =
        by_cases (set.contains s.known d) (set.contains m.known d) (has_key dot_cmp (over_list act) d) (same_dot d next) (map.get old (keyed_write key d)) f (is.replaces d) (named d)
        ((λ i. join_at join_flags (set.contains s.known d) (set.contains m.known d) (map.get old (keyed_write key d)) (sym (says d) i)) ∙ (sym (here (keyed_write key d)) ∙ h))
