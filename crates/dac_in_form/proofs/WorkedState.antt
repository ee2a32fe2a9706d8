-- The worked state fits: the rows of its dots, and its votes and start wishes by key, are lists of one or two.
use Rattle.std.specs.Prelude.{◌≡◌, ℕ, ◌+◌, ◌-◌, ◌*◌, ◌<◌, ◌≤◌, ◌^◌, Bool, true, false, not, cond, ◌||◌, nat_eq, List, [], ◌∷◌, length, get_or, None, Some, refl}
use Rattle.std.proofs.Common.{sym, ap, subst, ◌∙◌, inl, inr, arith}
use Rattle.dac_in_form.proofs.Common.{◌&&◌, Ordering, eq_by_cmp, IsTotalOrder, AllByRecursion, find, CmpEqualImpliesEq, the_limits, Dot, Origin, Dots, dot, dot_cmp, origin_cmp, in_order, dots_total, exact_dots, origins_total, exact_origins, Row, rows_of, dots_in, dots_in_row, one_to, kept_are, Flag, Key, key_cmp, keys_total, exact_keys, Write, write, writes_total, exact_writes, writes_of, AreStarts, dots_stored, starts_again, DotFlags, AreKeyedVotes, votes_of, votes_again, votes_stored, Up, Operation, IsOperationOf, meaning_of, heard_of, known_of, permits_of, starts_of, is_replaced, IsIncarnation, IsOrigin, IsDot, Two, IsKey, IsOperation, AreOver, ContextFits, VotesFit, StartsFit, StateFits, AreInForm, first_origin, second_origin, worked_table}
use Rattle.std.proofs.lemmas.Bool.{false≢true}
use Rattle.std.specs.FinSet as set
use Rattle.dac_origins.specs.laws.InOrder.{in_order-one}
use Rattle.dac_dots.specs.Rows.{IsKept}
use Rattle.dac_lattice.specs.Chains.{IsAny}
use Rattle.dac_lattice.specs.declared.flags.Flag.TheVariants.{Down}
use Rattle.dac_lattice.specs.Lattices.{IsOptionOf}
use Rattle.dac_lattice.specs.Maps.{IsMap}
use Rattle.dac_store.specs.DotFuns.{is_empty_list}
use Rattle.dac_store.specs.DotSets.{is_empty_set}
use Rattle.dac_store.specs.DotMaps.{IsKept as IsKeptStore, store_at}
use Rattle.dac_wishes.specs.Keys.{same_key}
use Rattle.dac_wishes.specs.KeyedWrites.{same_dot}
use Rattle.dac_wishes.specs.Writes.{Writes, write_cmp}
use Rattle.dac_wishes.specs.laws.Writes.{same_write}
use Rattle.dac_wishes.specs.laws.StartsByKey.{contains-writes_of}
use Rattle.dac_meaning.specs.Meaning.{standing_drains}
use Rattle.dac_in_form.specs.WorkedState.{the_key, issued_by, worked_set, StatesCanFit}

-- ---- dots

abbrev the_rows : List Row
the_rows = (record { origin = first_origin; upto = 4; further = [] }) ∷ (record { origin = second_origin; upto = 1; further = [] }) ∷ []

-- a row without further counters is kept
pub plain : (o : Origin) (upto : ℕ) → IsKept (record { origin = o; upto = upto; further = [] })
plain o upto = record { rising = refl; apart = λ n h. absurd (false≢true h) }

rows_are : rows_of (dots_in the_rows) ≡ the_rows
rows_are = kept_are the_rows (record { each = ((plain first_origin 4, inl (omega arith)), ((plain second_origin 1, inl (omega arith)), tt)); rising = refl })

dots_fit : ContextFits (dots_in the_rows)
dots_fit = record {
  origins = subst (λ (rows : List Row). length rows < 2 ^ 16) (sym rows_are) (omega arith);
  further = subst (AllByRecursion (λ (row : Row). length row.further < 2 ^ 32)) (sym rows_are) (omega arith, (omega arith, tt));
}

heard_are : dots_in the_rows ≡ heard_of worked_set
unfolding dots_in dots_in_row one_to
heard_are = refl

known_are : dots_in the_rows ≡ known_of worked_set
unfolding dots_in dots_in_row one_to
known_are = refl

-- ---- votes

-- one vote alone at a key
module _ {K : Type 0} {R : K → K → Ordering} (total : IsTotalOrder R) (exact : CmpEqualImpliesEq R) (key : K) (d : Dot) (flag : Flag) where
  abbrev one : DotFlags
  one = (d, flag) ∷ []

  abbrev by_one_key : List (K × DotFlags)
  by_one_key = (key, one) ∷ []

  one_is : IsMap dot_cmp IsAny one
  one_is = record { in_order = tt; values = λ e. elim (eq_by_cmp dot_cmp e d) as (λ b. IsOptionOf {T = Flag} IsAny (cond b (Some flag) None)) [ true ↦ tt | false ↦ tt ] }

  one_kept : AreKeyedVotes R by_one_key
  one_kept = record {
    in_order = tt;
    stores = λ k. elim (eq_by_cmp R k key) as (λ b. IsKeptStore (IsMap dot_cmp IsAny) is_empty_list (cond b (Some one) None)) [ true ↦ (one_is, refl) | false ↦ tt ];
  }

  one_at_most : (k : K) → length (store_at [] (find R k by_one_key)) < 2 ^ 32
  one_at_most k = elim (eq_by_cmp R k key) as (λ b. length (store_at [] (cond b (Some one) None)) < 2 ^ 32) [ true ↦ omega arith | false ↦ omega arith ]

  vote_fits : VotesFit R (votes_of R by_one_key)
  vote_fits = record {
    keys = subst (λ (m : List (K × DotFlags)). length m < 2 ^ 32) (sym (votes_again total exact by_one_key one_kept)) (omega arith);
    dots = λ k. subst (λ (ps : DotFlags). length ps < 2 ^ 32) (votes_stored total exact by_one_key one_kept k) (one_at_most k);
  }

permits_are : votes_of key_cmp (by_one_key {R = key_cmp} keys_total exact_keys the_key (dot first_origin 3) Down) ≡ permits_of worked_set
unfolding votes_of
permits_are = refl

drains_are : votes_of origin_cmp (by_one_key {R = origin_cmp} origins_total exact_origins second_origin (dot first_origin 4) Down) ≡ standing_drains worked_set
unfolding votes_of
drains_are = refl

-- ---- start wishes

abbrev start_dot : Dot
start_dot = dot first_origin 2

abbrev start_dots : Dots
start_dots = set.from_list (start_dot ∷ [])

abbrev by_start_key : List (Key × Dots)
by_start_key = (the_key, start_dots) ∷ []

in_order_one : in_order start_dots ≡ start_dot ∷ []
in_order_one = sym (in_order-one dots_total exact_dots start_dots (start_dot ∷ []) refl refl)

pub in_order_none : in_order (set.empty {R = dot_cmp}) ≡ []
in_order_none = sym (in_order-one dots_total exact_dots set.empty [] refl refl)

start_kept : AreStarts by_start_key
start_kept = record {
  in_order = tt;
  stores = λ k. elim (eq_by_cmp key_cmp k the_key) as (λ b. IsKeptStore IsAny is_empty_set (cond b (Some start_dots) None)) [
    | true ↦ (tt, some)
    | false ↦ tt
  ];
}
  where
    long : set.len start_dots ≡ 1
    long =
        set.len-insert dots_total set.empty start_dot
        ∙ ap (λ b. cond b (set.len (set.empty {R = dot_cmp})) (set.len (set.empty {R = dot_cmp}) + 1)) (set.contains-empty dot_cmp start_dot)
        ∙ ap (λ n. n + 1) (set.len-empty dot_cmp)

    some : is_empty_set start_dots ≡ false
    some = ap (λ n. nat_eq n 0) long

and_all : (b : Bool) → (b && true) ≡ b
and_all true = refl
and_all false = refl

or_none : (b : Bool) → (b || false) ≡ b
or_none true = refl
or_none false = refl

-- the only write
abbrev written : Writes
written = set.from_list (write the_key start_dot ∷ [])

-- it stands, because nothing replaces it
starts_are : writes_of by_start_key ≡ starts_of worked_set
starts_are = set.same_set writes_total exact_writes (writes_of by_start_key) (starts_of worked_set) (λ w.
    contains-writes_of by_start_key tt w ∙ at_key w (same_key w.key the_key) ∙ sym (stands w))
  where
    at_key : (w : Write) (b : Bool) → set.contains (store_at set.empty (cond b (Some start_dots) None)) w.dot ≡ (b && same_dot w.dot start_dot)
    at_key w true = set.contains-from_list dots_total (start_dot ∷ []) w.dot ∙ or_none (same_dot w.dot start_dot)
    at_key w false = set.contains-empty dot_cmp w.dot

    stands : (w : Write) → set.contains (starts_of worked_set) w ≡ (same_key w.key the_key && same_dot w.dot start_dot)
    stands w =
        set.contains-retain written (λ (v : Write). not (is_replaced v.dot worked_set)) w (λ x e. refl)
        ∙ and_all (set.contains written w)
        ∙ set.contains-from_list writes_total (write the_key start_dot ∷ []) w
        ∙ or_none (eq_by_cmp write_cmp w (write the_key start_dot))
        ∙ same_write w the_key start_dot

few_dots : (k : Key) → length (in_order (store_at set.empty (find key_cmp k by_start_key))) < 2 ^ 32
few_dots k = elim (eq_by_cmp key_cmp k the_key) as (λ b. length (in_order (store_at set.empty (cond b (Some start_dots) None))) < 2 ^ 32) [
  | true ↦ subst (λ (ds : List Dot). length ds < 2 ^ 32) (sym in_order_one) (omega arith)
  | false ↦ subst (λ (ds : List Dot). length ds < 2 ^ 32) (sym in_order_none) (omega arith)
]

starts_fit : StartsFit (writes_of by_start_key)
starts_fit = record {
  keys = subst (λ (m : List (Key × Dots)). length m < 2 ^ 32) (sym (starts_again by_start_key start_kept)) (omega arith);
  dots = λ k. subst (λ (ds : Dots). length (in_order ds) < 2 ^ 32) (dots_stored by_start_key tt k) (few_dots k);
}

-- ---- the state

state_fits : StateFits (meaning_of worked_set)
unfolding meaning_of
state_fits = record {
  heard = subst ContextFits heard_are dots_fit;
  known = subst ContextFits known_are dots_fit;
  permits = subst (VotesFit key_cmp) permits_are (vote_fits keys_total exact_keys the_key (dot first_origin 3) Down);
  starts = subst StartsFit starts_are starts_fit;
  drains = subst (VotesFit origin_cmp) drains_are (vote_fits origins_total exact_origins second_origin (dot first_origin 4) Down);
}

-- ---- the operations

one_is_incarnation : IsIncarnation Two 1
one_is_incarnation = let limit = the_limits.1.1.1.0 in (omega arith, omega (arith, limit))

first_is : IsOrigin Two 2 first_origin
first_is = record { node = omega arith; inc = one_is_incarnation }

second_is : IsOrigin Two 2 second_origin
second_is = record { node = omega arith; inc = one_is_incarnation }

key_is : IsKey Two worked_table the_key
key_is = record { app = omega arith; origin = first_is; listed = refl }

none_over : AreOver Two 2 []
none_over = record { each = tt; rising = refl; count = omega arith }

small_dot : (o : Origin) (n : ℕ) → IsOrigin Two 2 o → 1 ≤ n → n ≤ 4 → IsDot Two 2 (dot o n)
small_dot o n is least most = record { origin = is; first = least; last = let limit = the_limits.1.1.1.1 in omega (arith, most, limit) }

in_form : AreInForm worked_table worked_set
in_form o (inl e) = subst (IsOperation Two worked_table) (sym e) (record { dot = small_dot first_origin 1 first_is (omega arith) (omega arith); kind = omega arith; act = tt; sound = refl })
in_form o (inr (inl e)) = subst (IsOperation Two worked_table) (sym e) (record { dot = small_dot first_origin 2 first_is (omega arith) (omega arith); kind = omega arith; act = (key_is, none_over); sound = refl })
in_form o (inr (inr (inl e))) = subst (IsOperation Two worked_table) (sym e) (record { dot = small_dot first_origin 3 first_is (omega arith) (omega arith); kind = omega arith; act = (key_is, none_over); sound = refl })
in_form o (inr (inr (inr (inl e)))) = subst (IsOperation Two worked_table) (sym e) (record { dot = small_dot first_origin 4 first_is (omega arith) (omega arith); kind = omega arith; act = (second_is, none_over); sound = refl })
in_form o (inr (inr (inr (inr (inl e))))) = subst (IsOperation Two worked_table) (sym e) (record { dot = small_dot second_origin 1 second_is (omega arith) (omega arith); kind = omega arith; act = tt; sound = refl })
in_form o (inr (inr (inr (inr (inr e))))) = absurd e

-- the operation of each dot
abbrev at : Dot → Operation
at d = get_or worked_set (d.origin.node.0 * 4 + d.n - 1) (issued_by first_origin 1 Up)

found : (o : Operation) → IsOperationOf o worked_set → at o.dot ≡ o
found o (inl e) = ap (λ (p : Operation). at p.dot) e ∙ sym e
found o (inr (inl e)) = ap (λ (p : Operation). at p.dot) e ∙ sym e
found o (inr (inr (inl e))) = ap (λ (p : Operation). at p.dot) e ∙ sym e
found o (inr (inr (inr (inl e)))) = ap (λ (p : Operation). at p.dot) e ∙ sym e
found o (inr (inr (inr (inr (inl e))))) = ap (λ (p : Operation). at p.dot) e ∙ sym e
found o (inr (inr (inr (inr (inr e))))) = absurd e

pub states_can_fit : StatesCanFit
states_can_fit = record {
  small = record { nodes = let limit = the_limits.0 in omega (arith, limit); apps = let limit = the_limits.1.0 in omega (arith, limit) };
  distinct = λ o p i j same. sym (found o i) ∙ ap at same ∙ found p j;
  form = in_form;
  state = state_fits;
  body = state_fits;
}
