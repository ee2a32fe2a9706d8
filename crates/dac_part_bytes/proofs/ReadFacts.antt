-- The facts about an item that was read: it is greater than the previous one, its dots are known, and a key has at
-- least one.
use Rattle.std.proofs.Common.{◌≡◌, ℕ, ◌≤◌, ◌-◌, ◌^◌, Bool, true, false, cond, ◌||◌, nat_lt, List, [], ◌∷◌, Option, None, Some, Ok, is_some, refl, sym, ap, subst, ◌∙◌, inl, inr}
use Rattle.dac_part_bytes.proofs.Common.{Ordering, IsTotalOrder, AllByRecursion, w8, w32, find, false≢true, Origin, Dot, Dots, dot_cmp, dots_total, exact_dots, origins_total, Flag, Up, Down, Life, Claim, NodeId, AppId, app_cmp, node_cmp, is_empty_list, is_empty_set, Key, key_cmp, keys_total, DotFlags, Table, node_count, BadOrder, Rest, Field, fault, ◌>>=◌, number_at, range_at, origin_at, items_at, is_above, known_dot_at, vote_at, some_at, votes_of_key_at, key_above_at, keyed_dots_at, life_at, claim_at, IsNext, Version, Two}
use Rattle.std.specs.FinSet as set
use Rattle.std.proofs.lemmas.Bool.{or_cases, ltb-false}
use Rattle.std.proofs.lemmas.List.Elements.{All-from_recursion}
use Rattle.dac_origins.specs.Dots.{origin_cmp}
use Rattle.dac_origins.specs.laws.KeyLaws.{each_key}
use Rattle.dac_store.specs.Stores.{IsHeld}
use Rattle.dac_store.specs.DotFuns.{has_dot}
use Rattle.dac_store.specs.DotMaps.{has_in}
use Rattle.dac_wishes.specs.Writes.{same_dot}
use Rattle.dac_wishes.specs.laws.KeyedWrites.{same_dot_is}
use Rattle.dac_bytes.specs.declared.fault.ReadFaultKind.TheVariants.{BadNumber, NotKnown}
use Rattle.dac_bytes.specs.Reading.{node_at, origin_above_at, dot_at, dot_above_at}
use Rattle.dac_bytes.specs.laws.Takes.{bind_ok, guard_ok, wanted_ok, ok_is}
use Rattle.dac_part_bytes.specs.Reading.{flag_of_code, listed_key_at, keyed_votes_at, permits_of_key_at, drains_of_key_at, dots_of_key_at, node_above_at, inc_and_flag_at, listed_claim_at}
use Rattle.dac_bytes.specs.laws.Ascending.{counted_chain, items_chain, chain_each}
use Rattle.dac_part_bytes.proofs.InOrder.{not_empty, not_empty_set}

-- ---- dots

abbrev pub IsKnown : Dots → Dot → Type 0
IsKnown known d = set.contains known d ≡ true

pub known_dot_next : (version : Version) (nodes : ℕ) (known : Dots) (s : Option Dot) (r : Rest) (x : Dot × Rest) → known_dot_at version nodes known s r ≡ Ok x → IsNext dot_cmp (λ (d : Dot). d) (IsKnown known) s x.0
unfolding known_dot_at dot_above_at
known_dot_next version nodes known s r x e =
    let a = bind_ok (dot_above_at version nodes s r) (λ d. cond (set.contains known d.0) (Ok d) (fault NotKnown r)) x e in
    let g = wanted_ok (set.contains known a.0.0) NotKnown r a.0 x a.2 in
    let b = bind_ok (dot_at version nodes r) (λ d. cond (is_above dot_cmp s d.0) (Ok d) (fault BadOrder r)) a.0 a.1 in
    let h = wanted_ok (is_above dot_cmp s b.0.0) BadOrder r b.0 a.0 b.2 in
    (ap (λ (y : Dot × Rest). set.contains known y.0) (sym g.1) ∙ g.0, ap (λ (y : Dot × Rest). is_above dot_cmp s y.0) (sym (h.1 ∙ g.1)) ∙ h.0)

pub vote_next : (version : Version) (nodes : ℕ) (known : Dots) (truth : Flag) (s : Option Dot) (r : Rest) (x : (Dot × Flag) × Rest) → vote_at version nodes known truth s r ≡ Ok x → IsNext dot_cmp (λ (p : Dot × Flag). p.0) (λ p. IsKnown known p.0) s x.0
unfolding vote_at
vote_next version nodes known truth s r x e =
    let a = bind_ok (known_dot_at version nodes known s r) (λ d. range_at w8 0 1 d.1 >>= λ value. Ok ((d.0, flag_of_code truth value.0), value.1)) x e in
    let b = bind_ok (range_at w8 0 1 a.0.1) (λ value. Ok ((a.0.0, flag_of_code truth value.0), value.1)) x a.2 in
    let made : (Dot × Flag) × Rest = ((a.0.0, flag_of_code truth b.0.0), b.0.1) in
    subst (λ (y : (Dot × Flag) × Rest). IsNext dot_cmp (λ (p : Dot × Flag). p.0) (λ p. IsKnown known p.0) s y.0) (ok_is made x b.2) (known_dot_next version nodes known s r a.0 a.1)

or_none : (a b : Bool) → (a || b) ≡ false → a ≡ false
or_none true b e = e
or_none false b e = refl

some_is : (r : Rest) (n : ℕ × Rest) → some_at r ≡ Ok n → 1 ≤ n.0
unfolding range_at
some_is r n e =
    let a = bind_ok (number_at w32 r) (λ n. cond (nat_lt n.0 1 || nat_lt (2 ^ 32 - 1) n.0) (fault BadNumber r) (Ok n)) n e in
    let g = guard_ok (nat_lt a.0.0 1 || nat_lt (2 ^ 32 - 1) a.0.0) BadNumber r a.0 n a.2 in
    subst (λ (y : ℕ × Rest). 1 ≤ y.0) g.1 (ltb-false a.0.0 1 (or_none _ _ g.0))

-- ---- keys

pub key_next : (version : Version) (t : Table) (s : Option Key) (r : Rest) (x : Key × Rest) → key_above_at version t s r ≡ Ok x → is_above key_cmp s x.0 ≡ true
unfolding key_above_at
key_next version t s r x e =
    let a = bind_ok (listed_key_at version t r) (λ key. cond (is_above key_cmp s key.0) (Ok key) (fault BadOrder r)) x e in
    let g = wanted_ok (is_above key_cmp s a.0.0) BadOrder r a.0 x a.2 in
    ap (λ (y : Key × Rest). is_above key_cmp s y.0) (sym g.1) ∙ g.0

pub origin_next : (version : Version) (nodes : ℕ) (s : Option Origin) (r : Rest) (x : Origin × Rest) → origin_above_at version nodes s r ≡ Ok x → is_above origin_cmp s x.0 ≡ true
unfolding origin_above_at
origin_next version nodes s r x e =
    let a = bind_ok (origin_at version nodes r) (λ origin. cond (is_above origin_cmp s origin.0) (Ok origin) (fault BadOrder r)) x e in
    let g = wanted_ok (is_above origin_cmp s a.0.0) BadOrder r a.0 x a.2 in
    ap (λ (y : Origin × Rest). is_above origin_cmp s y.0) (sym g.1) ∙ g.0

-- the votes of a key: at least one, with known dots
abbrev pub AreVotesKnown : {K : Type 0} → Dots → K × DotFlags → Type 0
AreVotesKnown known e = AllByRecursion (λ (p : Dot × Flag). IsKnown known p.0) e.1 × (is_empty_list e.1 ≡ false)

module _ {K : Type 0} (R : K → K → Ordering) (key_above : Option K → Rest → Field K) (next : (s : Option K) (r : Rest) (x : K × Rest) → key_above s r ≡ Ok x → is_above R s x.0 ≡ true)
    (version : Version) (nodes : ℕ) (known : Dots) (truth : Flag) where
  pub keyed_votes_next : (s : Option K) (r : Rest) (x : (K × DotFlags) × Rest) → keyed_votes_at key_above (votes_of_key_at version nodes known truth) s r ≡ Ok x
      → IsNext R (λ (e : K × DotFlags). e.0) (AreVotesKnown known) s x.0
  unfolding keyed_votes_at votes_of_key_at
  keyed_votes_next s r x e =
      let votes = votes_of_key_at version nodes known truth in
      let a = bind_ok (key_above s r) (λ key. votes key.1 >>= λ ps. Ok ((key.0, ps.0), ps.1)) x e in
      let b = bind_ok (votes a.0.1) (λ ps. Ok ((a.0.0, ps.0), ps.1)) x a.2 in
      let c = counted_chain dots_total (λ (p : Dot × Flag). p.0) (λ p. IsKnown known p.0) (vote_at version nodes known truth) some_at (λ _. []) (λ _. []) (λ n. 1 ≤ n) some_is (vote_next version nodes known truth) a.0.1 b.0 b.1 in
      let made : (K × DotFlags) × Rest = ((a.0.0, b.0.0), b.0.1) in
      subst (λ (y : (K × DotFlags) × Rest). IsNext R (λ (e : K × DotFlags). e.0) (AreVotesKnown known) s y.0) (ok_is made x b.2)
      ((c.1, not_empty b.0.0 c.0), next s r a.0 a.1)

-- the dots of a key: at least one, all known
abbrev pub AreDotsKnown : Dots → Key × Dots → Type 0
AreDotsKnown known e = IsHeld (set.contains e.1) known × (is_empty_set e.1 ≡ false)

pub keyed_dots_next : (version : Version) (t : Table) (known : Dots) (s : Option Key) (r : Rest) (x : (Key × Dots) × Rest) → keyed_dots_at version t known s r ≡ Ok x
    → IsNext key_cmp (λ (e : Key × Dots). e.0) (AreDotsKnown known) s x.0
unfolding keyed_dots_at dots_of_key_at
keyed_dots_next version t known s r x e =
    let nodes = node_count t in
    let a = bind_ok (key_above_at version t s r) (λ key. dots_of_key_at version nodes known key.1 >>= λ dots. Ok ((key.0, set.from_list dots.0), dots.1)) x e in
    let b = bind_ok (dots_of_key_at version nodes known a.0.1) (λ dots. Ok ((a.0.0, set.from_list dots.0), dots.1)) x a.2 in
    let c = counted_chain dots_total (λ (d : Dot). d) (IsKnown known) (known_dot_at version nodes known) some_at (λ _. []) (λ _. []) (λ n. 1 ≤ n) some_is (known_dot_next version nodes known) a.0.1 b.0 b.1 in
    let made : (Key × Dots) × Rest = ((a.0.0, set.from_list b.0.0), b.0.1) in
    let held : IsHeld (set.contains (set.from_list b.0.0)) known = λ q h. each_key dots_total exact_dots (IsKnown known) b.0.0 (All-from_recursion (IsKnown known) b.0.0 c.1) q (sym (set.contains-from_list dots_total b.0.0 q) ∙ h) in
    subst (λ (y : (Key × Dots) × Rest). IsNext key_cmp (λ (e : Key × Dots). e.0) (AreDotsKnown known) s y.0) (ok_is made x b.2)
    ((held, not_empty_set b.0.0 c.0), key_next version t s r a.0 a.1)

-- ---- the dots of all keys are known

held_flags : (known : Dots) (ps : DotFlags) → AllByRecursion (λ (p : Dot × Flag). IsKnown known p.0) ps → IsHeld (has_dot ps) known
held_flags known [] all x h = absurd (false≢true h)
held_flags known (p ∷ ps) all x h = elim (same_dot x p.0) as (λ b. same_dot x p.0 ≡ b → is_some (cond b (Some p.1) (find dot_cmp x ps)) ≡ true → IsKnown known x) [
  | true ↦ λ t _. ap (set.contains known) (same_dot_is x p.0 t) ∙ all.0
  | false ↦ λ t h. held_flags known ps all.1 x h
] refl h

held_votes : {K : Type 0} (known : Dots) (m : List (K × DotFlags)) → AllByRecursion (AreVotesKnown known) m → IsHeld (has_in has_dot m) known
held_votes known [] all x h = absurd (false≢true h)
held_votes known (e ∷ m) all x h = elim (or_cases (has_dot e.1 x) (has_in has_dot m x) h) [
  | inl here ↦ held_flags known e.1 all.0.0 x here
  | inr later ↦ held_votes known m all.1 x later
]

held_dots : (known : Dots) (m : List (Key × Dots)) → AllByRecursion (AreDotsKnown known) m → IsHeld (has_in set.contains m) known
held_dots known [] all x h = absurd (false≢true h)
held_dots known (e ∷ m) all x h = elim (or_cases (set.contains e.1 x) (has_in set.contains m x) h) [
  | inl here ↦ all.0.0 x here
  | inr later ↦ held_dots known m all.1 x later
]

-- ---- lives and claims

pub life_next : (version : Version) (nodes : ℕ) (s : Option NodeId) (r : Rest) (x : (NodeId × Life) × Rest) → life_at version nodes s r ≡ Ok x → is_above node_cmp s x.0.0 ≡ true
unfolding life_at node_above_at
life_next version nodes s r x e =
    let a = bind_ok (node_above_at nodes s r) (λ node. inc_and_flag_at version node.1 >>= λ life. Ok ((node.0, life.0), life.1)) x e in
    let b = bind_ok (inc_and_flag_at version a.0.1) (λ life. Ok ((a.0.0, life.0), life.1)) x a.2 in
    let c = bind_ok (node_at nodes r) (λ node. cond (is_above node_cmp s node.0) (Ok node) (fault BadOrder r)) a.0 a.1 in
    let g = wanted_ok (is_above node_cmp s c.0.0) BadOrder r c.0 a.0 c.2 in
    let made : (NodeId × Life) × Rest = ((a.0.0, b.0.0), b.0.1) in
    ap (λ (y : (NodeId × Life) × Rest). is_above node_cmp s y.0.0) (sym (ok_is made x b.2)) ∙ ap (λ (y : NodeId × Rest). is_above node_cmp s y.0) (sym g.1) ∙ g.0

pub claim_next : (version : Version) (t : Table) (s : Option AppId) (r : Rest) (x : (AppId × Claim) × Rest) → claim_at version t s r ≡ Ok x → is_above app_cmp s x.0.0 ≡ true
unfolding claim_at
claim_next version t s r x e =
    let a = bind_ok (listed_claim_at version t r) (λ e. cond (is_above app_cmp s e.0.0) (Ok e) (fault BadOrder r)) x e in
    let g = wanted_ok (is_above app_cmp s a.0.0.0) BadOrder r a.0 x a.2 in
    ap (λ (y : (AppId × Claim) × Rest). is_above app_cmp s y.0.0) (sym g.1) ∙ g.0

-- ---- the parts by key

module _ {K : Type 0} {R : K → K → Ordering} (total : IsTotalOrder R) (key_above : Option K → Rest → Field K) (next : (s : Option K) (r : Rest) (x : K × Rest) → key_above s r ≡ Ok x → is_above R s x.0 ≡ true)
    (version : Version) (nodes : ℕ) (known : Dots) (truth : Flag) where
  pub votes_held : (n : ℕ) (r : Rest) (x : List (K × DotFlags) × Rest) → items_at (keyed_votes_at key_above (votes_of_key_at version nodes known truth)) (λ (e : K × DotFlags). Some e.0) n None r ≡ Ok x → IsHeld (has_in has_dot x.0) known
  votes_held n r x e =
      let key : K × DotFlags → K = λ e. e.0 in
      let item = keyed_votes_at key_above (votes_of_key_at version nodes known truth) in
      let chain = items_chain item (λ (e : K × DotFlags). Some e.0) (IsNext R key (AreVotesKnown known)) (keyed_votes_next R key_above next version nodes known truth) n None r x e in
      held_votes known x.0 (chain_each total key (AreVotesKnown known) x.0 None chain.1)

pub starts_held : (version : Version) (t : Table) (known : Dots) (n : ℕ) (r : Rest) (x : List (Key × Dots) × Rest) → items_at (keyed_dots_at version t known) (λ (e : Key × Dots). Some e.0) n None r ≡ Ok x → IsHeld (has_in set.contains x.0) known
starts_held version t known n r x e =
    let key : Key × Dots → Key = λ e. e.0 in
    let chain = items_chain (keyed_dots_at version t known) (λ (e : Key × Dots). Some e.0) (IsNext key_cmp key (AreDotsKnown known)) (keyed_dots_next version t known) n None r x e in
    held_dots known x.0 (chain_each keys_total key (AreDotsKnown known) x.0 None chain.1)

-- ---- permits and drains

-- reads a key with its permits
abbrev pub permit_item : Version → Table → Dots → Option Key → Rest → Field (Key × DotFlags)
permit_item version t known = keyed_votes_at (key_above_at version t) (permits_of_key_at version t known)

-- reads an incarnation of a node with its drains
abbrev pub drain_item : Table → Dots → Option Origin → Rest → Field (Origin × DotFlags)
drain_item t known = keyed_votes_at (origin_above_at Two (node_count t)) (drains_of_key_at t known)

pub permits_next : (version : Version) (t : Table) (known : Dots) (s : Option Key) (r : Rest) (x : (Key × DotFlags) × Rest) → permit_item version t known s r ≡ Ok x → IsNext key_cmp (λ (e : Key × DotFlags). e.0) (AreVotesKnown known) s x.0
permits_next version t known = keyed_votes_next key_cmp (key_above_at version t) (key_next version t) version (node_count t) known Up

pub drains_next : (t : Table) (known : Dots) (s : Option Origin) (r : Rest) (x : (Origin × DotFlags) × Rest) → drain_item t known s r ≡ Ok x → IsNext origin_cmp (λ (e : Origin × DotFlags). e.0) (AreVotesKnown known) s x.0
drains_next t known = keyed_votes_next origin_cmp (origin_above_at Two (node_count t)) (origin_next Two (node_count t)) Two (node_count t) known Down

pub permits_held : (version : Version) (t : Table) (known : Dots) (n : ℕ) (r : Rest) (x : List (Key × DotFlags) × Rest) → items_at (permit_item version t known) (λ (e : Key × DotFlags). Some e.0) n None r ≡ Ok x → IsHeld (has_in has_dot x.0) known
permits_held version t known = votes_held keys_total (key_above_at version t) (key_next version t) version (node_count t) known Up

pub drains_held : (t : Table) (known : Dots) (n : ℕ) (r : Rest) (x : List (Origin × DotFlags) × Rest) → items_at (drain_item t known) (λ (e : Origin × DotFlags). Some e.0) n None r ≡ Ok x → IsHeld (has_in has_dot x.0) known
drains_held t known = votes_held origins_total (origin_above_at Two (node_count t)) (origin_next Two (node_count t)) Two (node_count t) known Down
