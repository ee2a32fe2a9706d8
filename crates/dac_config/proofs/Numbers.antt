-- From names to numbers: names in byte order, and the table of a draft, which is unique.
use Rattle.std.proofs.Common.{◌≡◌, ℕ, zero, suc, ◌+◌, ◌<◌, ◌≤◌, Bool, true, false, ◌||◌, cond, eqb, List, [], ◌∷◌, ◌++◌, length, map, map-id, drop, get_or, fold, slice_get, All, Bor, Ordering, Less, Equal, Greater, nat_cmp, bytes_eq, refl, sym, ap, subst, ◌∙◌, inl, inr, arith, append_assoc}
use Rattle.std.specs.Ordering.{match_ordering, ordering_reverse, eq_by_cmp}
use Rattle.std.specs.Cmp.{IsTotalOrder, unsigned_ties, both_ways}
use Rattle.std.specs.Cmp.Lexicographic.{texts_ties}
use Rattle.std.specs.BTreeSet.{insert_key}
use Rattle.std.specs.FinMap.{IsAntisymmetric, nat_cmp-IsAntisymmetric, slice_cmp-IsAntisymmetric}
use Rattle.dac_config.proofs.Common.{list_any, AllZip, AllByRecursion, dedup, dedup_from, or-false, or_assoc, or_comm, or_self, cond_both, lt-ltb, ne_eqb, eq-eqb, or_parts, eq_by_cmp_equiv, nat_cmp_total, nat_list_cmp_total, nat_list_eq_equiv, drop_more, length-map, get_or-map, All-map, All-nil, All-cons, All-head, All-tail, All-weaker, All-from_recursion, recursion_from_All, MAX_NODES, App, Permission, Written, is_among, names_of, IsTextOf, IsWithinLimits, Tables, node_row, app_row, table_of, NodeRow, AppRow, Table, name_cmp, in_byte_order, numbers_from, numbered_node, numbered_nodes, permitted, numbered_app, numbered, IsGroup, IsUnmentioned, IsDefaultPermission, IsApp, IsTableOf, By, IsTable}
use Rattle.std.specs.List.Retain.{IsFiltered, DiffersFromLast}
use Rattle.std.specs.List.Sorted.{IsStrictlySortedBy, IsPermutation, IsSorted}
use Rattle.std.proofs.lemmas.List.Filters.{dedup_is}
use Rattle.std.proofs.lemmas.List.Kept.{Contains-dedup, Contains-from_dedup, IsStrictlySortedBy-dedup}
use Rattle.std.proofs.lemmas.List.Sorted.{list_any-IsPermutation}
use Rattle.std.proofs.lemmas.Map.Lookups.{btree_set_from_contains}
use Rattle.std.proofs.lemmas.Map.Views.{All-insert_key, list_any-from_Contains}
use Rattle.std.proofs.lemmas.Simd.{map-map}
use Rattle.dac_config.specs.declared.config.Node.{Node}
use Rattle.dac_config.specs.Says.{is_named}
use Rattle.dac_config.proofs.Names.{among_names, same_name, names_equal, contained, maps_from_zip}

-- ---- strictly sorted lists

module _ {K : Type 0} {R : K → K → Ordering} (o : IsTotalOrder R) (same : IsAntisymmetric R) where
  below : (y : K) (ys : List K) → AllByRecursion (λ z. R y z ≡ Less) ys → All (λ z. R y z ≡ Less) ys
  below y ys h = All-from_recursion (λ z. R y z ≡ Less) ys h

  rising_inserted : (k : K) (ks : List K) → IsStrictlySortedBy R ks → IsStrictlySortedBy R (insert_key R ks k)
  unfolding IsStrictlySortedBy
  rising_inserted k [] h = (tt, tt)
  rising_inserted k (y ∷ ys) h = elim (R k y) as (λ r. R k y ≡ r → IsStrictlySortedBy R (match_ordering r (k ∷ y ∷ ys) (y ∷ ys) (y ∷ insert_key R ys k))) [
    | Less ↦ λ p. ((p, recursion_from_All (λ z. R k z ≡ Less) ys (All-weaker (λ z. R y z ≡ Less) (λ z. R k z ≡ Less) (λ z. o.trans k y z p) ys (below y ys h.0))), h)
    | Equal ↦ λ p. h
    | Greater ↦ λ p. (recursion_from_All (λ z. R y z ≡ Less) (insert_key R ys k) (All-insert_key R k (λ z. R y z ≡ Less) ys (below y ys h.0) (o.antisymm y k ∙ ap ordering_reverse p)), rising_inserted k ys h.1)
  ] refl

  rising_all : (ks names : List K) → IsStrictlySortedBy R ks → IsStrictlySortedBy R (fold (insert_key R) ks names)
  rising_all ks [] h = h
  rising_all ks (name ∷ names) h = rising_all (insert_key R ks name) names (rising_inserted name ks h)

  or_swap : (a b c : Bool) → (a || (b || c)) ≡ (b || (a || c))
  or_swap a b c = sym (or_assoc a b c) ∙ ap (λ d. d || c) (or_comm a b) ∙ or_assoc b a c

  any_inserted : (p : K → Bool) (k : K) (ks : List K) → list_any p (insert_key R ks k) ≡ (p k || list_any p ks)
  any_inserted p k [] = refl
  any_inserted p k (y ∷ ys) = elim (R k y) as (λ r. R k y ≡ r → list_any p (match_ordering r (k ∷ y ∷ ys) (y ∷ ys) (y ∷ insert_key R ys k)) ≡ (p k || (p y || list_any p ys))) [
    | Less ↦ λ e. refl
    | Equal ↦ λ e. ap (λ b. b || list_any p ys) (sym (or_self (p y))) ∙ or_assoc (p y) (p y) (list_any p ys) ∙ sym (ap (λ x. p x || (p y || list_any p ys)) (same k y e))
    | Greater ↦ λ e. ap (λ b. p y || b) (any_inserted p k ys) ∙ or_swap (p y) (p k) (list_any p ys)
  ] refl

  any_all : (p : K → Bool) (ks names : List K) → list_any p (fold (insert_key R) ks names) ≡ (list_any p ks || list_any p names)
  any_all p ks [] = sym (or-false (list_any p ks))
  any_all p ks (name ∷ names) =
      any_all p (insert_key R ks name) names ∙ ap (λ b. b || list_any p names) (any_inserted p name ks) ∙ or_assoc (p name) (list_any p ks) (list_any p names) ∙ or_swap (p name) (list_any p ks) (list_any p names)

  -- the members determine the list
  same_rising : (e : K → K → Bool) → ((x y : K) → e x y ≡ eq_by_cmp R x y) → (xs ys : List K) → IsStrictlySortedBy R xs → IsStrictlySortedBy R ys → ((q : K) → list_any (λ k. e k q) xs ≡ list_any (λ k. e k q) ys) → xs ≡ ys
  same_rising e ties xs ys g h alike =
      let turned : (q k : K) → eq_by_cmp R q k ≡ e k q = λ q k. (eq_by_cmp_equiv o).symm q k ∙ sym (ties k q) in
      btree_set_from_contains o (record { keys = xs }) (record { keys = ys }) g h (λ q. (λ i. list_any (λ k. turned q k i) xs) ∙ alike q ∙ (λ i. list_any (λ k. sym (turned q k) i) ys)) same

-- ---- the numbers of a group

above : (n k : ℕ) (nodes : List NodeRow) (group : List (List ℕ)) → k < n → AllByRecursion (λ m. nat_cmp k m ≡ Less) (numbers_from n nodes group)
above n k [] group h = tt
above n k (node ∷ nodes) group h =
    let next = numbers_from (n + 1) nodes group in let more = above (n + 1) k nodes group (omega (arith, h)) in
    cond_both (is_among node.name group) (n ∷ next) next (AllByRecursion (λ m. nat_cmp k m ≡ Less)) (λ has. (rw (lt-ltb k n h) refl, more)) (λ lacks. more)

rising_numbers : (n : ℕ) (nodes : List NodeRow) (group : List (List ℕ)) → IsStrictlySortedBy nat_cmp (numbers_from n nodes group)
unfolding IsStrictlySortedBy
rising_numbers n [] group = tt
rising_numbers n (node ∷ nodes) group =
    let next = numbers_from (n + 1) nodes group in let more = rising_numbers (n + 1) nodes group in
    cond_both (is_among node.name group) (n ∷ next) next (IsStrictlySortedBy nat_cmp) (λ has. (above (n + 1) n nodes group (omega arith), more)) (λ lacks. more)

no_lesser : (n k : ℕ) (nodes : List NodeRow) (group : List (List ℕ)) → k < n → list_any (λ m. eqb m k) (numbers_from n nodes group) ≡ false
no_lesser n k [] group h = refl
no_lesser n k (node ∷ nodes) group h =
    let next = numbers_from (n + 1) nodes group in let more = no_lesser (n + 1) k nodes group (omega (arith, h)) in
    cond_both (is_among node.name group) (n ∷ next) next (λ ms. list_any (λ m. eqb m k) ms ≡ false) (λ has. rw (ne_eqb n k (λ same. omega (arith, h, same))) more) (λ lacks. more)

members_from : (n k : ℕ) (nodes : List NodeRow) (group : List (List ℕ)) → list_any (λ m. eqb m (n + k)) (numbers_from n nodes group) ≡ is_named group (slice_get nodes k)
members_from n k [] group = refl
members_from n zero (node ∷ nodes) group =
    let next = numbers_from (n + 1) nodes group in let later = no_lesser (n + 1) (n + zero) nodes group (omega arith) in
    cond_both (is_among node.name group) (n ∷ next) next (λ ms. list_any (λ m. eqb m (n + zero)) ms ≡ is_among node.name group) (λ has. rw (eq-eqb n (n + zero) (omega arith)) (sym has)) (λ lacks. later ∙ sym lacks)
members_from n (suc k) (node ∷ nodes) group =
    let next = numbers_from (n + 1) nodes group in let same : n + suc k ≡ (n + 1) + k = omega arith in
    let later = ap (λ j. list_any (λ m. eqb m j) next) same ∙ members_from (n + 1) k nodes group in
    cond_both (is_among node.name group) (n ∷ next) next (λ ms. list_any (λ m. eqb m (n + suc k)) ms ≡ is_named group (slice_get nodes k)) (λ has. rw (ne_eqb n (n + suc k) (λ same. omega (arith, same))) later) (λ lacks. later)

pub group_numbered : (nodes : List NodeRow) (group : List (List ℕ)) → IsGroup nodes group (numbers_from 0 nodes group)
group_numbered nodes group = record {
  rising = rising_numbers 0 nodes group;
  members = λ number. (let from : 0 + number ≡ number = omega arith in ap (λ k. list_any (λ m. eqb m k) (numbers_from 0 nodes group)) (sym from) ∙ members_from 0 number nodes group);
}

-- ---- the numbered table is one of the draft

zip_map : {A B : Type 0} (P : A → B → Type 0) (f : A → B) → ((x : A) → P x (f x)) → (xs : List A) → AllZip P xs (map f xs)
zip_map P f each [] = tt
zip_map P f each (x ∷ xs) = (each x, zip_map P f each xs)

-- the first permission of a name, if any
pub permission_found : (permissions : List Permission) (name : List ℕ) → IsDefaultPermission permissions name (permitted permissions name)
permission_found [] name = inr (refl, refl)
permission_found (p ∷ ps) name =
    cond_both (bytes_eq p.name name) p.value (permitted ps name) (IsDefaultPermission (p ∷ ps) name) (λ h. inl ([], ps, (λ i. record { name = same_name p.name name h i; value = p.value } ∷ ps), refl)) (λ h. behind h (permission_found ps name))
  where
    behind : bytes_eq p.name name ≡ false → IsDefaultPermission ps name (permitted ps name) → IsDefaultPermission (p ∷ ps) name (permitted ps name)
    behind h (inl found) = inl (p ∷ found.0, found.1, ap (λ l. p ∷ l) found.2, rw h found.3)
    behind h (inr none) = inr (rw h none.0, none.1)

app_numbered : (permissions : List Permission) (nodes : List NodeRow) (app : App) → IsApp permissions nodes app (numbered_app permissions nodes app)
app_numbered permissions nodes app = record { name = refl; timeout = refl; groups = zip_map (IsGroup nodes) (numbers_from 0 nodes) (group_numbered nodes) app.groups; permission = permission_found permissions app.name }

pub names_numbered : (w : Written) → map (λ node. node.name) (numbered_nodes w) ≡ in_byte_order w.nodes
names_numbered w = map-map (λ (node : NodeRow). node.name) (numbered_node w) (in_byte_order w.nodes) ∙ map-id (in_byte_order w.nodes)

pub sorted_rising : (names : List (List ℕ)) → IsStrictlySortedBy name_cmp (in_byte_order names)
unfolding IsStrictlySortedBy
sorted_rising names = rising_all nat_list_cmp_total (slice_cmp-IsAntisymmetric nat_cmp-IsAntisymmetric) [] names tt

pub sorted_names : (names : List (List ℕ)) (name : List ℕ) → is_among name (in_byte_order names) ≡ is_among name names
sorted_names names name = any_all nat_list_cmp_total (slice_cmp-IsAntisymmetric nat_cmp-IsAntisymmetric) (λ other. bytes_eq other name) [] names

pub numbered_says : (w : Written) → IsTableOf w (numbered w)
numbered_says w = record {
  rising = subst (IsStrictlySortedBy name_cmp) (sym (names_numbered w)) (sorted_rising w.nodes);
  nodes = λ name. ap (is_among name) (names_numbered w) ∙ sorted_names w.nodes name;
  mandatory = All-map (λ node. node.mandatory ≡ is_among node.name w.mandatory) (numbered_node w) (in_byte_order w.nodes) (λ _ _ _. refl);
  optional = All-map (λ node. node.optional ≡ is_among node.name w.optional) (numbered_node w) (in_byte_order w.nodes) (λ _ _ _. refl);
  apps = zip_map (IsApp w.permissions (numbered_nodes w)) (numbered_app w.permissions (numbered_nodes w)) (app_numbered w.permissions (numbered_nodes w)) w.apps;
  sync_wait = refl;
}

-- ---- it is the only one

zip_same : {A B : Type 0} (P : A → B → Type 0) (f : A → B) → ((x : A) (y : B) → P x y → y ≡ f x) → (xs : List A) (ys : List B) → AllZip P xs ys → ys ≡ map f xs
zip_same P f each xs ys zip = sym (map-id ys) ∙ maps_from_zip P f (λ y. y) each xs ys zip

group_same : (nodes : List NodeRow) (group : List (List ℕ)) (numbers : List ℕ) → IsGroup nodes group numbers → numbers ≡ numbers_from 0 nodes group
group_same nodes group numbers is =
    let one = group_numbered nodes group in
    same_rising nat_cmp_total nat_cmp-IsAntisymmetric eqb unsigned_ties numbers (numbers_from 0 nodes group) is.rising one.rising (λ q. is.members q ∙ sym (one.members q))

-- the first permission of a name determines the result
permission_first : (before after : List Permission) (name : List ℕ) (value : Bool) → IsUnmentioned before name → permitted (before ++ record { name = name; value = value } ∷ after) name ≡ value
permission_first [] after name value none = rw (nat_list_eq_equiv.refl name) refl
permission_first (p ∷ ps) after name value none = let parts = or_parts (bytes_eq p.name name) (is_among name (map (λ q. q.name) ps)) none in rw parts.0 (permission_first ps after name value parts.1)

permission_default : (permissions : List Permission) (name : List ℕ) → IsUnmentioned permissions name → permitted permissions name ≡ true
permission_default [] name none = refl
permission_default (p ∷ ps) name none = let parts = or_parts (bytes_eq p.name name) (is_among name (map (λ q. q.name) ps)) none in rw parts.0 (permission_default ps name parts.1)

permission_same : (permissions : List Permission) (name : List ℕ) (value : Bool) → IsDefaultPermission permissions name value → value ≡ permitted permissions name
permission_same permissions name value (inl found) = sym (ap (λ ps. permitted ps name) found.2 ∙ permission_first found.0 found.1 name value found.3)
permission_same permissions name value (inr none) = none.1 ∙ sym (permission_default permissions name none.0)

app_same : (permissions : List Permission) (nodes : List NodeRow) (app : App) (row : AppRow) → IsApp permissions nodes app row → row ≡ numbered_app permissions nodes app
app_same permissions nodes app row is =
    let permission = permission_same permissions app.name row.permission is.permission in
    let groups = zip_same (IsGroup nodes) (numbers_from 0 nodes) (group_same nodes) app.groups row.groups is.groups in
    λ i. record { name = is.name i; timeout = is.timeout i; groups = groups i; permission = permission i }

rows_same : (w : Written) (rows : List NodeRow) → All (λ node. node.mandatory ≡ is_among node.name w.mandatory) rows → All (λ node. node.optional ≡ is_among node.name w.optional) rows
    → rows ≡ map (numbered_node w) (map (λ node. node.name) rows)
rows_same w [] mandatory optional = refl
rows_same w (row ∷ rows) mandatory optional =
    let m = All-head (λ node. node.mandatory ≡ is_among node.name w.mandatory) row rows mandatory in
    let o = All-head (λ node. node.optional ≡ is_among node.name w.optional) row rows optional in
    let rest = rows_same w rows (All-tail (λ node. node.mandatory ≡ is_among node.name w.mandatory) row rows mandatory) (All-tail (λ node. node.optional ≡ is_among node.name w.optional) row rows optional) in
    λ i. record { name = row.name; mandatory = m i; optional = o i } ∷ rest i

-- a table of the draft is the numbered one
pub table_same : (w : Written) (table : Table) → IsTableOf w table → table ≡ numbered w
table_same w table is =
    let one = numbered_says w in
    let names : map (λ node. node.name) table.nodes ≡ in_byte_order w.nodes =
    same_rising nat_list_cmp_total (slice_cmp-IsAntisymmetric nat_cmp-IsAntisymmetric) bytes_eq texts_ties (map (λ node. node.name) table.nodes) (map (λ node. node.name) (numbered_nodes w)) is.rising one.rising (λ q. is.nodes q ∙ sym (one.nodes q))
    ∙ names_numbered w in
    let nodes : table.nodes ≡ numbered_nodes w = rows_same w table.nodes is.mandatory is.optional ∙ ap (map (numbered_node w)) names in
    let apps : table.apps ≡ map (numbered_app w.permissions (numbered_nodes w)) w.apps = zip_same (IsApp w.permissions table.nodes) (numbered_app w.permissions table.nodes) (app_same w.permissions table.nodes) w.apps table.apps is.apps ∙ ap (λ rows. map (numbered_app w.permissions rows) w.apps) nodes in
    λ i. record { nodes = nodes i; apps = apps i; sync_wait = is.sync_wait i }

-- ---- its limits

length-insert_key : (ks : List (List ℕ)) (k : List ℕ) → length (insert_key name_cmp ks k) ≤ suc (length ks)
length-insert_key [] k = omega arith
length-insert_key (x ∷ xs) k =
    let one = length-insert_key xs k in
    elim (name_cmp k x) as (λ r. length (match_ordering r (k ∷ x ∷ xs) (x ∷ xs) (x ∷ insert_key name_cmp xs k)) ≤ suc (suc (length xs))) [
      | Less ↦ omega arith
      | Equal ↦ omega arith
      | Greater ↦ omega (arith, one)
    ]

length-inserted : (ks names : List (List ℕ)) → length (fold (insert_key name_cmp) ks names) ≤ length ks + length names
length-inserted ks [] = omega arith
length-inserted ks (name ∷ names) = omega (arith, length-inserted (insert_key name_cmp ks name) names, length-insert_key ks name)

-- there are no more nodes than names
pub few_numbered : (w : Written) (nodes : List Node) → length w.nodes ≤ MAX_NODES → map node_row nodes ≡ numbered_nodes w → length nodes ≤ MAX_NODES
few_numbered w nodes few rows =
    omega (arith, few, length-inserted [] w.nodes, length-map nodes node_row, ap length rows, length-map (in_byte_order w.nodes) (numbered_node w))

-- only numbers of these nodes result
numbers_below : (n limit : ℕ) (nodes : List NodeRow) (group : List (List ℕ)) → n + length nodes ≤ limit → All (λ m. m < limit) (numbers_from n nodes group)
numbers_below n limit [] group h = All-nil (λ m. m < limit)
numbers_below n limit (node ∷ nodes) group h =
    let next = numbers_from (n + 1) nodes group in let more = numbers_below (n + 1) limit nodes group (omega (arith, h)) in
    cond_both (is_among node.name group) (n ∷ next) next (All (λ m. m < limit)) (λ has. All-cons (λ m. m < limit) n next (omega (arith, h)) more) (λ lacks. more)

pub members_numbered : (nodes : List Node) (groups : List (List (List ℕ))) → All (All (λ number. number < length nodes)) (map (numbers_from 0 (map node_row nodes)) groups)
members_numbered nodes groups =
    let below : ℕ → Type 0 = λ number. number < length nodes in
    All-map (All below) (numbers_from 0 (map node_row nodes)) groups (λ i d _. numbers_below 0 (length nodes) (map node_row nodes) (get_or groups i d) (omega (arith, length-map nodes node_row)))

-- the numbered configuration keeps the limits
pub small_numbered : (w : Written) → IsWithinLimits w → (text : List ℕ) × IsTextOf text w → IsTable (numbered w)
small_numbered w limits spelled = record {
  nodes = omega (arith, limits.few, length-inserted [] w.nodes, length-map (in_byte_order w.nodes) (numbered_node w));
  apps = omega (arith, limits.apps.few, length-map w.apps (numbered_app w.permissions (numbered_nodes w)));
  groups = All-map (λ row. length row.groups ≤ MAX_NODES) (numbered_app w.permissions (numbered_nodes w)) w.apps (λ i d within. subst (λ n. n ≤ MAX_NODES) (sym (length-map (get_or w.apps i d).groups (numbers_from 0 (numbered_nodes w)))) (limits.groups i d within));
  members = (let below : ℕ → Type 0 = λ number. number < length (numbered_nodes w) in
      All-map (λ row. All (λ group. All below group) row.groups) (numbered_app w.permissions (numbered_nodes w)) w.apps (λ i d _.
      All-map (All below) (numbers_from 0 (numbered_nodes w)) (get_or w.apps i d).groups (λ j e _. numbers_below 0 (length (numbered_nodes w)) (numbered_nodes w) (get_or (get_or w.apps i d).groups j e) (omega arith))));
  said = By spelled.0 (record { written = w; spelled = spelled.1; numbers = numbered_says w }) limits;
}

-- one more node, whose number is included if the group contains its name
pub numbers_more : (ns new : List ℕ) (i : ℕ) (nodes : List Node) (node : Node) (group : List (List ℕ)) (total : List ℕ) (named : Bool) → node ≡ get_or nodes i node → i < length nodes → named ≡ is_among node.name.items group → new ≡ cond named (ns ++ i ∷ []) ns
    → ns ++ numbers_from i (map node_row (drop i nodes)) group ≡ total → new ++ numbers_from (i + 1) (map node_row (drop (i + 1) nodes)) group ≡ total
numbers_more ns new i nodes node group total named here within tells is h =
    let next = numbers_from (i + 1) (map node_row (drop (i + 1) nodes)) group in
    let left : numbers_from i (map node_row (drop i nodes)) group ≡ cond named (i ∷ next) next = rw (drop_more nodes i node within, ← here, tells) refl in
    ap (λ l. l ++ next) is ∙ by named next ∙ ap (λ l. ns ++ l) (sym left) ∙ h
  where
    by : (b : Bool) (next : List ℕ) → cond b (ns ++ i ∷ []) ns ++ next ≡ ns ++ cond b (i ∷ next) next
    by true next = append_assoc ns (i ∷ []) next
    by false next = refl

-- tables with numbered nodes and applications are the configuration of the draft
pub table_numbered : (w : Written) (c : Tables) → map node_row c.nodes.items ≡ numbered_nodes w → map app_row c.apps.entries ≡ map (numbered_app w.permissions (map node_row c.nodes.items)) w.apps → c.sync_wait ≡ w.sync_wait → table_of c ≡ numbered w
table_numbered w c rows apps wait =
    let through : map app_row c.apps.entries ≡ map (numbered_app w.permissions (numbered_nodes w)) w.apps = apps ∙ ap (λ rs. map (numbered_app w.permissions rs) w.apps) rows in
    λ i. record { nodes = rows i; apps = through i; sync_wait = wait i }

-- ---- sorting and removing duplicates

-- the order of names doesn't depend on where they are in memory
names_deduped : (names : List (Bor (List ℕ))) → names_of (dedup (λ a b. bytes_eq a.now b.now) names) ≡ dedup bytes_eq (names_of names)
names_deduped [] = refl
names_deduped (k ∷ []) = refl
names_deduped (k ∷ x ∷ xs) =
    cond_both (bytes_eq x.now k.now) (dedup_from (λ a b. bytes_eq a.now b.now) k xs) (k ∷ dedup_from (λ a b. bytes_eq a.now b.now) x xs) (λ ys. names_of ys ≡ dedup_from bytes_eq k.now (x.now ∷ names_of xs))
    (λ same. rw same (names_deduped (k ∷ xs))) (λ new. rw new (ap (λ ys. k.now ∷ ys) (names_deduped (x ∷ xs))))

names_sorted : (xs : List (Bor (List ℕ))) → IsSorted (λ a b. name_cmp a.now b.now) xs → IsSorted name_cmp (names_of xs)
names_sorted xs up = λ k d low within.
    let inside : k + 1 < length xs = omega (arith, within, length-map xs (λ name. name.now)) in let one : Bor (List ℕ) = record { ref_ptr = (0, 0); now = d } in
    rw (get_or-map (λ name. name.now) xs (k + 1) one d inside, get_or-map (λ name. name.now) xs k one d (omega (arith, inside))) (up k one low inside)

pub sorted_once : (names sorted kept : List (Bor (List ℕ))) → IsPermutation names sorted → IsSorted (λ a b. name_cmp a.now b.now) sorted → IsFiltered (DiffersFromLast (λ a b. bytes_eq a.now b.now)) [] sorted kept
    → names_of kept ≡ in_byte_order (names_of names)
sorted_once names sorted kept same order filtered =
    let ns = names_of sorted in let rising = IsStrictlySortedBy-dedup nat_list_cmp_total texts_ties ns (names_sorted sorted order) in
    let members : (name : List ℕ) → is_among name (dedup bytes_eq ns) ≡ is_among name (names_of names) = λ name.
    both_ways (is_among name (dedup bytes_eq ns)) (is_among name ns) (λ h. list_any-from_Contains names_equal name ns (Contains-from_dedup bytes_eq ns name (contained name (dedup bytes_eq ns) h)))
    (λ h. list_any-from_Contains names_equal name (dedup bytes_eq ns) (Contains-dedup nat_list_eq_equiv same_name ns name (contained name ns h)))
    ∙ sym (among_names name names ∙ list_any-IsPermutation (λ other. bytes_eq other.now name) names sorted same ∙ sym (among_names name sorted)) in
    ap names_of (dedup_is (λ a b. bytes_eq a.now b.now) sorted kept filtered) ∙ names_deduped sorted
    ∙ same_rising nat_list_cmp_total (slice_cmp-IsAntisymmetric nat_cmp-IsAntisymmetric) bytes_eq texts_ties (dedup bytes_eq ns) (in_byte_order (names_of names)) rising (sorted_rising (names_of names)) (λ name. members name ∙ sym (sorted_names (names_of names) name))
