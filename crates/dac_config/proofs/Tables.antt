-- The tables of a configuration: lookups by number and by name, construction, and copies.
use Rattle.std.proofs.Common.{◌≡◌, ℕ, ◌+◌, ◌<◌, drop, get_or, Bool, false, cond, not, List, [], ◌∷◌, ◌++◌, length, map, All, Bor, bytes_eq, position, Option, Some, None, option_map, slice_get, refl, sym, ap, subst, ◌∙◌, append_assoc, append-nil}
use Rattle.dac_config.proofs.Common.{Vec, prefix_len, position_from, or_parts, nat_list_eq_equiv, drop_more, length-map, map_push, All-push, is_among, Tables, NodeRow, AppRow, Table, node_name, app_named, node_row, named_row, app_row, table_of, HasMembersBelow, groups_in, ArePlaces, IsPlaced}
use Rattle.std.specs.Map.{keys_of, lookup}
use Rattle.std.specs.Map.Iter.{deref_pair}
use Rattle.std.proofs.lemmas.Option.{slice_get-map, slice_get-get_or, slice_get_within, get_or_from_slice_get}
use Rattle.indexmap.specs.IndexMap.{IndexMap, insert_entry}
use Rattle.indexmap.proofs.CallerLemmas.{insert_entry-new}
use Rattle.dac_config.specs.declared.config.App.{App}
use Rattle.dac_config.specs.declared.config.Node.{Node}
use Rattle.dac_config.proofs.Names.{Differ, all_mapped}

prefix_len-map : {A B : Type 0} (f : A → B) (p : B → Bool) (xs : List A) → prefix_len p (map f xs) ≡ prefix_len (λ x. p (f x)) xs
prefix_len-map f p [] = refl
prefix_len-map f p (x ∷ xs) = ap (λ n. cond (p (f x)) (1 + n) 0) (prefix_len-map f p xs)

-- the index in a mapped list
pub position-map : {A B : Type 0} (f : A → B) (p : B → Bool) (xs : List A) → position p (map f xs) ≡ position (λ x. p (f x)) xs
position-map f p xs = rw (prefix_len-map f (λ x. not (p x)) xs, length-map xs f) refl

-- a property of all elements holds of the one at an index
pub all_at : {X : Type 0} (P : X → Type 0) (xs : List X) (i : ℕ) (x : X) → All P xs → slice_get xs i ≡ Some x → P x
all_at P xs i x all e = subst P (get_or_from_slice_get xs i x x e) (all i x (slice_get_within xs i x e))

-- ---- the tables as rows

-- the node and the application at an index
pub node_within : (c : Tables) (table : Table) → table_of c ≡ table → (i : ℕ) → i < length table.nodes → i < length c.nodes.items
node_within c table is i within = subst (λ n. i < n) (ap (λ (t : Table). length t.nodes) (sym is) ∙ length-map c.nodes.items node_row) within

pub node_kept : (c : Tables) (table : Table) → table_of c ≡ table → (i : ℕ) (node : Node) → node ≡ get_or c.nodes.items i node → i < length table.nodes → slice_get table.nodes i ≡ Some (node_row node)
node_kept c table is i node here within =
    subst (λ (t : Table). slice_get t.nodes i ≡ Some (node_row node)) is
    (slice_get-map node_row c.nodes.items i ∙ ap (option_map node_row) (slice_get-get_or c.nodes.items i node (node_within c table is i within)) ∙ ap (λ n. Some (node_row n)) (sym here))

pub entry_kept : (c : Tables) (table : Table) → table_of c ≡ table → (i : ℕ) (got : Option (Bor (Vec ℕ) × Bor App)) (entry : Bor (Vec ℕ) × Bor App) → option_map deref_pair got ≡ slice_get c.apps.entries i → got ≡ Some entry → slice_get table.apps i ≡ Some (app_row (deref_pair entry))
entry_kept c table is i got entry same was =
    subst (λ (t : Table). slice_get t.apps i ≡ Some (app_row (deref_pair entry))) is (slice_get-map app_row c.apps.entries i ∙ ap (option_map app_row) (sym same ∙ ap (option_map deref_pair) was))

-- the rest of a list from an index
pub left_from : {X : Type 0} (xs : List X) (i : ℕ) (x : X) → x ≡ get_or xs i x → i < length xs → drop i xs ≡ x ∷ drop (i + 1) xs
left_from xs i x here within = drop_more xs i x within ∙ ap (λ y. y ∷ drop (i + 1) xs) (sym here)

pub left_at : {X : Type 0} (xs : List X) (i : ℕ) (x : X) → slice_get xs i ≡ Some x → drop i xs ≡ x ∷ drop (i + 1) xs
left_at xs i x here = left_from xs i x (sym (get_or_from_slice_get xs i x x here)) (slice_get_within xs i x here)

-- the first node of a name, from an index whose node has this name
pub node_from : (name : List ℕ) (table : Table) (i : ℕ) (here : List ℕ) → i < length table.nodes → here ≡ node_name table (record { 0 = i })
    → position_from (λ row. bytes_eq name row.name) i (drop i table.nodes) ≡ cond (bytes_eq name here) (Some i) (position_from (λ row. bytes_eq name row.name) (i + 1) (drop (i + 1) table.nodes))
node_from name table i here within is =
    let row : NodeRow = record { name = []; mandatory = false; optional = false } in
    rw (is, drop_more table.nodes i row within, slice_get-get_or table.nodes i row within) refl

-- the application at an index that was found
pub app_found : (c : Tables) (table : Table) → table_of c ≡ table → (name : List ℕ) (at : Option ℕ) → at ≡ position (λ key. bytes_eq name key.items) (keys_of c.apps.entries) → app_named table name ≡ option_map (λ place. record { 0 = place }) at
app_found c table is name at place =
    ap (λ (t : Table). app_named t name) (sym is)
    ∙ ap (option_map (λ place. record { 0 = place })) (position-map app_row (λ row. bytes_eq name row.name) c.apps.entries ∙ sym (place ∙ position-map (λ entry. entry.0) (λ key. bytes_eq name key.items) c.apps.entries))

-- the groups of an application contain only existing nodes
pub kept_members : (count : ℕ) (apps : List AppRow) (i : ℕ) (name : List ℕ) (app : App) → All (λ row. All (λ group. All (λ node. node < count) group) row.groups) apps → slice_get apps i ≡ Some (named_row name app) → HasMembersBelow count app
kept_members count apps i name app members e =
    let Below : List ℕ → Type 0 = All (λ node. node < count) in
    all_mapped Below (λ group. group.items) app.groups.items (all_at (λ (row : AppRow). All Below row.groups) apps i (named_row name app) members e)

-- ---- rows are appended to a list

pub row_pushed : {B : Type 0} (rows : List B) (row : B) (new left rest total : List B) → new ≡ rows ++ row ∷ [] → left ≡ row ∷ rest → rows ++ left ≡ total → new ++ rest ≡ total
row_pushed rows row new left rest total is next so_far = ap (λ ys. ys ++ rest) is ∙ append_assoc rows (row ∷ []) rest ∙ ap (λ ys. rows ++ ys) (sym next) ∙ so_far

pub one_pushed : {A B : Type 0} (f : A → B) (xs : List A) (x : A) (new : List A) (row : B) (left rest total : List B) → new ≡ xs ++ x ∷ [] → f x ≡ row → left ≡ row ∷ rest → map f xs ++ left ≡ total → map f new ++ rest ≡ total
one_pushed f xs x new row left rest total is same next so_far = row_pushed (map f xs) row (map f new) left rest total (ap (map f) is ∙ map_push f xs x ∙ ap (λ r. map f xs ++ r ∷ []) same) next so_far

pub all_pushed : {B : Type 0} (rows left total : List B) → left ≡ [] → rows ++ left ≡ total → rows ≡ total
all_pushed rows left total none all = sym (append-nil rows) ∙ ap (λ ys. rows ++ ys) (sym none) ∙ all

-- ---- applications are added to the table

abbrev same_name : Vec ℕ → Vec ℕ → Bool
same_name a b = bytes_eq a.items b.items

absent : (name : Vec ℕ) (es : List (Vec ℕ × App)) → is_among name.items (map (λ row. row.name) (map app_row es)) ≡ false → lookup (same_name name) es ≡ None
absent name [] h = refl
absent name (e ∷ es) h = let parts = or_parts (bytes_eq e.0.items name.items) (is_among name.items (map (λ row. row.name) (map app_row es))) h in rw (nat_list_eq_equiv.symm name.items e.0.items, parts.0) (absent name es parts.1)

-- a new application is added last
pub app_added : {S : Type 0} (m : IndexMap (Vec ℕ) App S) (name : Vec ℕ) (app : App) (new : List (Vec ℕ × App)) (row : AppRow) → is_among row.name (map (λ row. row.name) (map app_row m.entries)) ≡ false → app_row (name, app) ≡ row
    → new ≡ insert_entry same_name m.entries name app → map app_row new ≡ map app_row m.entries ++ row ∷ []
app_added m name app new row none same is =
    ap (map app_row) (is ∙ insert_entry-new same_name m name app (absent name m.entries (ap (λ (r : AppRow). is_among r.name (map (λ row. row.name) (map app_row m.entries))) same ∙ none)))
    ∙ map_push app_row m.entries (name, app) ∙ ap (λ r. map app_row m.entries ++ r ∷ []) same

pub place_added : {S : Type 0} (m : IndexMap (Vec ℕ) App S) (name : Vec ℕ) (app : App) (new : List (Vec ℕ × App)) (row : AppRow) → is_among row.name (map (λ row. row.name) (map app_row m.entries)) ≡ false → app_row (name, app) ≡ row
    → new ≡ insert_entry same_name m.entries name app → ArePlaces app.places.items (groups_in app) → All IsPlaced m.entries → All IsPlaced new
place_added m name app new row none same is placed all =
    subst (All IsPlaced) (sym (is ∙ insert_entry-new same_name m name app (absent name m.entries (ap (λ (r : AppRow). is_among r.name (map (λ row. row.name) (map app_row m.entries))) same ∙ none))))
    (All-push IsPlaced m.entries (name, app) all placed)

-- the names of the remaining applications are still new
pub still_new : (rows new : List AppRow) (row : AppRow) (names : List (List ℕ)) → new ≡ rows ++ row ∷ [] → Differ (map (λ row. row.name) rows ++ row.name ∷ names) → Differ (map (λ row. row.name) new ++ names)
still_new rows new row names is once = subst Differ (sym (ap (λ (met : List (List ℕ)). met ++ names) (ap (map (λ row. row.name)) is ∙ map_push (λ row. row.name) rows row) ∙ append_assoc (map (λ row. row.name) rows) (row.name ∷ []) names)) once
