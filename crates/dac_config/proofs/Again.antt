-- The canonical text spells the same configuration: drafts can be spelled, each of their nodes occurs in a parameter,
-- and the canonical draft has the same table.
use Rattle.std.proofs.Common.{◌≡◌, ◌≢◌, ℕ, ◌+◌, ◌<◌, ◌≤◌, Bool, true, false, cond, not, ◌||◌, ◌&&◌, List, [], ◌∷◌, ◌++◌, length, map, get_or, filter, count_by, All, bytes_eq, ⊎_elim, refl, sym, ap, subst, ◌∙◌, arith, append_assoc, append-nil}
use Rattle.dac_config.proofs.Common.{AllZip, IsDistinct, or-true, or-false, and-true, and-or_distrib_right, and_parts, and_from, cond_both, or_cases, or_left, or_right, length-map, length-append, All-head, All-tail, All-append, All-map, All-filter, All-weaker, All-from_recursion, recursion_from_All, App, Permission, Param, Distributed, Permissions, Mandatory, Optional, Timeout, Kernel, Written, name_of, put, put_all, unsaid, written, is_among, is_named, IsFile, IsTextOf, joined, params_in, names_of_app, names_of_param, names_in, nodes_in, AreAppsWithin, IsValueWithin, AreWithinLimits, IsWithinLimits, NodeRow, AppRow, Table, canonical_text, name_cmp, numbers_from, numbered_node, numbered_nodes, permitted, numbered_app, numbered, in_byte_order, IsGroup, IsDefaultPermission, IsApp, IsTableOf, IsConfigOf, IsSaid, By}
use Rattle.std.specs.List.{AllByRecursion as Each}
use Rattle.std.proofs.lemmas.List.Kept.{IsStrictlySortedBy-filter}
use Rattle.std.proofs.lemmas.List.Sums.{sum_by-cons}
use Rattle.std.proofs.lemmas.Map.Keys.{IsDistinct-from_sorted}
use Rattle.std.proofs.lemmas.Map.Text.{is_eq-slice_cmp}
use Rattle.std.proofs.lemmas.Simd.{map-map}
use Rattle.dac_tokens.specs.TokenGrammar.{IsQuotable}
use Rattle.dac_shapes.specs.declared.draft.SyncWait.{SyncWait}
use Rattle.dac_shapes.specs.declared.draft.SyncWait.TheVariants.{NoSync, Forever, Ms}
use Rattle.dac_shapes.specs.declared.param.ParamName.{ParamName}
use Rattle.dac_shapes.specs.declared.param.ParamName.TheVariants as named
use Rattle.dac_shapes.specs.laws.Params.{put_params, nodes_stay}
use Rattle.dac_config.proofs.Names.{Within, first_among, later_among, among_append, among_all, all_among, named_in, among_named, all_parts, all_joined, joined_all, all_mapped, among_firsts, few_firsts, Differ, differ_joined, same_name}
use Rattle.dac_config.proofs.Numbers.{group_numbered, permission_found, names_numbered, sorted_rising, sorted_names, numbered_says, table_same}
use Rattle.dac_config.proofs.Writes.{CanSpellGroup, CanSpellApp, CanSpellWait, CanSpell, name_at, written_app, ban, written_bans, wait_params, params_of, file_written, file_spells}

-- the parameters that yield this draft, except permissions
abbrev said_params : Written → List Param
said_params w = Distributed w.apps ∷ Mandatory w.mandatory ∷ Optional w.optional ∷ wait_params w.sync_wait

-- the names of nodes in the draft
abbrev said_names : Written → List (List ℕ)
said_names w = joined (map names_of_app w.apps) ++ (w.mandatory ++ w.optional)

record Known (w : Written) : Type 0 where
  limits : IsWithinLimits w
  spells : Each CanSpell (said_params w)
  said : Within w.nodes (said_names w)
  some : length w.apps ≢ 0

-- ---- a draft can be spelled

wait_spells : (wait : SyncWait) → CanSpellWait wait → Each CanSpell (wait_params wait)
wait_spells NoSync can = tt
wait_spells Forever can = (tt, tt)
wait_spells (Ms n) can = (can, tt)

put_spells : (w : Written) (param : Param) → CanSpell param → Each CanSpell (said_params w) → Each CanSpell (said_params (put w param))
put_spells w (Distributed apps) can h = (can, h.1)
put_spells w (Mandatory names) can h = (h.0, (can, h.1.1))
put_spells w (Optional names) can h = (h.0, (h.1.0, (can, h.1.1.1)))
put_spells w (Timeout wait) can h = (h.0, (h.1.0, (h.1.1.0, wait_spells wait can)))
put_spells w _ can h = h

all_spell : (w : Written) (params : List Param) → Each CanSpell params → Each CanSpell (said_params w) → Each CanSpell (said_params (put_all w params))
all_spell w [] can h = h
all_spell w (param ∷ params) can h = all_spell (put w param) params can.1 (put_spells w param can.0 h)

-- ---- each node occurs in a parameter

-- the value of the parameter of this name contains the node
abbrev Says : List ℕ → ParamName → Written → Type 0
Says name named.Distributed w = is_among name (joined (map names_of_app w.apps)) ≡ true
Says name named.Mandatory w = is_among name w.mandatory ≡ true
Says name named.Optional w = is_among name w.optional ≡ true
Says name _ w = ⊥

abbrev count_of : ParamName → List Param → ℕ
count_of n params = count_by (λ param. is_named n (name_of param)) params

param_says : (name : List ℕ) (w : Written) (param : Param) → is_among name (names_of_param param) ≡ true → (n : ParamName) × (is_named n (name_of param) ≡ true) × Says name n (put w param)
param_says name w (Distributed apps) h = (named.Distributed, refl, h)
param_says name w (Mandatory names) h = (named.Mandatory, refl, h)
param_says name w (Optional names) h = (named.Optional, refl, h)
param_says name w _ h = absurd cc

-- a parameter of another name changes nothing
still_says : (name : List ℕ) (n : ParamName) (w : Written) (param : Param) → is_named n (name_of param) ≡ false → Says name n w → Says name n (put w param)
still_says name named.Distributed w (Distributed apps) other h = absurd cc
still_says name named.Mandatory w (Mandatory names) other h = absurd cc
still_says name named.Optional w (Optional names) other h = absurd cc
still_says name _ w _ other h = h

none_left : (b : Bool) (n : ℕ) → cond b 1 0 + n ≡ 0 → (b ≡ false) × (n ≡ 0)
none_left true n h = absurd (omega (arith, h))
none_left false n h = (refl, omega (arith, h))

says_on : (name : List ℕ) (n : ParamName) (w : Written) (params : List Param) → count_of n params ≡ 0 → Says name n w → Says name n (put_all w params)
says_on name n w [] none h = h
says_on name n w (param ∷ params) none h =
    let left = none_left (is_named n (name_of param)) (count_of n params) (sym (sum_by-cons (λ (p : Param). cond (is_named n (name_of p)) 1 0) param params) ∙ none) in
    says_on name n (put w param) params left.1 (still_says name n w param left.0 h)

says_names : (name : List ℕ) (n : ParamName) (w : Written) → Says name n w → is_among name (said_names w) ≡ true
says_names name n w h =
    let apps = joined (map names_of_app w.apps) in
    among_append name apps (w.mandatory ++ w.optional) ∙ ap (λ b. is_among name apps || b) (among_append name w.mandatory w.optional) ∙ by n h
  where
    by : (m : ParamName) → Says name m w → (is_among name (joined (map names_of_app w.apps)) || (is_among name w.mandatory || is_among name w.optional)) ≡ true
    by named.Distributed k = or_left _ _ k
    by named.Mandatory k = or_right _ _ (or_left _ _ k)
    by named.Optional k = or_right _ _ (or_right _ _ k)
    by _ k = absurd k

-- if each parameter occurs once, every node in a parameter is in the draft
all_said : (name : List ℕ) (w : Written) (params : List Param) → ((n : ParamName) → count_of n params ≤ 1) → is_among name (joined (map names_of_param params)) ≡ true → is_among name (said_names (put_all w params)) ≡ true
all_said name w [] once h = absurd cc
all_said name w (param ∷ params) once h =
    let rest = joined (map names_of_param params) in
    let count = λ (n : ParamName). sum_by-cons (λ (p : Param). cond (is_named n (name_of p)) 1 0) param params in
    ⊎_elim
    (λ here. (let s = param_says name w param here in
    let none : count_of s.0 params ≡ 0 = omega (arith, once s.0, count s.0, ap {B = ℕ} (λ b. cond b 1 0) s.1) in
    says_names name s.0 (put_all w (param ∷ params)) (says_on name s.0 (put w param) params none s.2)))
    (λ later. all_said name (put w param) params (λ n. omega (arith, once n, count n)) later)
    (or_cases (is_among name (names_of_param param)) (is_among name rest) (sym (among_append name (names_of_param param) rest) ∙ h))

-- ---- the facts about a draft

known : (text : List ℕ) (w : Written) → IsTextOf text w → IsWithinLimits w → Known w
known text w is limits =
    let start = unsaid (nodes_in is.sections) in
    let params = params_in is.sections in
    let says : w ≡ put_all start params = is.says ∙ put_params start is.sections in
    let nodes : w.nodes ≡ nodes_in is.sections = ap (λ (v : Written). v.nodes) says ∙ nodes_stay start params in
    record {
      limits = limits;
      spells = subst (λ (v : Written). Each CanSpell (said_params v)) (sym says) (all_spell start params (file_spells text is.tokens is.sections is.spelled.spelled is.file) (tt, (tt, (tt, tt))));
      said = λ name h. ap (λ (v : Written). is_among name (said_names v)) says ∙ all_said name start params is.within.params (sym (among_firsts name (names_in is.sections)) ∙ ap (is_among name) (sym nodes) ∙ h);
      some = is.some;
    }

-- ---- the canonical draft

abbrev sorted : Written → List (List ℕ)
sorted w = in_byte_order w.nodes

-- an application with the nodes of each group in byte order
abbrev app_again : Written → App → App
app_again w app = record { name = app.name; timeout = app.timeout; groups = map (named_in (sorted w)) app.groups }

abbrev params_again : Written → List Param
params_again w =
    Distributed (map (app_again w) w.apps) ∷ Permissions (written_bans (numbered w).apps) ∷ Mandatory (named_in (sorted w) w.mandatory) ∷ Optional (named_in (sorted w) w.optional) ∷ wait_params w.sync_wait

-- ---- names of numbered nodes

abbrev row_names : List NodeRow → List (List ℕ)
row_names rows = map (λ row. row.name) rows

row_here : (before rows : List NodeRow) (row : NodeRow) → name_at (before ++ row ∷ rows) (length before) ≡ row.name
row_here [] rows row = refl
row_here (b ∷ before) rows row = row_here before rows row

names_from : (before rows : List NodeRow) (group : List (List ℕ)) → map (name_at (before ++ rows)) (numbers_from (length before) rows group) ≡ named_in (row_names rows) group
names_from before [] group = refl
names_from before (row ∷ rows) group =
    let all : List NodeRow = before ++ row ∷ rows in
    let next = numbers_from (length before + 1) rows group in
    let further : length (before ++ row ∷ []) ≡ length before + 1 = length-append before (row ∷ []) in
    let later : map (name_at all) next ≡ named_in (row_names rows) group =
    sym (λ i. map (name_at (append_assoc before (row ∷ []) rows i)) (numbers_from (further i) rows group)) ∙ names_from (before ++ row ∷ []) rows group in
    let here = row_here before rows row in
    cond_both (is_among row.name group) (length before ∷ next) next (λ ns. map (name_at all) ns ≡ named_in (row_names (row ∷ rows)) group) (λ has. rw has (λ i. here i ∷ later i)) (λ lacks. rw lacks later)

groups_named : (w : Written) (groups : List (List (List ℕ))) → map (map (name_at (numbered_nodes w))) (map (numbers_from 0 (numbered_nodes w)) groups) ≡ map (named_in (sorted w)) groups
groups_named w groups =
    let one : (group : List (List ℕ)) → map (name_at (numbered_nodes w)) (numbers_from 0 (numbered_nodes w) group) ≡ named_in (sorted w) group = λ group. names_from [] (numbered_nodes w) group ∙ ap (λ names. named_in names group) (names_numbered w) in
    map-map (map (name_at (numbered_nodes w))) (numbers_from 0 (numbered_nodes w)) groups ∙ (λ i. map (λ group. one group i) groups)

apps_named : (w : Written) (apps : List App) → map (written_app (numbered_nodes w)) (map (numbered_app w.permissions (numbered_nodes w)) apps) ≡ map (app_again w) apps
apps_named w apps =
    map-map (written_app (numbered_nodes w)) (numbered_app w.permissions (numbered_nodes w)) apps ∙ (λ i. map (λ (app : App). record { name = app.name; timeout = app.timeout; groups = groups_named w app.groups i }) apps)

names_kept : (w : Written) (p : NodeRow → Bool) (names : List (List ℕ)) → row_names (filter p (map (numbered_node w) names)) ≡ filter (λ name. p (numbered_node w name)) names
names_kept w p [] = refl
names_kept w p (name ∷ names) =
    let rows = filter p (map (numbered_node w) names) in let later = names_kept w p names in
    cond_both (p (numbered_node w name)) (numbered_node w name ∷ rows) rows (λ rs. row_names rs ≡ filter (λ n. p (numbered_node w n)) (name ∷ names)) (λ has. rw has (λ i. name ∷ later i)) (λ lacks. rw lacks later)

params_named : (w : Written) → params_of (numbered w) ≡ params_again w
params_named w =
    let apps = apps_named w w.apps in
    let mandatory = names_kept w (λ row. row.mandatory) (sorted w) in
    let optional = names_kept w (λ row. row.optional) (sorted w) in
    λ i. Distributed (apps i) ∷ Permissions (written_bans (numbered w).apps) ∷ Mandatory (mandatory i) ∷ Optional (optional i) ∷ wait_params w.sync_wait

-- a property of all applications' names holds of those that aren't permitted
all_bans : (w : Written) (P : List ℕ → Type 0) → All (λ app. P app.name) w.apps → All (λ permission. P permission.name) (written_bans (numbered w).apps)
all_bans w P all =
    All-map (λ permission. P permission.name) ban (filter (λ row. not row.permission) (numbered w).apps)
    (All-filter (λ row. not row.permission) (λ row. P row.name) (numbered w).apps (All-map (λ row. P row.name) (numbered_app w.permissions (numbered_nodes w)) w.apps all))

module _ (w : Written) (know : Known w) where
  -- ---- the canonical draft can be spelled

  node_sorted : (name : List ℕ) → is_among name w.nodes ≡ true → is_among name (sorted w) ≡ true
  node_sorted name h = sorted_names w.nodes name ∙ h

  apps_spell : All CanSpellApp w.apps
  apps_spell = All-from_recursion CanSpellApp w.apps know.spells.0

  quotable : All (All IsQuotable) (sorted w)
  quotable =
      let Quotable : List ℕ → Type 0 = All IsQuotable in
      let groups : (app : App) → CanSpellApp app → All Quotable (names_of_app app) = λ app can.
      all_joined Quotable app.groups (All-weaker CanSpellGroup (All Quotable) (λ group c. All-from_recursion Quotable group c.names) app.groups (All-from_recursion CanSpellGroup app.groups can.groups)) in
      let apps = all_joined Quotable (map names_of_app w.apps) (All-map (All Quotable) names_of_app w.apps (All-weaker CanSpellApp (λ app. All Quotable (names_of_app app)) groups w.apps apps_spell)) in
      let said = All-append Quotable (joined (map names_of_app w.apps)) (w.mandatory ++ w.optional) apps (All-append Quotable w.mandatory w.optional (All-from_recursion Quotable w.mandatory know.spells.1.0) (All-from_recursion Quotable w.optional know.spells.1.1.0)) in
      all_among Quotable (sorted w) (λ name h. among_all Quotable (said_names w) name said (know.said name (sym (sorted_names w.nodes name) ∙ h)))

  named_quotable : (group : List (List ℕ)) → Each (All IsQuotable) (named_in (sorted w) group)
  named_quotable group = recursion_from_All (All IsQuotable) (named_in (sorted w) group) (All-filter (λ name. is_among name group) (All IsQuotable) (sorted w) quotable)

  group_spells : (group : List (List ℕ)) → CanSpellGroup group → All (λ name. is_among name w.nodes ≡ true) group → CanSpellGroup (named_in (sorted w) group)
  group_spells [] can nodes = absurd (omega (arith, can.some))
  group_spells (name ∷ names) can nodes = record { some = some (named_in (sorted w) (name ∷ names)) stays; names = named_quotable (name ∷ names) }
    where
      stays : is_among name (named_in (sorted w) (name ∷ names)) ≡ true
      stays = among_named (sorted w) (name ∷ names) name ∙ and_from _ _ (first_among name names) (node_sorted name (All-head (λ n. is_among n w.nodes ≡ true) name names nodes))

      some : (ns : List (List ℕ)) → is_among name ns ≡ true → 0 < length ns
      some [] h = absurd cc
      some (n ∷ ns) h = omega arith

  app_spells : (app : App) → CanSpellApp app → All (λ name. is_among name w.nodes ≡ true) (names_of_app app) → CanSpellApp (app_again w app)
  app_spells app can nodes =
      let nodes_of = joined_all (λ name. is_among name w.nodes ≡ true) app.groups nodes in
      let each = All-from_recursion CanSpellGroup app.groups can.groups in
      record {
        name = can.name;
        timeout = can.timeout;
        some = omega (arith, can.some, length-map app.groups (named_in (sorted w)));
        groups = recursion_from_All CanSpellGroup (map (named_in (sorted w)) app.groups) (All-map CanSpellGroup (named_in (sorted w)) app.groups (λ i d h. group_spells (get_or app.groups i d) (each i d h) (nodes_of i d h)));
      }

  again_spells : Each CanSpell (params_again w)
  again_spells =
      let IsKnown : List ℕ → Type 0 = λ name. is_among name w.nodes ≡ true in
      let apps = joined (map names_of_app w.apps) in
      let nodes = all_mapped (All IsKnown) names_of_app w.apps (joined_all IsKnown (map names_of_app w.apps) (all_parts IsKnown apps w.mandatory (all_parts IsKnown (apps ++ w.mandatory) w.optional know.limits.all).0).0) in (
        recursion_from_All CanSpellApp (map (app_again w) w.apps) (All-map CanSpellApp (app_again w) w.apps (λ i d h. app_spells (get_or w.apps i d) (apps_spell i d h) (nodes i d h))),
        (
          recursion_from_All (λ permission. All IsQuotable permission.name) (written_bans (numbered w).apps) (all_bans w (All IsQuotable) (All-weaker CanSpellApp (λ app. All IsQuotable app.name) (λ app can. can.name) w.apps apps_spell)),
          (named_quotable w.mandatory, (named_quotable w.optional, know.spells.1.1.1)),
        ),
      )

  -- ---- it has the same nodes

  both : (a b m : Bool) → ((a && m) || (b && m)) ≡ ((a || b) && m)
  both a b m = sym (and-or_distrib_right a b m)

  groups_said : (name : List ℕ) (groups : List (List (List ℕ))) → is_among name (joined (map (named_in (sorted w)) groups)) ≡ (is_among name (joined groups) && is_among name (sorted w))
  groups_said name [] = refl
  groups_said name (group ∷ groups) =
      among_append name (named_in (sorted w) group) (joined (map (named_in (sorted w)) groups)) ∙ (λ i. among_named (sorted w) group name i || groups_said name groups i)
      ∙ both (is_among name group) (is_among name (joined groups)) (is_among name (sorted w)) ∙ ap (λ b. b && is_among name (sorted w)) (sym (among_append name group (joined groups)))

  apps_said : (name : List ℕ) (apps : List App) → is_among name (joined (map names_of_app (map (app_again w) apps))) ≡ (is_among name (joined (map names_of_app apps)) && is_among name (sorted w))
  apps_said name [] = refl
  apps_said name (app ∷ apps) =
      among_append name (names_of_app (app_again w app)) (joined (map names_of_app (map (app_again w) apps))) ∙ (λ i. groups_said name app.groups i || apps_said name apps i)
      ∙ both (is_among name (names_of_app app)) (is_among name (joined (map names_of_app apps))) (is_among name (sorted w)) ∙ ap (λ b. b && is_among name (sorted w)) (sym (among_append name (names_of_app app) (joined (map names_of_app apps))))

  no_names : (wait : SyncWait) → joined (map names_of_param (wait_params wait ++ [])) ≡ []
  no_names NoSync = refl
  no_names _ = refl

  -- a name in the draft is a node
  and_known : (a b : Bool) → (b ≡ true → a ≡ true) → (a && b) ≡ b
  and_known a b h = grind arith

  names_same : (name : List ℕ) → is_among name (names_in (Kernel (params_again w) ∷ [])) ≡ is_among name w.nodes
  names_same name =
      let named_apps = joined (map names_of_app w.apps) in
      let again_apps = joined (map names_of_app (map (app_again w) w.apps)) in
      let lists = w.mandatory ∷ w.optional ∷ [] in
      ap (λ names. is_among name (again_apps ++ (named_in (sorted w) w.mandatory ++ (named_in (sorted w) w.optional ++ names)))) (no_names w.sync_wait)
      ∙ among_append name again_apps (joined (map (named_in (sorted w)) lists)) ∙ (λ i. apps_said name w.apps i || groups_said name lists i) ∙ both (is_among name named_apps) (is_among name (joined lists)) (is_among name (sorted w))
      ∙ ap (λ b. b && is_among name (sorted w)) (sym (among_append name named_apps (joined lists)) ∙ ap (λ names. is_among name (named_apps ++ (w.mandatory ++ names))) (append-nil w.optional))
      ∙ and_known (is_among name (said_names w)) (is_among name (sorted w)) (λ h. know.said name (sym (sorted_names w.nodes name) ∙ h)) ∙ sorted_names w.nodes name

  -- ---- it keeps the limits

  fits : (group : List (List ℕ)) → Differ (named_in (sorted w) group) × Within (named_in (sorted w) group) group
  fits group = (
    subst (λ e. IsDistinct e (named_in (sorted w) group)) (λ i x y. is_eq-slice_cmp x y i)
        (IsDistinct-from_sorted name_cmp (named_in (sorted w) group) (IsStrictlySortedBy-filter name_cmp (λ name. is_among name group) (sorted w) (sorted_rising w.nodes))),
    λ name h. (and_parts (is_among name group) (is_among name (sorted w)) (sym (among_named (sorted w) group name) ∙ h)).0,
  )

  apps_within : AreAppsWithin (map (app_again w) w.apps)
  apps_within = record {
    few = omega (arith, know.limits.apps.few, length-map w.apps (app_again w));
    short = All-map (λ app. length app.name ≤ 255) (app_again w) w.apps know.limits.apps.short;
    different = subst Differ (sym (map-map (λ (app : App). app.name) (app_again w) w.apps)) know.limits.apps.different;
    once = All-map (λ app. Differ (names_of_app app)) (app_again w) w.apps
        (All-weaker (λ app. Differ (names_of_app app)) (λ app. Differ (names_of_app (app_again w app))) (λ app differ. (differ_joined (named_in (sorted w)) fits app.groups differ).0) w.apps know.limits.apps.once);
  }

  wait_within : (wait : SyncWait) → Each IsValueWithin (wait_params wait ++ [])
  wait_within NoSync = tt
  wait_within _ = (tt, tt)

  once : (wait : SyncWait) (n : ParamName) (apps : List App) (bans : List Permission) (mandatory optional : List (List ℕ))
      → count_by (λ param. is_named n (name_of param)) (Distributed apps ∷ Permissions bans ∷ Mandatory mandatory ∷ Optional optional ∷ (wait_params wait ++ [])) ≤ 1
  once NoSync named.Distributed apps bans mandatory optional = omega arith
  once Forever named.Distributed apps bans mandatory optional = omega arith
  once (Ms m) named.Distributed apps bans mandatory optional = omega arith
  once _ _ apps bans mandatory optional = omega arith

  again_within : AreWithinLimits (Kernel (params_again w) ∷ [])
  again_within =
      let names = names_in (Kernel (params_again w) ∷ []) in
      let IsShort : List ℕ → Type 0 = λ name. length name ≤ 255 in
      let few = few_firsts names w.nodes (λ name h. sym (names_same name) ∙ h) in
      record {
        kernel = omega arith;
        params = λ n. once w.sync_wait n (map (app_again w) w.apps) (written_bans (numbered w).apps) (named_in (sorted w) w.mandatory) (named_in (sorted w) w.optional);
        values = All-from_recursion IsValueWithin (params_again w ++ []) (apps_within, (all_bans w IsShort know.limits.apps.short, (tt, (tt, wait_within w.sync_wait))));
        short = all_among IsShort names (λ name h. among_all IsShort w.nodes name know.limits.short (sym (names_same name) ∙ h));
        few = omega (arith, few, know.limits.few);
      }

  -- ---- it has the same table

  abbrev again : List (List ℕ) → SyncWait → Written
  again nodes wait = record {
    apps = map (app_again w) w.apps;
    permissions = written_bans (numbered w).apps;
    mandatory = named_in (sorted w) w.mandatory;
    optional = named_in (sorted w) w.optional;
    sync_wait = wait;
    nodes = nodes;
  }

  waiting : (nodes : List (List ℕ)) (wait : SyncWait) → put_all (again nodes NoSync) (wait_params wait) ≡ again nodes wait
  waiting nodes NoSync = refl
  waiting nodes _ = refl

  -- a node remains in each list that contains it when the list is sorted
  stays : (group : List (List ℕ)) → All (λ name. is_among name group ≡ is_among name (named_in (sorted w) group)) (sorted w)
  stays group = all_among (λ name. is_among name group ≡ is_among name (named_in (sorted w) group)) (sorted w)
      (λ name h. sym (among_named (sorted w) group name ∙ ap (λ b. is_among name group && b) h ∙ and-true (is_among name group)))

  numbers_same : (n : ℕ) (rows : List NodeRow) (group other : List (List ℕ)) → All (λ row. is_among row.name group ≡ is_among row.name other) rows → numbers_from n rows group ≡ numbers_from n rows other
  numbers_same n [] group other same = refl
  numbers_same n (row ∷ rows) group other same =
      let one = All-head (λ r. is_among r.name group ≡ is_among r.name other) row rows same in
      let later = numbers_same (n + 1) rows group other (All-tail (λ r. is_among r.name group ≡ is_among r.name other) row rows same) in
      λ i. cond (one i) (n ∷ later i) (later i)

  groups_again : (groups : List (List (List ℕ))) → AllZip (IsGroup (numbered_nodes w)) (map (named_in (sorted w)) groups) (map (numbers_from 0 (numbered_nodes w)) groups)
  groups_again [] = tt
  groups_again (group ∷ groups) =
      let other = named_in (sorted w) group in
      let same = numbers_same 0 (numbered_nodes w) group other (All-map (λ row. is_among row.name group ≡ is_among row.name other) (numbered_node w) (sorted w) (stays group)) in
      (subst (IsGroup (numbered_nodes w) other) (sym same) (group_numbered (numbered_nodes w) other), groups_again groups)

  ban_passes : (c e p m x : Bool) → (e ≡ true → c ≡ p) → x ≡ (p || not m) → cond c x (cond e false x) ≡ (p || not (e || m))
  ban_passes c e p m x same is = grind arith

  ban_split : (row : AppRow) (rest : List AppRow) (name : List ℕ) (c : Bool) → permitted (map ban (cond (not c) (row ∷ rest) rest)) name ≡ cond c (permitted (map ban rest) name) (cond (bytes_eq row.name name) false (permitted (map ban rest) name))
  ban_split row rest name true = refl
  ban_split row rest name false = refl

  bans_say : (permissions : List Permission) (rows : List NodeRow) (apps : List App) (name : List ℕ) → permitted (written_bans (map (numbered_app permissions rows) apps)) name ≡ (permitted permissions name || not (is_among name (map (λ app. app.name) apps)))
  bans_say permissions rows [] name = sym (or-true (permitted permissions name))
  bans_say permissions rows (app ∷ apps) name =
      let rest = filter (λ row. not row.permission) (map (numbered_app permissions rows) apps) in
      ban_split (numbered_app permissions rows app) rest name (permitted permissions app.name)
      ∙ ban_passes (permitted permissions app.name) (bytes_eq app.name name) (permitted permissions name) (is_among name (map (λ a. a.name) apps)) (permitted (map ban rest) name)
      (λ e. ap (permitted permissions) (same_name app.name name e)) (bans_say permissions rows apps name)

  apps_again : (apps : List App) → Within (map (λ app. app.name) apps) (map (λ app. app.name) w.apps)
      → AllZip (IsApp (written_bans (numbered w).apps) (numbered_nodes w)) (map (app_again w) apps) (map (numbered_app w.permissions (numbered_nodes w)) apps)
  apps_again [] inside = tt
  apps_again (app ∷ apps) inside =
      let here = inside app.name (first_among app.name (map (λ a. a.name) apps)) in
      let bans = written_bans (numbered w).apps in
      let same : permitted bans app.name ≡ permitted w.permissions app.name =
      bans_say w.permissions (numbered_nodes w) w.apps app.name ∙ ap (λ b. permitted w.permissions app.name || not b) here ∙ or-false (permitted w.permissions app.name) in (
        record { name = refl; timeout = refl; groups = groups_again app.groups; permission = subst (IsDefaultPermission bans app.name) same (permission_found bans app.name) },
        apps_again apps (λ name h. inside name (later_among name app.name (map (λ a. a.name) apps) h)),
      )

  table_again : (nodes : List (List ℕ)) → ((name : List ℕ) → is_among name nodes ≡ is_among name w.nodes) → IsTableOf (again nodes w.sync_wait) (numbered w)
  table_again nodes same = record {
    rising = (numbered_says w).rising;
    nodes = λ name. (numbered_says w).nodes name ∙ sym (same name);
    mandatory = All-map (λ node. node.mandatory ≡ is_among node.name (named_in (sorted w) w.mandatory)) (numbered_node w) (sorted w) (stays w.mandatory);
    optional = All-map (λ node. node.optional ≡ is_among node.name (named_in (sorted w) w.optional)) (numbered_node w) (sorted w) (stays w.optional);
    apps = apps_again w.apps (λ name h. h);
    sync_wait = refl;
  }

  says_again : length (canonical_text (numbered w)) ≤ 65536 → IsConfigOf (canonical_text (numbered w)) (numbered w)
  says_again short =
      let file = file_written (numbered w) (subst (Each CanSpell) (sym (params_named w)) again_spells) in
      let nodes = nodes_in (Kernel (params_again w) ∷ []) in
      record {
        written = written (Kernel (params_again w) ∷ []) nodes;
        spelled = record {
          short = short;
          tokens = file.0;
          sections = Kernel (params_again w) ∷ [];
          spelled = file.1;
          file = subst (λ (params : List Param). IsFile (map (λ t. t.word) file.0) (Kernel params ∷ [])) (params_named w) file.2;
          within = again_within;
          says = refl;
          some = subst (λ (v : Written). length v.apps ≢ 0) (sym (waiting nodes w.sync_wait)) (λ e. know.some (sym (length-map w.apps (app_again w)) ∙ e));
        };
        numbers = subst (λ (v : Written). IsTableOf v (numbered w)) (sym (waiting nodes w.sync_wait)) (table_again nodes (λ name. among_firsts name (names_in (Kernel (params_again w) ∷ [])) ∙ names_same name));
      }

-- the canonical text spells any configuration that some text spells
pub canonical_says : (table : Table) → IsSaid table → length (canonical_text table) ≤ 65536 → IsConfigOf (canonical_text table) table
canonical_says table (By text is limits) =
    let Again : Table → Type 0 = λ t. length (canonical_text t) ≤ 65536 → IsConfigOf (canonical_text t) t in
    subst Again (sym (table_same is.written table is.numbers)) (says_again is.written (known text is.written is.spelled limits))
