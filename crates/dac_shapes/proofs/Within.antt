-- Names are allowed in order exactly if they keep the limits of `Within`; the draft then keeps them too.
use Rattle.std.proofs.Common.{◌≡◌, ℕ, ◌<◌, ◌≤◌, Bool, true, false, cond, List, [], ◌∷◌, ◌++◌, length, map, fold, refl, sym, ap, subst, ◌∙◌, append_assoc, append-nil, length-append, arith, ◌+◌, ◌||◌, eqb, Option, None, Some, inl, inr, eq-eqb, count_by, All, bytes_eq}
use Rattle.dac_shapes.specs.laws.Common.{IsDistinct, list_any, cond_both, or_parts, or_from, or_left, or_right, or_cases, map_push, All-nil, MAX_NODES, Word, Seen, AllMay, steps, is_among, with_name, with_node, NodeKeeps, with_nodes, NodesKeep, with_groups, nothing, number_of, is_named, has_param, is_kernel, has_kernel, listing, with_app, AppKeeps, with_permission, PermissionKeeps, with_param, ValueKeeps, ParamKeeps, with_section, SectionKeeps, Every, MaySections, joined, params_in, names_of_app, names_of_param, names_in, nodes_in, AreAppsWithin, IsValueWithin, AreWithinLimits, ArePermissionsWithin, IsWithinLimits, ParamName, App, Permission, Param, Distributed, Permissions, Mandatory, Optional, Section, Kernel, name_of, Timeout, Written, unsaid, put, put_all, Parted, IsListOf, IsNode, IsItem, strict, IsApp, IsParam, IsSection, IsTextOf}
use Rattle.std.specs.List.{AllByRecursion as Each}
use Rattle.std.proofs.lemmas.List.Sums.{fold-append, sum_by-cons, sum_by-append}
use Rattle.std.proofs.Math.Bool.{or-false}
use Rattle.std.proofs.lemmas.List.Elements.{All-from_recursion as each_all, recursion_from_All as all_each}
use Rattle.std.proofs.lemmas.List.Folds.{list_any-append}
use Rattle.std.specs.Set.{is_member}
use Rattle.std.specs.Cmp.Lexicographic.{same_text}
use Rattle.std.proofs.lemmas.Cmp.{nat_list_eq_equiv}
use Rattle.std.proofs.lemmas.Map.Made.{length-le_from_is_member}
use Rattle.dac_shapes.specs.declared.param.ParamName.TheVariants as named
use Rattle.dac_shapes.specs.laws.Params.{each_append, put_params, nodes_stay, ParamsHave, params_have}

pub each_left : {A : Type 0} (P : A → Type 0) (xs ys : List A) → Each P (xs ++ ys) → Each P xs
each_left P [] ys a = tt
each_left P (x ∷ xs) ys a = (a.0, each_left P xs ys a.1)

pub each_right : {A : Type 0} (P : A → Type 0) (xs ys : List A) → Each P (xs ++ ys) → Each P ys
each_right P [] ys a = a
each_right P (x ∷ xs) ys a = each_right P xs ys a.1

abbrev pub IsShort : List ℕ → Type 0
IsShort name = length name ≤ 255

abbrev pub IsFew : List (List ℕ) → Type 0
IsFew names = length names ≤ MAX_NODES

-- these names and the distinct ones of those
abbrev pub with_all : List (List ℕ) → List (List ℕ) → List (List ℕ)
with_all met names = fold with_name met names

longer : (met names : List (List ℕ)) → length met ≤ length (with_all met names)
longer met [] = omega arith
longer met (name ∷ names) =
    let here = cond_both (is_among name met) met (met ++ name ∷ []) (λ l. length met ≤ length l) (λ _. omega arith) (λ _. omega (arith, length-append met (name ∷ []))) in
    omega (arith, here, longer (with_name met name) names)

-- names are short, and with those met before there are few distinct ones
abbrev pub Fit : List (List ℕ) → List (List ℕ) → Type 0
Fit met names = Each IsShort names × IsFew (with_all met names)

pub fit_append : (met xs ys : List (List ℕ)) → Fit met xs → Fit (with_all met xs) ys → Fit met (xs ++ ys)
fit_append met xs ys a b = (each_append IsShort xs ys a.0 b.0, subst IsFew (sym (fold-append with_name met xs ys)) b.1)

pub fit_right : (met xs ys : List (List ℕ)) → Fit met (xs ++ ys) → Fit (with_all met xs) ys
fit_right met xs ys fit = (each_right IsShort xs ys fit.0, subst IsFew (fold-append with_name met xs ys) fit.1)

pub fit_left : (met xs ys : List (List ℕ)) → Fit met (xs ++ ys) → Fit met xs
fit_left met xs ys fit = (each_left IsShort xs ys fit.0, omega (arith, (fit_right met xs ys fit).1, longer (with_all met xs) ys))

-- ---- names that are new after those before them

abbrev pub AllNew : List (List ℕ) → List (List ℕ) → Type 0
AllNew before [] = Unit {0}
AllNew before (x ∷ xs) = (is_among x before ≡ false) × AllNew (before ++ x ∷ []) xs

pub new_append : (before xs ys : List (List ℕ)) → AllNew before xs → AllNew (before ++ xs) ys → AllNew before (xs ++ ys)
new_append before [] ys a b = subst (λ (l : List (List ℕ)). AllNew l ys) (append-nil before) b
new_append before (x ∷ xs) ys a b = (a.0, new_append (before ++ x ∷ []) xs ys a.1 (subst (λ (l : List (List ℕ)). AllNew l ys) (sym (append_assoc before (x ∷ []) xs)) b))

pub new_left : (before xs ys : List (List ℕ)) → AllNew before (xs ++ ys) → AllNew before xs
new_left before [] ys a = tt
new_left before (x ∷ xs) ys a = (a.0, new_left (before ++ x ∷ []) xs ys a.1)

pub new_right : (before xs ys : List (List ℕ)) → AllNew before (xs ++ ys) → AllNew (before ++ xs) ys
new_right before [] ys a = subst (λ (l : List (List ℕ)). AllNew l ys) (sym (append-nil before)) a
new_right before (x ∷ xs) ys a = subst (λ (l : List (List ℕ)). AllNew l ys) (append_assoc before (x ∷ []) xs) (new_right (before ++ x ∷ []) xs ys a.1)

-- ---- nodes

pub nodes_met : (seen : Seen) (names : List (List ℕ)) → (with_nodes seen names).met ≡ with_all seen.met names
nodes_met seen [] = refl
nodes_met seen (name ∷ names) = nodes_met (with_node seen name) names

nodes_listed : (seen : Seen) (names : List (List ℕ)) → (with_nodes seen names).listed ≡ seen.listed ++ names
nodes_listed seen [] = sym (append-nil seen.listed)
nodes_listed seen (name ∷ names) = nodes_listed (with_node seen name) names ∙ append_assoc seen.listed (name ∷ []) names

-- names that are allowed: each is new unless repeats are allowed, and they fit
pub nodes_to : (repeats : Bool) (before : List (List ℕ)) (seen : Seen) (names : List (List ℕ)) → IsFew seen.met → AllMay with_node (λ _. NodeKeeps Every repeats) before seen names → (repeats ≡ false → AllNew seen.listed names) × Fit seen.met names
nodes_to repeats before seen [] few may = (λ _. tt, (tt, few))
nodes_to repeats before seen (name ∷ names) few may =
    let here : IsFew (with_name seen.met name) = cond_both (is_among name seen.met) seen.met (seen.met ++ name ∷ []) IsFew (λ _. few) (λ new. let less = may.0.few tt new in omega (arith, less, length-append seen.met (name ∷ []))) in
    let rest = nodes_to repeats (before ++ name ∷ []) (with_node seen name) names here may.1 in
    (λ r. (may.0.once tt r, rest.0 r), ((may.0.short tt, rest.1.0), rest.1.1))

few_before : (b : Bool) (met : List (List ℕ)) (name : List ℕ) → IsFew (cond b met (met ++ name ∷ [])) → b ≡ false → length met < MAX_NODES
few_before true met name few e = absurd cc
few_before false met name few e = omega (arith, few, length-append met (name ∷ []))

pub nodes_from : (repeats : Bool) (before : List (List ℕ)) (seen : Seen) (names : List (List ℕ)) → (repeats ≡ false → AllNew seen.listed names) → Fit seen.met names → AllMay with_node (λ _. NodeKeeps Every repeats) before seen names
nodes_from repeats before seen [] new fit = tt
nodes_from repeats before seen (name ∷ names) new fit =
    let here : IsFew (with_name seen.met name) = omega (arith, fit.1, longer (with_name seen.met name) names) in (
      record { short = λ _. fit.0.0; once = λ _ r. (new r).0; few = λ _. few_before (is_among name seen.met) seen.met name here },
      nodes_from repeats (before ++ name ∷ []) (with_node seen name) names (λ r. (new r).1) (fit.0.1, fit.1),
    )

-- ---- groups of nodes

pub groups_met : (seen : Seen) (groups : List (List (List ℕ))) → (with_groups seen groups).met ≡ with_all seen.met (joined groups)
groups_met seen [] = refl
groups_met seen (group ∷ groups) = groups_met (with_nodes seen group) groups ∙ ap (λ met. with_all met (joined groups)) (nodes_met seen group) ∙ sym (fold-append with_name seen.met group (joined groups))

pub groups_to : (before : List (List (List ℕ))) (seen : Seen) (groups : List (List (List ℕ))) → IsFew seen.met → AllMay with_nodes (λ _. NodesKeep Every false) before seen groups → AllNew seen.listed (joined groups) × Fit seen.met (joined groups)
groups_to before seen [] few may = (tt, (tt, few))
groups_to before seen (group ∷ groups) few may =
    let one = nodes_to false [] seen group few may.0 in
    let rest = groups_to (before ++ group ∷ []) (with_nodes seen group) groups (subst IsFew (sym (nodes_met seen group)) one.1.1) may.1 in
    let new = subst (λ (l : List (List ℕ)). AllNew l (joined groups)) (nodes_listed seen group) rest.0 in
    (new_append seen.listed group (joined groups) (one.0 refl) new, fit_append seen.met group (joined groups) one.1 (subst (λ met. Fit met (joined groups)) (nodes_met seen group) rest.1))

pub groups_from : (before : List (List (List ℕ))) (seen : Seen) (groups : List (List (List ℕ))) → AllNew seen.listed (joined groups) → Fit seen.met (joined groups) → AllMay with_nodes (λ _. NodesKeep Every false) before seen groups
groups_from before seen [] new fit = tt
groups_from before seen (group ∷ groups) new fit =
    let rest = subst (λ (l : List (List ℕ)). AllNew l (joined groups)) (sym (nodes_listed seen group)) (new_right seen.listed group (joined groups) new) in (
      nodes_from false [] seen group (λ _. new_left seen.listed group (joined groups) new) (fit_left seen.met group (joined groups) fit),
      groups_from (before ++ group ∷ []) (with_nodes seen group) groups rest (subst (λ met. Fit met (joined groups)) (sym (nodes_met seen group)) (fit_right seen.met group (joined groups) fit)),
    )

-- ---- any items that contain names

-- each item has the property of it and those before it
abbrev pub AllKeep : {A : Type 0} → (List A → A → Type 0) → List A → List A → Type 0
AllKeep Keeps before [] = Unit {0}
AllKeep Keeps before (x ∷ xs) = Keeps before x × AllKeep Keeps (before ++ x ∷ []) xs

-- an item is allowed exactly if it has the property of it and those before it, and its names fit
pub record IsWalk {A : Type 0} (step : Seen → A → Seen) (May : List A → Seen → A → Type 0) (names : A → List (List ℕ)) (Keeps : List A → A → Type 0) : Type 0 where
  pub met : (seen : Seen) (x : A) → (step seen x).met ≡ with_all seen.met (names x)
  pub to : (before : List A) (seen : Seen) (x : A) → IsFew seen.met → May before seen x → Keeps before x × Fit seen.met (names x)
  pub from : (before : List A) (seen : Seen) (x : A) → Keeps before x → Fit seen.met (names x) → May before seen x

module _ {A : Type 0} {step : Seen → A → Seen} {May : List A → Seen → A → Type 0} {names : A → List (List ℕ)} {Keeps : List A → A → Type 0} (walk : IsWalk step May names Keeps) where
  pub all_met : (seen : Seen) (xs : List A) → (steps step seen xs).met ≡ with_all seen.met (joined (map names xs))
  all_met seen [] = refl
  all_met seen (x ∷ xs) = all_met (step seen x) xs ∙ ap (λ m. with_all m (joined (map names xs))) (walk.met seen x) ∙ sym (fold-append with_name seen.met (names x) (joined (map names xs)))

  pub all_to : (before : List A) (seen : Seen) (xs : List A) → IsFew seen.met → AllMay step May before seen xs → AllKeep Keeps before xs × Fit seen.met (joined (map names xs))
  all_to before seen [] few may = (tt, (tt, few))
  all_to before seen (x ∷ xs) few may =
      let one = walk.to before seen x few may.0 in
      let rest = all_to (before ++ x ∷ []) (step seen x) xs (subst IsFew (sym (walk.met seen x)) one.1.1) may.1 in
      ((one.0, rest.0), fit_append seen.met (names x) (joined (map names xs)) one.1 (subst (λ met. Fit met (joined (map names xs))) (walk.met seen x) rest.1))

  pub all_from : (before : List A) (seen : Seen) (xs : List A) → AllKeep Keeps before xs → Fit seen.met (joined (map names xs)) → AllMay step May before seen xs
  all_from before seen [] keep fit = tt
  all_from before seen (x ∷ xs) keep fit = (
    walk.from before seen x keep.0 (fit_left seen.met (names x) (joined (map names xs)) fit),
    all_from (before ++ x ∷ []) (step seen x) xs keep.1 (subst (λ met. Fit met (joined (map names xs))) (sym (walk.met seen x)) (fit_right seen.met (names x) (joined (map names xs)) fit)),
  )

-- ---- predicates on lists

pub each_by : {A : Type 0} (P Q : A → Type 0) → ((x : A) → P x → Q x) → (xs : List A) → Each P xs → Each Q xs
each_by P Q f [] h = tt
each_by P Q f (x ∷ xs) h = (f x h.0, each_by P Q f xs h.1)

keep_each : {A : Type 0} (K : List A → A → Type 0) (P : A → Type 0) → ((before : List A) (x : A) → K before x → P x) → (before xs : List A) → AllKeep K before xs → Each P xs
keep_each K P f before [] h = tt
keep_each K P f before (x ∷ xs) h = (f before x h.0, keep_each K P f (before ++ x ∷ []) xs h.1)

abbrev pub IsApart : List (List ℕ) → List ℕ → Type 0
IsApart before x = is_among x before ≡ false

apart_push : (before : List (List ℕ)) (x y : List ℕ) → IsApart (before ++ x ∷ []) y → IsApart before y × (bytes_eq x y ≡ false)
apart_push before x y e =
    let h = or_parts (is_among y before) (bytes_eq x y || false) (sym (list_any-append (λ other. bytes_eq other y) before (x ∷ [])) ∙ e) in
    (h.0, sym (or-false (bytes_eq x y)) ∙ h.1)

push_apart : (before : List (List ℕ)) (x y : List ℕ) → IsApart before y → bytes_eq x y ≡ false → IsApart (before ++ x ∷ []) y
push_apart before x y e f = list_any-append (λ other. bytes_eq other y) before (x ∷ []) ∙ or_from (is_among y before) (bytes_eq x y || false) e (or-false (bytes_eq x y) ∙ f)

-- names that are each new after those before are distinct, also from the earlier ones
distinct_from : (before xs : List (List ℕ)) → AllNew before xs → IsDistinct bytes_eq xs × Each (IsApart before) xs
unfolding IsDistinct
distinct_from before [] new = (tt, tt)
distinct_from before (x ∷ xs) new =
    let rest = distinct_from (before ++ x ∷ []) xs new.1 in
    let apart = IsApart (before ++ x ∷ []) in
    ((each_by apart (λ y. bytes_eq x y ≡ false) (λ y e. (apart_push before x y e).1) xs rest.1, rest.0), (new.0, each_by apart (IsApart before) (λ y e. (apart_push before x y e).0) xs rest.1))

new_from : (before xs : List (List ℕ)) → IsDistinct bytes_eq xs → Each (IsApart before) xs → AllNew before xs
unfolding IsDistinct
new_from before [] distinct apart = tt
new_from before (x ∷ xs) distinct apart = (apart.0, new_from (before ++ x ∷ []) xs distinct.1 (others xs distinct.0 apart.1))
  where
    others : (ys : List (List ℕ)) → Each (λ y. bytes_eq x y ≡ false) ys → Each (IsApart before) ys → Each (IsApart (before ++ x ∷ [])) ys
    others [] d h = tt
    others (y ∷ ys) d h = (push_apart before x y h.0 d.0, others ys d.1 h.1)

each_apart : (xs : List (List ℕ)) → Each (IsApart []) xs
each_apart [] = tt
each_apart (x ∷ xs) = (refl, each_apart xs)

pub new_distinct : (xs : List (List ℕ)) → AllNew [] xs → IsDistinct bytes_eq xs
new_distinct xs new = (distinct_from [] xs new).0

pub distinct_new : (xs : List (List ℕ)) → IsDistinct bytes_eq xs → AllNew [] xs
distinct_new xs distinct = new_from [] xs distinct (each_apart xs)

-- ---- applications

-- the limits of an application that don't depend on the nodes seen
record KeepsApp (before : List App) (app : App) : Type 0 where
  pub short : length app.name ≤ 255
  pub once : is_among app.name (map (λ a. a.name) before) ≡ false
  pub few : length before < 64
  pub nodes : AllNew [] (names_of_app app)

app_walk : IsWalk with_app (AppKeeps Every) names_of_app KeepsApp
app_walk = record {
  met = λ seen app. groups_met (listing seen) app.groups;
  to = λ before seen app few may.
      let g = groups_to [] (listing seen) app.groups few may.nodes in
      (record { short = may.short tt; once = may.once tt; few = may.few tt (may.once tt); nodes = g.0 }, g.1);
  from = λ before seen app keep fit. record { short = λ _. keep.short; once = λ _. keep.once; few = λ _ _. keep.few; nodes = groups_from [] (listing seen) app.groups keep.nodes fit };
}

-- there are few applications, and their names differ
apps_to : (before apps : List App) → AllKeep KeepsApp before apps → (length before ≤ 64 → length before + length apps ≤ 64) × AllNew (map (λ app. app.name) before) (map (λ app. app.name) apps)
apps_to before [] keep = (λ few. omega arith, tt)
apps_to before (app ∷ apps) keep =
    let rest = apps_to (before ++ app ∷ []) apps keep.1 in
    let one = keep.0 in (
      λ few. (let all = rest.0 (omega (arith, one.few, length-append before (app ∷ []))) in omega (arith, all, length-append before (app ∷ []))),
      (one.once, subst (λ (l : List (List ℕ)). AllNew l (map (λ a. a.name) apps)) (map_push (λ a. a.name) before app) rest.1),
    )

apps_from : (before apps : List App) → length before + length apps ≤ 64 → Each (λ app. length app.name ≤ 255) apps → AllNew (map (λ app. app.name) before) (map (λ app. app.name) apps) → Each (λ app. AllNew [] (names_of_app app)) apps → AllKeep KeepsApp before apps
apps_from before [] few short different once = tt
apps_from before (app ∷ apps) few short different once = (
  record { short = short.0; once = different.0; few = omega arith; nodes = once.0 },
  apps_from (before ++ app ∷ []) apps (omega (arith, length-append before (app ∷ []))) short.1 (subst (λ (l : List (List ℕ)). AllNew l (map (λ a. a.name) apps)) (sym (map_push (λ a. a.name) before app)) different.1) once.1,
)

apps_within : (apps : List App) → AllKeep KeepsApp [] apps → AreAppsWithin apps
apps_within apps keep =
    let k = apps_to [] apps keep in
    record {
      few = (let sum = k.0 (omega arith) in omega (arith, sum));
      short = each_all (λ app. length app.name ≤ 255) apps (keep_each KeepsApp (λ app. length app.name ≤ 255) (λ _ _ one. one.short) [] apps keep);
      different = new_distinct (map (λ app. app.name) apps) k.1;
      once = each_all (λ app. IsDistinct bytes_eq (names_of_app app)) apps (keep_each KeepsApp (λ app. IsDistinct bytes_eq (names_of_app app)) (λ _ app one. new_distinct (names_of_app app) one.nodes) [] apps keep);
    }

within_apps : (apps : List App) → AreAppsWithin apps → AllKeep KeepsApp [] apps
within_apps apps w =
    let few = w.few in
    apps_from [] apps (omega arith) (all_each (λ app. length app.name ≤ 255) apps w.short) (distinct_new (map (λ app. app.name) apps) w.different)
    (each_by (λ app. IsDistinct bytes_eq (names_of_app app)) (λ app. AllNew [] (names_of_app app)) (λ app d. distinct_new (names_of_app app) d) apps (all_each (λ app. IsDistinct bytes_eq (names_of_app app)) apps w.once))

-- ---- parameters

permissions_to : (before : List Permission) (seen : Seen) (permissions : List Permission) → AllMay with_permission (PermissionKeeps Every) before seen permissions → Each (λ p. length p.name ≤ 255) permissions
permissions_to before seen [] may = tt
permissions_to before seen (p ∷ ps) may = (may.0 tt, permissions_to (before ++ p ∷ []) seen ps may.1)

permissions_from : (before : List Permission) (seen : Seen) (permissions : List Permission) → Each (λ p. length p.name ≤ 255) permissions → AllMay with_permission (PermissionKeeps Every) before seen permissions
permissions_from before seen [] short = tt
permissions_from before seen (p ∷ ps) short = (λ _. short.0, permissions_from (before ++ p ∷ []) seen ps short.1)

-- the limits of a parameter that don't depend on the nodes seen
record KeepsParam (before : List Param) (param : Param) : Type 0 where
  pub once : (name : ParamName) → name_of param ≡ Some name → has_param name before ≡ false
  pub value : IsValueWithin param

param_met : (seen : Seen) (param : Param) → (with_param seen param).met ≡ with_all seen.met (names_of_param param)
param_met seen (Distributed apps) = all_met app_walk seen apps
param_met seen (Mandatory names) = nodes_met seen names
param_met seen (Optional names) = nodes_met seen names
param_met seen _ = refl

value_to : (seen : Seen) (param : Param) → IsFew seen.met → ValueKeeps Every seen param → IsValueWithin param × Fit seen.met (names_of_param param)
value_to seen (Distributed apps) few may = let a = all_to app_walk [] seen apps few may in (apps_within apps a.0, a.1)
value_to seen (Permissions permissions) few may = (each_all (λ p. length p.name ≤ 255) permissions (permissions_to [] seen permissions may), (tt, few))
value_to seen (Mandatory names) few may = (tt, (nodes_to true [] seen names few may).1)
value_to seen (Optional names) few may = (tt, (nodes_to true [] seen names few may).1)
value_to seen _ few may = (tt, (tt, few))

value_from : (seen : Seen) (param : Param) → IsValueWithin param → Fit seen.met (names_of_param param) → ValueKeeps Every seen param
value_from seen (Distributed apps) within fit = all_from app_walk [] seen apps (within_apps apps within) fit
value_from seen (Permissions permissions) within fit = permissions_from [] seen permissions (all_each (λ p. length p.name ≤ 255) permissions within)
value_from seen (Mandatory names) within fit = nodes_from true [] seen names (λ e. absurd cc) fit
value_from seen (Optional names) within fit = nodes_from true [] seen names (λ e. absurd cc) fit
value_from seen _ within fit = tt

param_walk : IsWalk with_param (ParamKeeps Every) names_of_param KeepsParam
param_walk = record {
  met = param_met;
  to = λ before seen param few may. let v = value_to seen param few may.value in (record { once = may.once tt; value = v.0 }, v.1);
  from = λ before seen param keep fit. record { once = λ _. keep.once; value = value_from seen param keep.value fit };
}

-- ---- at most one occurrence

abbrev one : Bool → ℕ
one b = cond b 1 0

module _ {A : Type 0} (p : A → Bool) where
  count_cons : (x : A) (xs : List A) → count_by p (x ∷ xs) ≡ one (p x) + count_by p xs
  count_cons x xs = sum_by-cons (λ y. cond (p y) 1 0) x xs

  count_push : (xs : List A) (x : A) → count_by p (xs ++ x ∷ []) ≡ count_by p xs + one (p x)
  count_push xs x = omega (arith, sum_by-append (λ y. cond (p y) 1 0) xs (x ∷ []), count_cons x [])

  any_none : (xs : List A) → list_any p xs ≡ false → count_by p xs ≡ 0
  any_none [] e = refl
  any_none (x ∷ xs) e =
      let h = or_parts (p x) (list_any p xs) e in
      let z = any_none xs h.1 in
      let c : one (p x) ≡ 0 = ap one h.0 in
      omega (arith, z, c, count_cons x xs)

  fails_one : (b : Bool) → one b ≡ 0 → b ≡ false
  fails_one true e = absurd (omega (arith, e))
  fails_one false e = refl

  none_any : (xs : List A) → count_by p xs ≡ 0 → list_any p xs ≡ false
  none_any [] e = refl
  none_any (x ∷ xs) e = or_from (p x) (list_any p xs) (fails_one (p x) (omega (arith, e, count_cons x xs))) (none_any xs (omega (arith, e, count_cons x xs)))

  -- if no item that passes follows another, at most one passes, counting those before
  once_to : (before xs : List A) → AllKeep (λ b x. p x ≡ true → list_any p b ≡ false) before xs → count_by p before ≤ 1 → count_by p before + count_by p xs ≤ 1
  once_to before [] keep few = omega (arith, few)
  once_to before (x ∷ xs) keep few =
      let all = once_to (before ++ x ∷ []) xs keep.1 (by (p x) refl) in
      omega (arith, all, count_push before x, count_cons x xs)
    where
      by : (b : Bool) → p x ≡ b → count_by p (before ++ x ∷ []) ≤ 1
      by false f = let c : one (p x) ≡ 0 = ap one f in omega (arith, few, c, count_push before x)
      by true f =
          let c : one (p x) ≡ 1 = ap one f in
          let none = any_none before (keep.0 f) in
          omega (arith, none, c, count_push before x)

keep_by : {A : Type 0} (P Q : List A → A → Type 0) → ((before : List A) (x : A) → P before x → Q before x) → (before xs : List A) → AllKeep P before xs → AllKeep Q before xs
keep_by P Q f before [] h = tt
keep_by P Q f before (x ∷ xs) h = (f before x h.0, keep_by P Q f (before ++ x ∷ []) xs h.1)

same_param : (a b : ParamName) → eqb (number_of a) (number_of b) ≡ true → a ≡ b
same_param a b e = grind arith

abbrev is_this : ParamName → Param → Bool
is_this name param = is_named name (name_of param)

named_so : (name : ParamName) (o : Option ParamName) → is_named name o ≡ true → (other : ParamName) × (o ≡ Some other) × (is_named name (Some other) ≡ true)
named_so name None e = absurd cc
named_so name (Some other) e = (other, refl, e)

-- at most one parameter has this name
params_to : (name : ParamName) (params : List Param) → AllKeep KeepsParam [] params → count_by (is_this name) params ≤ 1
params_to name params keep =
    let all = once_to (is_this name) [] params (keep_by KeepsParam (λ b x. is_this name x ≡ true → has_param name b ≡ false) named_once [] params keep) (omega arith) in
    omega (arith, all)
  where
    named_once : (before : List Param) (param : Param) → KeepsParam before param → is_this name param ≡ true → has_param name before ≡ false
    named_once before param keep is =
        let n = named_so name (name_of param) is in
        subst (λ (m : ParamName). has_param m before ≡ false) (same_param n.0 name n.2) (keep.once n.0 n.1)

params_from : (before params : List Param) → ((name : ParamName) → count_by (is_this name) before + count_by (is_this name) params ≤ 1) → Each IsValueWithin params → AllKeep KeepsParam before params
params_from before [] few within = tt
params_from before (param ∷ params) few within = (
  record { once = λ name is. none_any (is_this name) before (none name is); value = within.0 },
  params_from (before ++ param ∷ []) params (λ name. omega (arith, few name, count_push (is_this name) before param, count_cons (is_this name) param params)) within.1,
)
  where
    none : (name : ParamName) → name_of param ≡ Some name → count_by (is_this name) before ≡ 0
    none name is = (let c : one (is_this name param) ≡ 1 = ap one (ap (is_named name) is ∙ eq-eqb (number_of name) (number_of name) refl) in omega (arith, few name, c, count_cons (is_this name) param params))

-- ---- sections

abbrev names_of_section : Section → List (List ℕ)
names_of_section (Kernel params) = joined (map names_of_param params)
names_of_section Section.Other = []

abbrev KeepsSection : List Section → Section → Type 0
KeepsSection before (Kernel params) = (has_kernel before ≡ false) × AllKeep KeepsParam [] params
KeepsSection before Section.Other = Unit {0}

section_met : (seen : Seen) (section : Section) → (with_section seen section).met ≡ with_all seen.met (names_of_section section)
section_met seen (Kernel params) = all_met param_walk seen params
section_met seen Section.Other = refl

section_to : (before : List Section) (seen : Seen) (section : Section) → IsFew seen.met → SectionKeeps Every before seen section → KeepsSection before section × Fit seen.met (names_of_section section)
section_to before seen (Kernel params) few may = let a = all_to param_walk [] seen params few may.params in ((may.once tt, a.0), a.1)
section_to before seen Section.Other few may = (tt, (tt, few))

section_from : (before : List Section) (seen : Seen) (section : Section) → KeepsSection before section → Fit seen.met (names_of_section section) → SectionKeeps Every before seen section
section_from before seen (Kernel params) keep fit = record { once = λ _. keep.0; params = all_from param_walk [] seen params keep.1 fit }
section_from before seen Section.Other keep fit = tt

section_walk : IsWalk with_section (SectionKeeps Every) names_of_section KeepsSection
section_walk = record { met = section_met; to = section_to; from = section_from }

joined_map : {A : Type 0} (f : A → List (List ℕ)) (xs ys : List A) → joined (map f (xs ++ ys)) ≡ joined (map f xs) ++ joined (map f ys)
joined_map f [] ys = refl
joined_map f (x ∷ xs) ys = ap (λ (l : List (List ℕ)). f x ++ l) (joined_map f xs ys) ∙ sym (append_assoc (f x) (joined (map f xs)) (joined (map f ys)))

section_names : (sections : List Section) → joined (map names_of_section sections) ≡ names_in sections
section_names [] = refl
section_names (Kernel params ∷ sections) = ap (λ (l : List (List ℕ)). joined (map names_of_param params) ++ l) (section_names sections) ∙ sym (joined_map names_of_param params (params_in sections))
section_names (Section.Other ∷ sections) = section_names sections

kernels_to : (sections : List Section) → AllKeep KeepsSection [] sections → count_by is_kernel sections ≤ 1
kernels_to sections keep =
    let all = once_to is_kernel [] sections (keep_by KeepsSection (λ b x. is_kernel x ≡ true → has_kernel b ≡ false) kernel_once [] sections keep) (omega arith) in
    omega (arith, all)
  where
    kernel_once : (before : List Section) (section : Section) → KeepsSection before section → is_kernel section ≡ true → has_kernel before ≡ false
    kernel_once before (Kernel params) keep is = keep.0
    kernel_once before Section.Other keep is = absurd cc

no_kernels : (sections : List Section) → count_by is_kernel sections ≡ 0 → params_in sections ≡ []
no_kernels [] e = refl
no_kernels (Kernel params ∷ sections) e = absurd (omega (arith, e, count_cons is_kernel (Kernel params) sections))
no_kernels (Section.Other ∷ sections) e = no_kernels sections (omega (arith, e, count_cons is_kernel Section.Other sections))

-- there is only one `kernel`, so its parameters are all that there are
only_params : (params : List Param) (sections : List Section) → params_in sections ≡ [] → params ++ params_in sections ≡ params
only_params params sections none = ap (λ (l : List Param). params ++ l) none ∙ append-nil params

params_keep : (before sections : List Section) → AllKeep KeepsSection before sections → count_by is_kernel sections ≤ 1 → AllKeep KeepsParam [] (params_in sections)
params_keep before [] keep few = tt
params_keep before (Kernel params ∷ sections) keep few =
    let none = no_kernels sections (omega (arith, few, count_cons is_kernel (Kernel params) sections)) in
    subst (λ (l : List Param). AllKeep KeepsParam [] l) (sym (only_params params sections none)) keep.0.1
params_keep before (Section.Other ∷ sections) keep few = params_keep (before ++ Section.Other ∷ []) sections keep.1 (omega (arith, few, count_cons is_kernel Section.Other sections))

kernels_from : (before sections : List Section) → count_by is_kernel before + count_by is_kernel sections ≤ 1 → AllKeep KeepsParam [] (params_in sections) → AllKeep KeepsSection before sections
kernels_from before [] few keep = tt
kernels_from before (Kernel params ∷ sections) few keep =
    let e = count_push is_kernel before (Kernel params) in
    let c = count_cons is_kernel (Kernel params) sections in
    let none = no_kernels sections (omega (arith, few, c)) in (
      (none_any is_kernel before (omega (arith, few, c)), subst (λ (l : List Param). AllKeep KeepsParam [] l) (only_params params sections none) keep),
      kernels_from (before ++ Kernel params ∷ []) sections (omega (arith, few, e, c)) (subst (λ (l : List Param). AllKeep KeepsParam [] l) (sym none) tt),
    )
kernels_from before (Section.Other ∷ sections) few keep =
    let e = count_push is_kernel before Section.Other in
    let c = count_cons is_kernel Section.Other sections in
    (tt, kernels_from (before ++ Section.Other ∷ []) sections (omega (arith, few, e, c)) keep)

-- ---- the law

pub within_from : (sections : List Section) → MaySections sections → AreWithinLimits sections
within_from sections may =
    let a = all_to section_walk [] nothing sections (omega arith) may in
    let kernel = kernels_to sections a.0 in
    let keep = params_keep [] sections a.0 kernel in
    let names = section_names sections in
    record {
      kernel = kernel;
      params = λ name. params_to name (params_in sections) keep;
      values = each_all IsValueWithin (params_in sections) (keep_each KeepsParam IsValueWithin (λ _ _ one. one.value) [] (params_in sections) keep);
      short = each_all (λ name. length name ≤ 255) (names_in sections) (subst (Each IsShort) names a.1.0);
      few = subst (λ (l : List (List ℕ)). IsFew (with_all [] l)) names a.1.1;
    }

pub may_from : (sections : List Section) → AreWithinLimits sections → MaySections sections
may_from sections w =
    let names = section_names sections in
    let kernel = w.kernel in
    let values = all_each IsValueWithin (params_in sections) w.values in
    let keep = kernels_from [] sections (omega (arith, kernel)) (params_from [] (params_in sections) (λ name. (let all = w.params name in omega (arith, all))) values) in
    all_from section_walk [] nothing sections keep (subst (Fit []) (sym names) (all_each (λ name. length name ≤ 255) (names_in sections) w.short, w.few))

-- the names met in the sections are the distinct ones, in order of first occurrence
pub seen_is : (sections : List Section) → (steps with_section nothing sections).met ≡ nodes_in sections
seen_is sections = all_met section_walk nothing sections ∙ ap (λ (l : List (List ℕ)). with_all [] l) (section_names sections)

-- ---- first occurrences

all_new : (met names : List (List ℕ)) → AllNew [] met → AllNew [] (with_all met names)
all_new met [] new = new
all_new met (name ∷ names) new = all_new (with_name met name) names (cond_both (is_among name met) met (met ++ name ∷ []) (AllNew []) (λ _. new) (λ apart. new_append [] met (name ∷ []) new (apart, tt)))

all_short : (met names : List (List ℕ)) → Each IsShort met → Each IsShort names → Each IsShort (with_all met names)
all_short met [] met_short short = met_short
all_short met (name ∷ names) met_short short = all_short (with_name met name) names (cond_both (is_among name met) met (met ++ name ∷ []) (Each IsShort) (λ _. met_short) (λ _. each_append IsShort met (name ∷ []) met_short (short.0, tt))) short.1

-- this name is one of these
abbrev IsOf : List (List ℕ) → List ℕ → Type 0
IsOf names name = is_among name names ≡ true

all_kept : (met names : List (List ℕ)) (other : List ℕ) → IsOf met other → IsOf (with_all met names) other
all_kept met [] other e = e
all_kept met (name ∷ names) other e =
    let kept = cond_both (is_among name met) met (met ++ name ∷ []) (λ l. IsOf l other) (λ _. e) (λ _. list_any-append (λ n. bytes_eq n other) met (name ∷ []) ∙ or_left (is_among other met) (is_among other (name ∷ [])) e) in
    all_kept (with_name met name) names other kept

all_among : (met names : List (List ℕ)) → Each (IsOf (with_all met names)) names
all_among met [] = tt
all_among met (name ∷ names) =
    let last = or_left (bytes_eq name name) false (nat_list_eq_equiv.refl name) in
    let here = cond_both (is_among name met) met (met ++ name ∷ []) (λ l. IsOf l name) (λ e. e) (λ _. list_any-append (λ n. bytes_eq n name) met (name ∷ []) ∙ or_right (is_among name met) (is_among name (name ∷ [])) last) in
    (all_kept (with_name met name) names name here, all_among (with_name met name) names)

-- ---- distinct names that are all among others are no more than those

member_is : (name : List ℕ) (names : List (List ℕ)) → is_member bytes_eq names name ≡ is_among name names
member_is name [] = refl
member_is name (n ∷ ns) = rw (nat_list_eq_equiv.symm name n, member_is name ns) refl

one_of : (names nodes : List (List ℕ)) (name : List ℕ) → Each (IsOf nodes) names → IsOf names name → IsOf nodes name
one_of [] nodes name of e = absurd cc
one_of (n ∷ ns) nodes name of e = elim (or_cases (bytes_eq n name) (is_among name ns) e) [
  | inl h ↦ subst (IsOf nodes) (same_text n name (sym h)) of.0
  | inr h ↦ one_of ns nodes name of.1 h
]

few_of : (names nodes : List (List ℕ)) → IsDistinct bytes_eq names → Each (IsOf nodes) names → length names ≤ length nodes
few_of names nodes distinct of = length-le_from_is_member nat_list_eq_equiv names nodes distinct (λ name e. member_is name nodes ∙ one_of names nodes name of (sym (member_is name names) ∙ e))

-- ---- no group is empty

abbrev HasMember : List (List ℕ) → Type 0
HasMember group = 0 < length group

abbrev HasMembers : App → Type 0
HasMembers app = Each HasMember app.groups

abbrev ParamHasMembers : Param → Type 0
ParamHasMembers (Distributed apps) = Each HasMembers apps
ParamHasMembers _ = Unit {0}

module _ {A : Type 0} (Is : List Word → A → Type 0) (P : A → Type 0) (one : (words : List Word) (x : A) → Is words x → P x) where
  each_parted : (words : List Word) (xs : List A) → Parted Is words xs → Each P xs
  each_parted words [] h = absurd h
  each_parted words (x ∷ []) h = (one words x h, tt)
  each_parted words (x ∷ y ∷ ys) h = (one h.0 x h.3, each_parted h.1 (y ∷ ys) h.4)

  each_listed : (words : List Word) (xs : List A) → IsListOf Is words xs → Each P xs
  each_listed words [] h = tt
  each_listed words (x ∷ xs) h = each_parted h.0 (x ∷ xs) h.2

some_parted : (words : List Word) (group : List (List ℕ)) → Parted IsNode words group → HasMember group
some_parted words [] h = absurd h
some_parted words (x ∷ xs) h = omega arith

some_item : (words : List Word) (group : List (List ℕ)) → IsItem words group → HasMember group
some_item words group (inl h) = subst HasMember (sym h.2) (omega arith)
some_item words group (inr h) = some_parted h.0 group h.2

some_app : (words : List Word) (app : App) → IsApp strict words app → HasMembers app
some_app words app h = let list = h.2.4 in each_parted IsItem HasMember some_item list.0 app.groups list.2

some_param : (words : List Word) (param : Param) → IsParam strict words param → ParamHasMembers param
some_param words (Distributed apps) h = each_listed (IsApp strict) HasMembers some_app h.0 apps h.2
some_param words _ h = tt

some_section : (words : List Word) (section : Section) → IsSection strict words section → ParamsHave ParamHasMembers section
some_section words (Kernel params) h = each_listed (IsParam strict) ParamHasMembers some_param h.0 params h.2
some_section words Section.Other h = tt

fewer_groups : (groups : List (List (List ℕ))) → Each HasMember groups → length groups ≤ length (joined groups)
fewer_groups [] h = omega arith
fewer_groups (group ∷ groups) h = omega (arith, h.0, fewer_groups groups h.1, length-append group (joined groups))

-- ---- drafts

-- the limits of a draft, with these nodes
record Keeps (nodes : List (List ℕ)) (w : Written) : Type 0 where
  pub apps : AreAppsWithin w.apps
  pub some : Each HasMembers w.apps
  pub permissions : ArePermissionsWithin w.permissions
  pub listed : Each (IsOf nodes) (joined (map names_of_app w.apps))
  pub mandatory : Each (IsOf nodes) w.mandatory
  pub optional : Each (IsOf nodes) w.optional

put_keeps : (nodes : List (List ℕ)) (w : Written) (param : Param) → IsValueWithin param → ParamHasMembers param → Each (IsOf nodes) (names_of_param param) → Keeps nodes w → Keeps nodes (put w param)
put_keeps nodes w (Distributed apps) within some named k = record { apps = within; some = some; permissions = k.permissions; listed = named; mandatory = k.mandatory; optional = k.optional }
put_keeps nodes w (Permissions permissions) within some named k = record { apps = k.apps; some = k.some; permissions = within; listed = k.listed; mandatory = k.mandatory; optional = k.optional }
put_keeps nodes w (Mandatory names) within some named k = record { apps = k.apps; some = k.some; permissions = k.permissions; listed = k.listed; mandatory = named; optional = k.optional }
put_keeps nodes w (Optional names) within some named k = record { apps = k.apps; some = k.some; permissions = k.permissions; listed = k.listed; mandatory = k.mandatory; optional = named }
put_keeps nodes w (Timeout wait) within some named k = record { apps = k.apps; some = k.some; permissions = k.permissions; listed = k.listed; mandatory = k.mandatory; optional = k.optional }
put_keeps nodes w Param.Other within some named k = k

put_all_keeps : (nodes : List (List ℕ)) (w : Written) (params : List Param) → Each IsValueWithin params → Each ParamHasMembers params → Each (IsOf nodes) (joined (map names_of_param params)) → Keeps nodes w → Keeps nodes (put_all w params)
put_all_keeps nodes w [] within some named k = k
put_all_keeps nodes w (param ∷ params) within some named k =
    put_all_keeps nodes (put w param) params within.1 some.1 (each_right (IsOf nodes) (names_of_param param) (joined (map names_of_param params)) named)
    (put_keeps nodes w param within.0 some.0 (each_left (IsOf nodes) (names_of_param param) (joined (map names_of_param params)) named) k)

no_apps : AreAppsWithin []
unfolding IsDistinct
no_apps = record { few = omega arith; short = All-nil (λ app. length app.name ≤ 255); different = tt; once = All-nil (λ app. IsDistinct bytes_eq (names_of_app app)) }

-- each application has few groups
few_groups : (nodes : List (List ℕ)) (apps : List App) → length nodes ≤ MAX_NODES → Each (λ app. IsDistinct bytes_eq (names_of_app app)) apps → Each HasMembers apps → Each (IsOf nodes) (joined (map names_of_app apps)) → Each (λ app. length app.groups ≤ MAX_NODES) apps
few_groups nodes [] few once some of = tt
few_groups nodes (app ∷ apps) few once some of =
    let here = few_of (names_of_app app) nodes once.0 (each_left (IsOf nodes) (names_of_app app) (joined (map names_of_app apps)) of) in
    (omega (arith, few, here, fewer_groups app.groups some.0), few_groups nodes apps few once.1 some.1 (each_right (IsOf nodes) (names_of_app app) (joined (map names_of_app apps)) of))

put_within : (sections : List Section) → AreWithinLimits sections → Each ParamHasMembers (params_in sections) → IsWithinLimits (put_all (unsaid (nodes_in sections)) (params_in sections))
put_within sections within some =
    let nodes = nodes_in sections in
    let names = names_in sections in
    let w = put_all (unsaid nodes) (params_in sections) in
    let start : Keeps nodes (unsaid nodes) = record { apps = no_apps; some = tt; permissions = All-nil (λ permission. length permission.name ≤ 255); listed = tt; mandatory = tt; optional = tt } in
    let k = put_all_keeps nodes (unsaid nodes) (params_in sections) (all_each IsValueWithin (params_in sections) within.values) some (all_among [] names) start in
    let same : w.nodes ≡ nodes = nodes_stay (unsaid nodes) (params_in sections) in
    let listed = joined (map names_of_app w.apps) in
    let all = each_append (IsOf nodes) (listed ++ w.mandatory) w.optional (each_append (IsOf nodes) listed w.mandatory k.listed k.mandatory) k.optional in
    let once = all_each (λ app. IsDistinct bytes_eq (names_of_app app)) w.apps k.apps.once in
    record {
      apps = k.apps;
      permissions = k.permissions;
      few = subst (λ (l : List (List ℕ)). length l ≤ MAX_NODES) (sym same) within.few;
      short = subst (All IsShort) (sym same) (each_all IsShort nodes (all_short [] names tt (all_each IsShort names within.short)));
      different = subst (IsDistinct bytes_eq) (sym same) (new_distinct nodes (all_new [] names tt));
      groups = each_all (λ app. length app.groups ≤ MAX_NODES) w.apps (few_groups nodes w.apps within.few once k.some k.listed);
      some = each_all (λ app. All HasMember app.groups) w.apps (each_by HasMembers (λ app. All HasMember app.groups) (λ app h. each_all HasMember app.groups h) w.apps k.some);
      all = subst (λ (l : List (List ℕ)). All (IsOf l) (listed ++ w.mandatory ++ w.optional)) (sym same) (each_all (IsOf nodes) (listed ++ w.mandatory ++ w.optional) all);
    }

pub text_within : (text : List ℕ) (w : Written) → IsTextOf text w → IsWithinLimits w
text_within text w is =
    subst IsWithinLimits (sym (is.says ∙ put_params (unsaid (nodes_in is.sections)) is.sections)) (put_within is.sections is.within (params_have ParamHasMembers is.sections (each_listed (IsSection strict) (ParamsHave ParamHasMembers) some_section is.file.0 is.sections is.file.2)))
