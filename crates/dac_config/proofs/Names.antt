-- Lists of names, compared by bytes: membership, members of a group, and the number of distinct names.
use Rattle.std.proofs.Common.{◌≡◌, ℕ, ◌≤◌, Bool, true, false, ◌||◌, ◌&&◌, List, [], ◌∷◌, ◌++◌, length, map, fold, filter, All, Bor, bytes_eq, ⊎_elim, refl, sym, ap, subst, ◌∙◌, arith}
use Rattle.std.specs.Cmp.{IsEquivalence}
use Rattle.std.specs.Cmp.Lexicographic.{same_text}
use Rattle.dac_config.proofs.Common.{Contains, list_any, IsDistinct, AllZip, or-true, or-false, or_assoc, both_ways, cond_both, false_from_ne_true, or_cases, or_parts, or_left, or_right, nat_list_eq_equiv, length-map, get_or-map, All-contains, All-nil, All-cons, All-head, All-tail, All-append, All-from_recursion, recursion_from_All, is_among, with_name, names_of, joined, firsts}
use Rattle.std.specs.List.{AllByRecursion as Each}
use Rattle.std.proofs.lemmas.List.Folds.{list_any-append}
use Rattle.std.proofs.lemmas.Map.Keys.{IsDistinct-push}
use Rattle.std.proofs.lemmas.Map.Made.{length-le_from_is_member}
use Rattle.std.proofs.lemmas.Map.Views.{Contains-from_any, All-from_any, any-filter_same}

pub among_names : (name : List ℕ) (names : List (Bor (List ℕ))) → is_among name (names_of names) ≡ list_any (λ other. bytes_eq other.now name) names
among_names name [] = refl
among_names name (n ∷ ns) = ap (λ b. bytes_eq n.now name || b) (among_names name ns)

-- ---- the same name

pub same_name : (a b : List ℕ) → bytes_eq a b ≡ true → a ≡ b
same_name a b h = same_text a b (sym h)

-- the test that `is_among` applies
abbrev pub is_name : List ℕ → List ℕ → Bool
is_name name other = bytes_eq other name

pub names_equal : IsEquivalence is_name
names_equal = record { refl = nat_list_eq_equiv.refl; symm = λ x y. nat_list_eq_equiv.symm y x; congr = λ x y z h. ap (bytes_eq z) (sym (same_name y x h)) }

-- ---- names among others

-- each of the names is among the others
abbrev pub Within : List (List ℕ) → List (List ℕ) → Type 0
Within names others = (name : List ℕ) → is_among name names ≡ true → is_among name others ≡ true

pub first_among : (name : List ℕ) (names : List (List ℕ)) → is_among name (name ∷ names) ≡ true
first_among name names = or_left (bytes_eq name name) (is_among name names) (nat_list_eq_equiv.refl name)

pub later_among : (name other : List ℕ) (names : List (List ℕ)) → is_among name names ≡ true → is_among name (other ∷ names) ≡ true
later_among name other names h = or_right (bytes_eq other name) (is_among name names) h

pub among_append : (name : List ℕ) (xs ys : List (List ℕ)) → is_among name (xs ++ ys) ≡ (is_among name xs || is_among name ys)
among_append name xs ys = list_any-append (λ other. bytes_eq other name) xs ys

pub contained : (name : List ℕ) (names : List (List ℕ)) → is_among name names ≡ true → Contains names name
contained name names h = Contains-from_any {eq = is_name} (λ x y e. sym (same_name y x e)) name names h

-- a property of all names holds of each one among them
pub among_all : (P : List ℕ → Type 0) (names : List (List ℕ)) (name : List ℕ) → All P names → is_among name names ≡ true → P name
among_all P names name all h = All-contains P names name all (contained name names h)

pub all_among : (P : List ℕ → Type 0) (names : List (List ℕ)) → ((name : List ℕ) → is_among name names ≡ true → P name) → All P names
all_among P names each = All-from_any names_equal P names each

-- ---- members of a group

abbrev pub named_in : List (List ℕ) → List (List ℕ) → List (List ℕ)
named_in names group = filter (λ name. is_among name group) names

pub among_named : (names group : List (List ℕ)) (name : List ℕ) → is_among name (named_in names group) ≡ (is_among name group && is_among name names)
among_named names group name = any-filter_same (λ other. bytes_eq other name) (λ other. is_among other group) (is_among name group) (λ other e. ap (λ n. is_among n group) (same_name other name e)) names

-- ---- concatenated lists

pub each_parts : {X : Type 0} (P : X → Type 0) (xs ys : List X) → Each P (xs ++ ys) → Each P xs × Each P ys
each_parts P [] ys each = (tt, each)
each_parts P (x ∷ xs) ys each = let parts = each_parts P xs ys each.1 in ((each.0, parts.0), parts.1)

pub all_parts : {X : Type 0} (P : X → Type 0) (xs ys : List X) → All P (xs ++ ys) → All P xs × All P ys
all_parts P xs ys all = let parts = each_parts P xs ys (recursion_from_All P (xs ++ ys) all) in (All-from_recursion P xs parts.0, All-from_recursion P ys parts.1)

pub all_joined : {X : Type 0} (P : X → Type 0) (lists : List (List X)) → All (All P) lists → All P (joined lists)
all_joined P [] all = All-nil P
all_joined P (xs ∷ lists) all = All-append P xs (joined lists) (All-head (All P) xs lists all) (all_joined P lists (All-tail (All P) xs lists all))

pub joined_all : {X : Type 0} (P : X → Type 0) (lists : List (List X)) → All P (joined lists) → All (All P) lists
joined_all P [] all = All-nil (All P)
joined_all P (xs ∷ lists) all = let parts = all_parts P xs (joined lists) all in All-cons (All P) xs lists parts.0 (joined_all P lists parts.1)

pub all_mapped : {X Y : Type 0} (P : Y → Type 0) (f : X → Y) (xs : List X) → All P (map f xs) → All (λ x. P (f x)) xs
all_mapped P f xs all = λ k d h. subst P (get_or-map f xs k d (f d) h) (all k (f d) (omega (arith, h, length-map xs f)))

-- lists that agree at each index have equal images
pub maps_from_zip : {A B C : Type 0} (R : A → B → Type 0) (f : A → C) (g : B → C) → ((a : A) (b : B) → R a b → g b ≡ f a) → (xs : List A) (ys : List B) → AllZip R xs ys → map g ys ≡ map f xs
maps_from_zip R f g same [] [] zip = refl
maps_from_zip R f g same [] (y ∷ ys) zip = absurd zip
maps_from_zip R f g same (x ∷ xs) [] zip = absurd zip
maps_from_zip R f g same (x ∷ xs) (y ∷ ys) zip = λ i. same x y zip.0 i ∷ maps_from_zip R f g same xs ys zip.1 i

-- ---- distinct names

among_known : (name other : List ℕ) (names : List (List ℕ)) → is_among other names ≡ true → (c : Bool) → bytes_eq other name ≡ c → is_among name names ≡ (is_among name names || c)
among_known name other names known true same = ap (λ n. is_among n names) (sym (same_name other name same)) ∙ known ∙ sym (or-true (is_among name names))
among_known name other names known false same = sym (or-false (is_among name names))

among_with : (name other : List ℕ) (names : List (List ℕ)) → is_among name (with_name names other) ≡ (is_among name names || bytes_eq other name)
among_with name other names = cond_both (is_among other names) names (names ++ other ∷ []) (λ ns. is_among name ns ≡ (is_among name names || bytes_eq other name))
    (λ known. among_known name other names known (bytes_eq other name) refl) (λ new. among_append name names (other ∷ []) ∙ ap (λ b. is_among name names || b) (or-false (bytes_eq other name)))

among_all_firsts : (name : List ℕ) (met names : List (List ℕ)) → is_among name (fold with_name met names) ≡ (is_among name met || is_among name names)
among_all_firsts name met [] = sym (or-false (is_among name met))
among_all_firsts name met (n ∷ names) =
    among_all_firsts name (with_name met n) names ∙ ap (λ b. b || is_among name names) (among_with name n met) ∙ or_assoc (is_among name met) (bytes_eq n name) (is_among name names)

pub among_firsts : (name : List ℕ) (names : List (List ℕ)) → is_among name (firsts names) ≡ is_among name names
among_firsts name names = among_all_firsts name [] names

firsts_differ : (met names : List (List ℕ)) → IsDistinct is_name met → IsDistinct is_name (fold with_name met names)
firsts_differ met [] differ = differ
firsts_differ met (n ∷ names) differ = firsts_differ (with_name met n) names (cond_both (is_among n met) met (met ++ n ∷ []) (IsDistinct is_name) (λ known. differ) (λ new. IsDistinct-push names_equal met n differ new))

-- names that are all among others include no more distinct ones
pub few_firsts : (names others : List (List ℕ)) → Within names others → length (firsts names) ≤ length others
unfolding IsDistinct
few_firsts names others within = length-le_from_is_member names_equal (firsts names) others (firsts_differ [] names tt) (λ name h. within name (sym (among_firsts name names) ∙ h))

-- ---- names that differ

abbrev pub Differ : List (List ℕ) → Type 0
Differ names = IsDistinct bytes_eq names

-- none of the names is among the others
abbrev pub Apart : List (List ℕ) → List (List ℕ) → Type 0
Apart names others = (name : List ℕ) → is_among name names ≡ true → is_among name others ≡ false

absent : (name : List ℕ) (names : List (List ℕ)) → Each (λ other. bytes_eq name other ≡ false) names → is_among name names ≡ false
absent name [] off = refl
absent name (other ∷ names) off = ap (λ b. b || is_among name names) (nat_list_eq_equiv.symm other name ∙ off.0) ∙ absent name names off.1

pub differ_parts : (xs ys : List (List ℕ)) → Differ (xs ++ ys) → Differ ys × Apart xs ys
unfolding IsDistinct
differ_parts [] ys h = (h, λ name e. absurd cc)
differ_parts (x ∷ xs) ys h =
    let parts = differ_parts xs ys h.1 in let new = absent x ys (each_parts (λ y. bytes_eq x y ≡ false) xs ys h.0).1 in
    (parts.0, λ name e. ⊎_elim (λ same. ap (λ n. is_among n ys) (sym (same_name x name same)) ∙ new) (parts.1 name) (or_cases (bytes_eq x name) (is_among name xs) e))

all_differ : (name : List ℕ) (xs ys : List (List ℕ)) → Each (λ y. bytes_eq name y ≡ false) xs → is_among name ys ≡ false → Each (λ y. bytes_eq name y ≡ false) (xs ++ ys)
all_differ name (x ∷ xs) ys h new = (h.0, all_differ name xs ys h.1 new)
all_differ name [] [] h new = tt
all_differ name [] (y ∷ ys) h new = let parts = or_parts (bytes_eq y name) (is_among name ys) new in (nat_list_eq_equiv.symm name y ∙ parts.0, all_differ name [] ys tt parts.1)

differ_append : (xs ys : List (List ℕ)) → Differ xs → Differ ys → Apart xs ys → Differ (xs ++ ys)
unfolding IsDistinct
differ_append [] ys h k apart = k
differ_append (x ∷ xs) ys h k apart = (all_differ x xs ys h.0 (apart x (first_among x xs)), differ_append xs ys h.1 k (λ name e. apart name (later_among name x xs e)))

-- lists whose names differ still do if each is reordered and loses names
pub differ_joined : (f : List (List ℕ) → List (List ℕ)) → ((names : List (List ℕ)) → Differ (f names) × Within (f names) names) → (lists : List (List (List ℕ))) → Differ (joined lists) → Differ (joined (map f lists)) × Within (joined (map f lists)) (joined lists)
differ_joined f fits [] h = (h, λ name e. e)
differ_joined f fits (names ∷ lists) h =
    let parts = differ_parts names (joined lists) h in
    let later = differ_joined f fits lists parts.0 in
    let rest = joined (map f lists) in (
      differ_append (f names) rest (fits names).0 later.0 (λ name e. false_from_ne_true (is_among name rest) (λ k. both_ways (is_among name (joined lists)) (parts.1 name ((fits names).1 name e)) (later.1 name k))),
      λ name e. among_append name names (joined lists)
          ∙ ⊎_elim (λ k. or_left (is_among name names) (is_among name (joined lists)) ((fits names).1 name k)) (λ k. or_right (is_among name names) (is_among name (joined lists)) (later.1 name k))
          (or_cases (is_among name (f names)) (is_among name rest) (sym (among_append name (f names) rest) ∙ e)),
    )

-- if names differ, none is among those before it
pub first_new : (before : List (List ℕ)) (name : List ℕ) (names : List (List ℕ)) → Differ (before ++ name ∷ names) → is_among name before ≡ false
first_new before name names differ =
    false_from_ne_true (is_among name before) (λ e. both_ways (is_among name (name ∷ names)) ((differ_parts before (name ∷ names) differ).1 name e) (first_among name names))
