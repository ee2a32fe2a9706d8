-- Logs of states as lists of sets of operations, each state the meaning of a set.
use Rattle.std.proofs.Common.{◌≡◌, ℕ, ◌⊎◌, inl, inr, List, [], ◌∷◌, ◌++◌, length, take, drop, fold, map as list_map, refl, sym, ap, subst, ◌∙◌, append-nil, append_assoc, take-append-drop}
use Rattle.dac_model_world.specs.laws.Common.{map-append, length-map, dot_cmp, origin_cmp, dots_total, exact_dots, Operation, StateValue, bottom, join, meaning_of, IsOperationOf, AreOperationsOf, DotsDetermine, heard-meaning, known-meaning, starts-meaning, permits-meaning, lives-meaning, drains-meaning, In-append_left, In-append_right, In-append_cases, join-meaning, meaning-same, joined, meanings}
use Rattle.std.proofs.lemmas.List.{drop-map}
use Rattle.std.specs.FinSet as set
use Rattle.std.specs.FinMap as map
use Rattle.dac_wishes.specs.KeyedWrites.{keyed_write_cmp}
use Rattle.dac_wishes.specs.laws.DrainsValue.{same_drains}
use Rattle.dac_wishes.specs.Writes.{write_cmp}
use Rattle.dac_wishes.specs.laws.WishesValue.{same_wishes}
use Rattle.dac_wishes.specs.laws.PermissionsValue.{same_permissions}
use Rattle.dac_meaning.specs.StateValue.{permissions_of, wishes_of, drains_of}
use Rattle.dac_meaning.specs.laws.StateLaws.{same_state}
use Rattle.dac_meaning.specs.laws.Readers.{claims-meaning}
use Rattle.dac_model_world.specs.laws.Operations.{Agree-within}

-- sets of operations, one after another
abbrev pub Entries : Type 0
Entries = List (List Operation)

-- the operations of all sets
abbrev pub gathered : Entries → List Operation
gathered [] = []
gathered (e ∷ es) = e ++ gathered es

-- the meaning of each set
abbrev pub logged : Entries → List StateValue
logged es = list_map meaning_of es

-- a set for each operation
abbrev pub each_alone : List Operation → Entries
each_alone os = list_map (λ (o : Operation). o ∷ []) os

pub gathered-append : (es fs : Entries) → gathered (es ++ fs) ≡ gathered es ++ gathered fs
gathered-append [] fs = refl
gathered-append (e ∷ es) fs = ap (λ l. e ++ l) (gathered-append es fs) ∙ sym (append_assoc e (gathered es) (gathered fs))

pub gathered_alone : (os : List Operation) → gathered (each_alone os) ≡ os
gathered_alone [] = refl
gathered_alone (o ∷ os) = ap (λ l. o ∷ l) (gathered_alone os)

pub logged_alone : (os : List Operation) → logged (each_alone os) ≡ meanings os
logged_alone [] = refl
logged_alone (o ∷ os) = ap (λ l. meaning_of (o ∷ []) ∷ l) (logged_alone os)

-- ---- joined states
pub meaning-none : bottom ≡ meaning_of []
meaning-none =
    let known = set.same_set dots_total exact_dots _ _ (λ d. known-meaning [] d ∙ sym (set.contains-empty dot_cmp d)) in
    sym (same_state (meaning_of []) bottom
    (set.same_set dots_total exact_dots _ _ (λ d. heard-meaning [] d ∙ sym (set.contains-empty dot_cmp d)))
    (same_permissions (permissions_of (meaning_of [])) (permissions_of bottom) known (λ w. permits-meaning [] w ∙ sym (map.get-empty write_cmp w)))
    (same_wishes (wishes_of (meaning_of [])) (wishes_of bottom) known (λ w. starts-meaning [] w ∙ sym (set.contains-empty write_cmp w)))
    (lives-meaning [])
    (claims-meaning [])
    (same_drains (drains_of (meaning_of [])) (drains_of bottom) known (λ w. drains-meaning [] w ∙ sym (map.get-empty (keyed_write_cmp origin_cmp) w))))

interval_from : (os : List Operation) (es : Entries) → DotsDetermine (os ++ gathered es) → fold join (meaning_of os) (logged es) ≡ meaning_of (os ++ gathered es)
interval_from os [] agree = ap meaning_of (sym (append-nil os))
interval_from os (e ∷ es) agree =
    let apart : (os ++ e) ++ gathered es ≡ os ++ (e ++ gathered es) = append_assoc os e (gathered es) in
    let first : DotsDetermine (os ++ e) = Agree-within (os ++ e) (os ++ (e ++ gathered es)) (λ o i. subst (IsOperationOf o) apart (In-append_left o (os ++ e) (gathered es) i)) agree in
    ap (λ s. fold join s (logged es)) (join-meaning os e first) ∙ (interval_from (os ++ e) es (subst DotsDetermine (sym apart) agree) ∙ ap meaning_of apart)

-- the join of the sets' meanings is the meaning of all their operations
pub joined-logged : (es : Entries) → DotsDetermine (gathered es) → joined (logged es) ≡ meaning_of (gathered es)
joined-logged es agree = ap (λ s. fold join s (logged es)) meaning-none ∙ interval_from [] es agree

-- ---- the first sets and the rest
gathered_parts : (n : ℕ) (es : Entries) → gathered es ≡ gathered (take n es) ++ gathered (drop n es)
gathered_parts n es = sym (ap gathered (take-append-drop n es)) ∙ gathered-append (take n es) (drop n es)

-- an operation of all is in the first sets or in the rest
pub gathered_cases : (n : ℕ) (es : Entries) (o : Operation) → IsOperationOf o (gathered es) → IsOperationOf o (gathered (take n es)) ⊎ IsOperationOf o (gathered (drop n es))
gathered_cases n es o h = In-append_cases o (gathered (take n es)) (gathered (drop n es)) (subst (IsOperationOf o) (gathered_parts n es) h)

pub gathered_take : (n : ℕ) (es : Entries) → AreOperationsOf (gathered (take n es)) (gathered es)
gathered_take n es o h = subst (IsOperationOf o) (sym (gathered_parts n es)) (In-append_left o (gathered (take n es)) (gathered (drop n es)) h)

pub gathered_drop : (n : ℕ) (es : Entries) → AreOperationsOf (gathered (drop n es)) (gathered es)
gathered_drop n es o h = subst (IsOperationOf o) (sym (gathered_parts n es)) (In-append_right o (gathered (take n es)) (gathered (drop n es)) h)

-- ---- a log and its set
-- the states of the log are the meanings of sets that together have these operations
pub record IsLogOf (log : List StateValue) (os : List Operation) (es : Entries) : Type 0 where
  pub states : log ≡ logged es
  pub all : AreOperationsOf (gathered es) os
  pub some : AreOperationsOf os (gathered es)

-- the log of a set joins to the set's meaning
pub log_means : (log : List StateValue) (os ops : List Operation) (es : Entries) → AreOperationsOf os ops → DotsDetermine ops → IsLogOf log os es → joined log ≡ meaning_of os
log_means log os ops es inside agree h =
    ap joined h.states ∙ (joined-logged es (Agree-within (gathered es) ops (λ o i. inside o (h.all o i)) agree) ∙ meaning-same (gathered es) os h.all h.some)

-- the length of the log
pub log_length : (log : List StateValue) (os : List Operation) (es : Entries) → IsLogOf log os es → length log ≡ length es
log_length log os es h = ap length h.states ∙ length-map es meaning_of

-- the rest of the log after a number joins to the meaning of the rest of the sets
pub rest_means : (log : List StateValue) (os ops : List Operation) (es : Entries) (n : ℕ) → AreOperationsOf os ops → DotsDetermine ops → IsLogOf log os es → joined (drop n log) ≡ meaning_of (gathered (drop n es))
rest_means log os ops es n inside agree h =
    ap (λ (l : List StateValue). joined (drop n l)) h.states
    ∙ (ap joined (drop-map meaning_of n es) ∙ joined-logged (drop n es) (Agree-within (gathered (drop n es)) ops (λ o i. inside o (h.all o (gathered_drop n es o i))) agree))

-- more states, which mean more sets
pub log_more : (log states : List StateValue) (os more : List Operation) (es fs : Entries) → IsLogOf log os es → states ≡ logged fs → AreOperationsOf (gathered fs) (os ++ more) → AreOperationsOf more (gathered (es ++ fs)) → IsLogOf (log ++ states) (os ++ more) (es ++ fs)
log_more log states os more es fs h is inside there =
    let parts = gathered-append es fs in
    record {
      states = (λ i. h.states i ++ is i) ∙ sym (map-append meaning_of es fs);
      all = λ o i. elim (In-append_cases o (gathered es) (gathered fs) (subst (IsOperationOf o) parts i)) [ inl a ↦ In-append_left o os more (h.all o a) | inr b ↦ inside o b ];
      some = λ o i. elim (In-append_cases o os more i) [ inl a ↦ subst (IsOperationOf o) (sym parts) (In-append_left o (gathered es) (gathered fs) (h.some o a)) | inr b ↦ there o b ];
    }

-- the log of a node grows by one state for each operation issued
pub log_issued : (log : List StateValue) (os more : List Operation) (es : Entries) → IsLogOf log os es → IsLogOf (log ++ meanings more) (os ++ more) (es ++ each_alone more)
log_issued log os more es h =
    let all = gathered_alone more in
    log_more log (meanings more) os more es (each_alone more) h (sym (logged_alone more))
    (λ o i. In-append_right o os more (subst (IsOperationOf o) all i))
    (λ o i. subst (IsOperationOf o) (sym (gathered-append es (each_alone more))) (In-append_right o (gathered es) (gathered (each_alone more)) (subst (IsOperationOf o) (sym all) i)))
