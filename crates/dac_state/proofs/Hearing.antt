-- Conditions under which all known dots were heard.
use Rattle.std.specs.Prelude.{◌≡◌, List, []}
use Rattle.std.proofs.Common.{refl, ap, sym}
use Rattle.std.specs.FinSet as set
use Rattle.dac_origins.specs.Dots.{Dots, IsSubset}
use Rattle.dac_origins.specs.declared.dot.Dot.{Dot}
use Rattle.dac_wishes.specs.Replacing.{named_by}
use Rattle.dac_wishes.specs.WishMeaning.{over_of}
use Rattle.dac_wishes.specs.laws.Stores.{same_context, subset_left, subset_right, subset_union}
use Rattle.dac_operations.specs.Operations.{over_list}
use Rattle.dac_operations.specs.Seen.{seen_wish}
use Rattle.dac_operations.specs.declared.act.Act.{Act}
use Rattle.dac_operations.specs.declared.act.Act.TheVariants.{Up, Down, Permit, Start, Stop, Drain, Claim}

-- if all dots known on either side were heard on some side, the unions of the heard and of the known dots are equal
pub all_heard : (h g k m : Dots) → IsSubset h k → IsSubset g m → IsSubset k (set.union h g) → IsSubset m (set.union h g) → set.union h g ≡ set.union k m
all_heard h g k m p q a b = same_context (set.union h g) (set.union k m)
    (subset_union h g (set.union k m) (λ x e. subset_left k m x (p x e)) (λ x e. subset_right k m x (q x e)))
    (subset_union k m (set.union h g) a b)

-- if all dots known on the other side were heard there or are known here, and all that are known here were heard, the
-- known dots on either side are those heard on either side
pub all_with : (k g m : Dots) → IsSubset g m → IsSubset m (set.union k g) → set.union k m ≡ set.union k g
all_with k g m q a = sym (all_heard k g k m (λ _ e. e) q (subset_left k g) a)

-- so are they if all of them were heard on some side
pub all_known : (h g k m : Dots) → IsSubset h k → IsSubset g m → IsSubset (set.union k m) (set.union h g) → set.union k m ≡ set.union h g
all_known h g k m p q a = sym (all_heard h g k m p q (λ x e. a x (subset_left k m x e)) (λ x e. a x (subset_right k m x e)))

-- an operation that replaces nothing knows only its own dot
pub names_itself : (d : Dot) (a : Act) → over_list a ≡ [] → named_by over_of d (seen_wish d a) ≡ set.insert set.empty d
names_itself d Up e = refl
names_itself d (Down node inc) e = refl
names_itself d (Permit key value over) e = ap (λ (l : List Dot). named_by over_of d (seen_wish d (Permit key value l))) e
names_itself d (Start key over) e = ap (λ (l : List Dot). named_by over_of d (seen_wish d (Start key l))) e
names_itself d (Stop key over) e = ap (λ (l : List Dot). named_by over_of d (seen_wish d (Stop key l))) e
names_itself d (Drain node inc value over) e = ap (λ (l : List Dot). named_by over_of d (seen_wish d (Drain node inc value l))) e
names_itself d (Claim app term how from) e = refl
