-- The pages that a replay has passed.
use Rattle.std.proofs.Common.{◌≡◌, inl, inr, ℕ, ◌≤◌, List, length, take, get_or, map, All, Bor, sym, ap, ◌∙◌, subst}
use Rattle.dac_live.proofs.Common.{AllWithin, length-take-le, Page, Record, NodeValue, IsPageOf, page_there}
use Rattle.std.proofs.lemmas.Bool.{cases_lt}
use Rattle.std.proofs.lemmas.List.Elements.{All-map, All-from_all_within}
use Rattle.dac_crews.specs.Journals.{Beginning, EndsAt}
use Rattle.dac_crews.specs.Paged.{page_of, page_after}

-- the page of a node after i records is the page after them
page_here : (o : Beginning) (rs : List Record) (i : ℕ) (v : NodeValue) (p : Page) → i ≤ length rs → EndsAt o (take i rs) v → p ≡ page_of o.table i v → IsPageOf o rs p
page_here o rs i v p within ends is =
    let n : length (take i rs) ≡ i = length-take-le i rs within in
    let there : p ≡ page_after o (take i rs) = is ∙ ap (λ k. page_of o.table k v) (sym n) ∙ page_there o (take i rs) v ends in
    let place : p.place ≡ i = ap (λ (q : Page). q.place) is in
    there ∙ ap (λ k. page_after o (take k rs)) (sym place)

pub within_on : {X : Type 0} (P : X → Type 0) (xs : List X) (a b c : ℕ) → AllWithin P xs a b → AllWithin P xs b c → AllWithin P xs a c
within_on P xs a b c first second k d low high =
    elim (cases_lt k b) [ inl under ↦ first k d low under | inr over ↦ second k d over high ]

-- the pages of this place, with those of the places before it
pub pass_on : (o : Beginning) (rs : List Record) (read : List (Bor Page)) (i : ℕ) (v : NodeValue) (from to : ℕ) → i ≤ length rs → EndsAt o (take i rs) v
    → AllWithin (λ (p : Bor Page). IsPageOf o rs p.now) read 0 from → AllWithin (λ (p : Bor Page). p.now ≡ page_of o.table i v) read from to → AllWithin (λ (p : Bor Page). IsPageOf o rs p.now) read 0 to
pass_on o rs read i v from to within ends before here =
    within_on (λ (p : Bor Page). IsPageOf o rs p.now) read 0 from to before (λ k d low high. page_here o rs i v (get_or read k d).now within ends (here k d low high))

-- all pages, after the last record
pub pass_all : (o : Beginning) (rs : List Record) (read : List (Bor Page)) (to : ℕ) → to ≡ length read → AllWithin (λ (p : Bor Page). IsPageOf o rs p.now) read 0 to → All (IsPageOf o rs) (map (λ (p : Bor Page). p.now) read)
pass_all o rs read to all passed =
    All-map (IsPageOf o rs) (λ (p : Bor Page). p.now) read (All-from_all_within (λ (p : Bor Page). IsPageOf o rs p.now) read (subst (AllWithin (λ (p : Bor Page). IsPageOf o rs p.now) read 0) all passed))
