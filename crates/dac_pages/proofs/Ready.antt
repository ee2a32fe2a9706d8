-- The page that is prepared.
use Rattle.std.proofs.Common.{◌≡◌, List, [], ◌∷◌, ◌++◌, fold, None, Some, unwrap_or, Result, Ok, Err, IsOk, MatchResult, refl, ap}
use Rattle.std.proofs.lemmas.List.Sums.{fold-append}
use Rattle.dac_pages.specs.declared.page.Page.{Page}
use Rattle.dac_pages.specs.declared.page.Update.{Update}
use Rattle.dac_pages.specs.Published.{ready_by, updated}

pub ready-push : (page : Page) (us : List Update) (u : Update) → ready_by page (us ++ u ∷ []) ≡ Some (updated (unwrap_or (ready_by page us) page) u)
ready-push page [] u = refl
ready-push page (v ∷ us) u = ap Some (fold-append updated (updated page v) us (u ∷ []))

-- absorbing the updates leaves the page that is prepared
pub taken_in : (us : List Update) (page ready : Page) → ready_by page us ≡ Some ready → fold updated page us ≡ ready
taken_in [] page ready e = absurd (cc)
taken_in (u ∷ us) page ready e = cc

pub ready-none : (page : Page) (us : List Update) → us ≡ [] → ready_by page us ≡ None
ready-none page us e = ap (ready_by page) e

-- the clause for `Ok` holds of a call that succeeds
pub if_ok : {A B P : Type 0} (Q : B → Type 0) (r : Result A B) → IsOk r → MatchResult r (λ _. P) Q → P
if_ok Q (Ok a) ok m = m
if_ok Q (Err b) ok m = absurd (cc)
