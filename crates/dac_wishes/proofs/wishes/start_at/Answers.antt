use Rattle.std.proofs.Common.{◌∙◌, ap, [], ◌∷◌, cond}
use Rattle.std.specs.FinSet as set
use Rattle.dac_origins.specs.Dots.{dot_cmp}
use Rattle.dac_store.specs.DotSets.{is_empty_set}
use Rattle.dac_wishes.proofs.DeltaStoring.{one_not_empty}
use Rattle.dac_wishes.proofs.wishes.start_at.Goals as goal

pub returns-in_ok-store-in-Some : goal.returns-in_ok-store-in-Some
returns-in_ok-store-in-Some c =
    rw c.in-Some.is
    (c.in_ok-store-in-Some.ensures
    ∙ ap (λ s. cond (is_empty_set s) [] ((c.in-Some.key, s) ∷ [])) c.in_ok-dots-in-Some.ensures
    ∙ ap (λ b. cond b [] ((c.in-Some.key, set.insert (set.empty {R = dot_cmp}) c.args.dot) ∷ [])) (one_not_empty c.args.dot))
