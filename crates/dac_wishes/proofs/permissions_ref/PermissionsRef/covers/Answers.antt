use Rattle.std.proofs.Common.{◌≡◌, sym, subst, ◌∙◌}
use Rattle.dac_origins.specs.Dots.{IsSubset}
use Rattle.dac_wishes.specs.Keys.{key_cmp}
use Rattle.dac_wishes.specs.PermitMeaning.{vote_of}
use Rattle.dac_wishes.specs.VotesByKey.{votes_by_key}
use Rattle.dac_wishes.specs.Covering.{permit_act, let_stand}
use Rattle.dac_wishes.proofs.Covered.{permit_covered}
use Rattle.dac_wishes.proofs.permissions_ref.PermissionsRef.covers.Goals as goal

pub returns-then-knows_all : goal.returns-then-knows_all
returns-then-knows_all c =
    let over = c.args.over.now in
    let law = permit_covered c.args.dot c.args.permit over c.args.self.now in
    let stand : c.let_stand.result ≡ let_stand key_cmp c.args.dot (vote_of (permit_act c.args.permit over)) over (votes_by_key key_cmp c.args.self.now.standing) =
    c.let_stand.ensures ∙ (λ i. let_stand key_cmp c.args.dot (c.permit_vote.ensures over i) over (c.entries.ensures i)) in
    (λ e. law.0 (subst (IsSubset _) c.context.ensures (c.knows_all.ensures.0 c.if-knows_all.true), sym stand ∙ e), λ below. stand ∙ (law.1 below).1)
