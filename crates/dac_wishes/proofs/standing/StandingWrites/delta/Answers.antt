use Rattle.std.proofs.Common.{◌∙◌, ap}
use Rattle.dac_wishes.specs.StoredVotes.{stored_vote}
use Rattle.dac_wishes.specs.StoredPermits.{permissions_of}
use Rattle.dac_wishes.specs.StoredWishes.{wishes_of}
use Rattle.dac_wishes.specs.StoredDrains.{drains_of}
use Rattle.dac_wishes.proofs.StandingStoring.{delta_beside, permits_of-delta, starts_of-delta, drains_of-delta}
use Rattle.dac_wishes.proofs.standing.StandingWrites.delta.Goals as goal

pub invariant_of-result : goal.invariant_of-result
invariant_of-result c =
    let over = c.args.over.now in
    let permits = c.in_ok-permits.ensures ∙ ap (stored_vote c.args.dot) (c.permit_vote.ensures over) in
    let drains = c.in_ok-drains.ensures ∙ ap (stored_vote c.args.dot) (c.drain_vote.ensures over) in
    rw (c.in_ok-known.ensures, permits, c.in_ok-starts.ensures, drains) (delta_beside c.args.dot over c.args.permit c.args.start c.args.drain)

pub returns-clause-permits : goal.returns-clause-permits
returns-clause-permits c =
    let over = c.args.over.now in
    let permits = c.in_ok-permits.ensures ∙ ap (stored_vote c.args.dot) (c.permit_vote.ensures over) in
    (λ i. permissions_of (record { store = permits i; context = c.in_ok-known.ensures i })) ∙ permits_of-delta c.args.dot c.args.permit over

pub returns-clause-starts : goal.returns-clause-starts
returns-clause-starts c = (λ i. wishes_of (record { store = c.in_ok-starts.ensures i; context = c.in_ok-known.ensures i })) ∙ starts_of-delta c.args.dot c.args.start c.args.over.now

pub returns-clause-drains : goal.returns-clause-drains
returns-clause-drains c =
    let over = c.args.over.now in
    let drains = c.in_ok-drains.ensures ∙ ap (stored_vote c.args.dot) (c.drain_vote.ensures over) in
    (λ i. drains_of (record { store = drains i; context = c.in_ok-known.ensures i })) ∙ drains_of-delta c.args.dot c.args.drain over
