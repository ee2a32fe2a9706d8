use Rattle.std.proofs.Common.{Some, None, [], ◌∷◌, ◌++◌, ◌≡◌, sym, ◌∙◌}
use Rattle.dac_part_bytes.proofs.Common.{err_from_is_err_and, Dot, dots_total, Flag, items_at, ends, goes_on, is_done, Fails-from, vote_at, reaches_more}
use Rattle.dac_part_bytes.proofs.ReadFacts.{vote_next}
use Rattle.dac_part_bytes.proofs.ReadLoops.{pushed_is}
use Rattle.dac_part_bytes.proofs.reading_votes.read_votes.Goals as goal

pub returns-in_err-vote : goal.returns-in_err-vote
returns-in_err-vote c =
    let p = err_from_is_err_and c.from_residual.result c.from_residual.ensures.1 in
    let e = c.in_err-vote.field-0.0 in
    rw (p.1, p.2) (ends (vote_at c.args.version c.args.nodes c.args.known.now c.args.truth) (λ (x : Dot × Flag). Some x.0) e c.loop.votes c.args.count c.loop.counter c.loop.before c.loop.rest (items_at (vote_at c.args.version c.args.nodes c.args.known.now c.args.truth) (λ (x : Dot × Flag). Some x.0) c.args.count None c.args.reader) c.loop-test.true (Fails-from e.kind e (vote_at c.args.version c.args.nodes c.args.known.now c.args.truth c.loop.before c.loop.rest) c.in_err-vote.ensures.real (sym c.in_err-vote.ensures.exact)) c.loop.invariant.0)

pub loop-preserved : goal.loop-preserved
loop-preserved c =
    let x = c.in_ok-vote.vote in
    let next = vote_next c.args.version c.args.nodes c.args.known.now c.args.truth c.loop.before c.loop.rest (x, c.in_ok-vote.after) (sym c.in_ok-vote.ensures.exact) in
    let above = next.1 in
    let reached = sym (c.loop.invariant.1 x.0) ∙ above in
    let new : c.push.new.self ≡ c.loop.votes ++ x ∷ [] = pushed_is c.in_ok-push.field-0 _ c.push.new.self (c.loop.votes ++ x ∷ []) c.loop.votes c.in_ok-push.ensures.ok reached c.in_ok-push.ensures.new in
    rw new (
      goes_on (vote_at c.args.version c.args.nodes c.args.known.now c.args.truth) (λ (x : Dot × Flag). Some x.0) c.loop.votes c.args.count c.loop.counter c.loop.before c.loop.rest x c.in_ok-vote.after (items_at (vote_at c.args.version c.args.nodes c.args.known.now c.args.truth) (λ (x : Dot × Flag). Some x.0) c.args.count None c.args.reader) c.loop-test.true (sym c.in_ok-vote.ensures.exact) c.loop.invariant.0,
      reaches_more dots_total (λ (x : Dot × Flag). x.0) c.loop.before c.loop.votes x c.loop.invariant.1 above,
    )

pub returns : goal.returns
returns c = is_done (vote_at c.args.version c.args.nodes c.args.known.now c.args.truth) (λ (x : Dot × Flag). Some x.0) c.loop.votes c.args.count c.loop.counter c.loop.before c.loop.rest (items_at (vote_at c.args.version c.args.nodes c.args.known.now c.args.truth) (λ (x : Dot × Flag). Some x.0) c.args.count None c.args.reader) c.loop-test.false c.loop.invariant.0
