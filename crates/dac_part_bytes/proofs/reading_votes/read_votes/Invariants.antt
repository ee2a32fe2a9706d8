use Rattle.std.proofs.Common.{◌≡◌, ◌-◌, Some, None}
use Rattle.dac_part_bytes.proofs.Common.{items_at, with_front, Dot, Flag, dot_cmp, vote_at, Reaches}
use Rattle.dac_part_bytes.proofs.reading_votes.read_votes.Given as goal

-- the items read so far with those of the rest make the whole, and the previous dot is the greatest so far
abbrev pub invariant-loop : goal.invariant-loop
invariant-loop l =
    (with_front l.votes (items_at (vote_at l.version l.nodes l.known l.truth) (λ (p : Dot × Flag). Some p.0) (l.count - l.counter) l.before l.rest) ≡ items_at (vote_at l.version l.nodes l.known l.truth) (λ (p : Dot × Flag). Some p.0) l.count None l.fn.reader)
    × Reaches dot_cmp (λ (p : Dot × Flag). p.0) l.before l.votes
