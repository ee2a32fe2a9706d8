use Rattle.std.proofs.lemmas.Bool.{false≢true, iff_false}
use Rattle.dac_state.proofs.heard.Heard.leq.Goals as goal

pub has-requires : goal.has-requires
has-requires c = rw c.beside.ensures (λ x e. c.is_subset.ensures.0 c.if-not-is_subset.false x (c.requires x e))

pub returns-then-not-is_subset : goal.returns-then-not-is_subset
returns-then-not-is_subset c = (λ e. absurd (false≢true e), λ both. absurd (iff_false c.is_subset.ensures c.if-not-is_subset.true both.0))

pub returns : goal.returns
returns c =
    let has = rw c.beside.ensures at c.has.ensures in
    (λ e. (c.is_subset.ensures.0 c.if-not-is_subset.false, has.0 e), λ both. has.1 both.1)
