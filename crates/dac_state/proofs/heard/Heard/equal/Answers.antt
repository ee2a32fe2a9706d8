use Rattle.dac_wishes.specs.laws.Stores.{same_context}
use Rattle.dac_state.proofs.heard.Heard.equal.Goals as goal

pub returns-then-has : goal.returns-then-has
returns-then-has c =
    let theirs = (rw c.beside.ensures at c.has.ensures).0 c.if-has.true in
    let mine = rw c.beside-then-has.ensures at c.has-then-has.ensures in
    (λ e. same_context _ _ (mine.0 e) theirs, λ same. mine.1 (rw same (λ _ h. h)))
