use Rattle.std.proofs.Common.{◌∙◌}
use Rattle.dac_wishes.specs.laws.Stores.{subset_left, subset_right}
use Rattle.dac_state.proofs.Hearing.{all_heard}
use Rattle.dac_state.proofs.heard.Heard.join.Goals as goal

pub both_know_no_more-requires-clause-mine : goal.both_know_no_more-requires-clause-mine
both_know_no_more-requires-clause-mine c = rw (c.in_ok-heard.ensures, c.beside.ensures, c.beside-2.ensures) (subset_left _ _)

pub both_know_no_more-requires-clause-theirs : goal.both_know_no_more-requires-clause-theirs
both_know_no_more-requires-clause-theirs c = rw (c.in_ok-heard.ensures, c.beside.ensures, c.beside-2.ensures) (subset_right _ _)

pub returns-then-both_know_no_more-clause-known : goal.returns-then-both_know_no_more-clause-known
returns-then-both_know_no_more-clause-known c =
    let heard = rw (c.beside.ensures, c.beside-2.ensures) at c.in_ok-heard.ensures in
    let both = rw heard at (c.both_know_no_more.ensures c.if-both_know_no_more.true) in
    heard ∙ all_heard _ _ _ _ c.requires.mine c.requires.theirs both.0 both.1

pub returns-then-both_know_no_more-clause-heard : goal.returns-then-both_know_no_more-clause-heard
returns-then-both_know_no_more-clause-heard c = rw (c.beside.ensures, c.beside-2.ensures) at c.in_ok-heard.ensures

pub returns-clause-known : goal.returns-clause-known
returns-clause-known c = c.in_ok-both.ensures

pub returns-clause-heard : goal.returns-clause-heard
returns-clause-heard c = rw (c.beside.ensures, c.beside-2.ensures) at c.in_ok-heard.ensures
