use Rattle.std.proofs.Common.{◌∙◌, ap}
use Rattle.std.proofs.lemmas.Result.{on_ok_weaker}
use Rattle.dac_wishes.specs.StandingValue.{StandingValue}
use Rattle.dac_state.proofs.Hearing.{all_known, all_with}
use Rattle.dac_state.proofs.heard.Heard.absorb.Goals as goal

pub returns-then-is_all_with-clause-heard : goal.returns-then-is_all_with-clause-heard
returns-then-is_all_with-clause-heard c =
    let within = rw (c.known.ensures, c.known-in-All.ensures) at (c.is_all_with.ensures c.if-is_all_with.true) in
    rw c.in-All.is (on_ok_weaker c.absorb.result (λ e. ap (λ (z : StandingValue). z.known) e ∙ all_with _ _ _ c.requires.theirs within) c.absorb.ensures.ok)

pub returns-then-is_subset-clause-heard : goal.returns-then-is_subset-clause-heard
returns-then-is_subset-clause-heard c =
    let joined = c.in_ok-absorb_both-in-These.ensures in
    let heard = rw (c.beside-theirs-in-These.ensures, c.known-in-These.ensures) at joined.heard in
    let within = rw (c.known-in-These-2.ensures, joined.standing, heard) at (c.is_subset.ensures.0 c.if-is_subset.true) in
    rw c.in-These.is (ap (λ (z : StandingValue). z.known) joined.standing ∙ all_known _ _ _ _ (rw c.in-These.is at c.requires.mine) c.requires.theirs within)
