use Rattle.std.proofs.Common.{sym, ◌∙◌}
use Rattle.dac_config.proofs.Common.{cond-true, cond-false, at_drop_more, at_drop_all, permissions_of, permitted}
use Rattle.dac_config.proofs.config.number.is_permitted.Goals as goal

pub loop-permission-preserved : goal.loop-permission-preserved
loop-permission-preserved c =
    sym (cond-false _ _ _ (sym c.if-eq.ensures)) ∙ sym (at_drop_more (λ rest. permitted (permissions_of rest) c.args.name.now) c.args.permissions.now c.loop-permission.permission-index _ c.loop-permission-test.true) ∙ c.loop-permission.invariant

pub returns-then-eq : goal.returns-then-eq
returns-then-eq c =
    sym (cond-true _ _ _ (sym c.if-eq.ensures)) ∙ sym (at_drop_more (λ rest. permitted (permissions_of rest) c.args.name.now) c.args.permissions.now c.loop-permission.permission-index _ c.loop-permission-test.true) ∙ c.loop-permission.invariant

pub returns : goal.returns
returns c = sym (at_drop_all (λ rest. permitted (permissions_of rest) c.args.name.now) c.args.permissions.now c.loop-permission.permission-index c.loop-permission-test.false) ∙ c.loop-permission.invariant
