use Rattle.std.proofs.Common.{sym, subst, ◌∙◌}
use Rattle.std.proofs.lemmas.Bool.{false≢true, iff_false}
use Rattle.dac_origins.specs.Dots.{IsSubset}
use Rattle.dac_chains.specs.Greatest.{AreNotAbove}
use Rattle.dac_chains.specs.Lives.{life_cmp}
use Rattle.dac_chains.specs.Claims.{claim_cmp}
use Rattle.dac_wishes.specs.PermissionsValue.{IsPermissionsBelow}
use Rattle.dac_wishes.specs.WishesValue.{AreWishesBelow}
use Rattle.dac_wishes.specs.DrainsValue.{AreDrainsBelow}
use Rattle.dac_state.proofs.state.State.covers.Goals as goal

pub returns-then-not-holds_dot : goal.returns-then-not-holds_dot
returns-then-not-holds_dot c = (λ e. absurd (false≢true e), λ below. absurd (iff_false c.holds_dot.ensures c.if-not-holds_dot.true (subst (IsSubset _) (sym c.heard.ensures) below.heard)))

pub returns-then-not-holds_permit : goal.returns-then-not-holds_permit
returns-then-not-holds_permit c = (λ e. absurd (false≢true e), λ below. absurd (iff_false c.holds_permit.ensures c.if-not-holds_permit.true (subst (IsPermissionsBelow _) (sym c.permissions.ensures) below.permits)))

pub returns-then-not-holds_start : goal.returns-then-not-holds_start
returns-then-not-holds_start c = (λ e. absurd (false≢true e), λ below. absurd (iff_false c.holds_start.ensures c.if-not-holds_start.true (subst (AreWishesBelow _) (sym c.wishes.ensures) below.starts)))

pub returns-then-not-holds_life : goal.returns-then-not-holds_life
returns-then-not-holds_life c = (λ e. absurd (false≢true e), λ below. absurd (iff_false c.holds_life.ensures c.if-not-holds_life.true (subst (AreNotAbove life_cmp _) (sym c.lives.ensures) below.lives)))

pub returns-then-holds_claim : goal.returns-then-holds_claim
returns-then-holds_claim c = (
  λ e. record {
    heard = subst (IsSubset _) c.heard.ensures (c.holds_dot.ensures.0 c.if-not-holds_dot.false);
    permits = subst (IsPermissionsBelow _) c.permissions.ensures (c.holds_permit.ensures.0 c.if-not-holds_permit.false);
    starts = subst (AreWishesBelow _) c.wishes.ensures (c.holds_start.ensures.0 c.if-not-holds_start.false);
    lives = subst (AreNotAbove life_cmp _) c.lives.ensures (c.holds_life.ensures.0 c.if-not-holds_life.false);
    claims = subst (AreNotAbove claim_cmp _) c.claims.ensures (c.holds_claim.ensures.0 c.if-holds_claim.true);
    drains = subst (AreDrainsBelow _) c.drains.ensures (c.holds_drain.ensures.0 e);
  },
  λ below. c.holds_drain.ensures.1 (subst (AreDrainsBelow _) (sym c.drains.ensures) below.drains),
)

pub returns-else-holds_claim : goal.returns-else-holds_claim
returns-else-holds_claim c = (
  λ e. absurd (false≢true (sym c.if-holds_claim.false ∙ e)),
  λ below. c.holds_claim.ensures.1 (subst (AreNotAbove claim_cmp _) (sym c.claims.ensures) below.claims),
)
